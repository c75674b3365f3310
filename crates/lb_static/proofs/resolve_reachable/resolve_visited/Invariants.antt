use Rattle.std.proofs.Common.{◌≡◌, ◌-◌, length}
use Rattle.lb_syntax.specs.SourceView.{view_source}
use Rattle.lb_static.specs.CalledNodes.{AreResolved}
use Rattle.lb_static.proofs.resolve_reachable.resolve_visited.Given as goal

abbrev pub invariant-loop-place : goal.invariant-loop-place
invariant-loop-place l = record {
  count : l.work_list.count ≡ length l.source.nodes.items;
  resolved : AreResolved (view_source l.source) l.initial.work_list.order l.work_list.order
      l.nodes.items;
}

abbrev pub decreases-loop-place : goal.decreases-loop-place
decreases-loop-place l = length l.source.nodes.items - length l.nodes.items
