use Rattle.std.proofs.Common.{◌≡◌, ◌-◌}
use Rattle.lb_syntax.specs.SourceView.{view_source}
use Rattle.lb_static.proofs.CheckedConstants.{AreJudged}
use Rattle.lb_static.proofs.constant_names.check_visited.Given as goal

abbrev pub invariant-loop-place : goal.invariant-loop-place
invariant-loop-place l = record {
  count : l.work_list.count ≡ l.globals.constants;
  judged : AreJudged (view_source l.source) l.globals l.initial.work_list.order l.work_list.order
      l.done;
}

abbrev pub decreases-loop-place : goal.decreases-loop-place
decreases-loop-place l = l.globals.constants - l.done
