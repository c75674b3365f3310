use Rattle.std.proofs.Common.{◌≡◌, drop}
use Rattle.lb_static.specs.CalledNodes.{callees}
use Rattle.lb_static.specs.WorkLists.{visited_after_all}
use Rattle.lb_static.proofs.resolve_reachable.visit_callees.Given as goal

abbrev pub invariant-loop-call : goal.invariant-loop-call
invariant-loop-call l = record {
  count : l.work_list.count ≡ l.initial.work_list.count;
  order : visited_after_all l.work_list.order (callees (drop l.call-index l.calls))
      ≡ visited_after_all l.initial.work_list.order (callees l.calls);
}
