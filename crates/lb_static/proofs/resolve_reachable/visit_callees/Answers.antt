-- The calls that are left are visited next.
use Rattle.std.proofs.Common.{◌+◌, drop, ap, sym, ◌∙◌}
use Rattle.std.proofs.Math.ListN.{drop_of_length-le}
use Rattle.lb_static.specs.CalledNodes.{callees}
use Rattle.lb_static.specs.WorkLists.{visited_after_all}
use Rattle.lb_static.proofs.CalledNodes.{visit_next}
use Rattle.lb_static.proofs.resolve_reachable.visit_callees.Goals as goal

pub loop-call-preserved : goal.loop-call-preserved
loop-call-preserved c =
    let calls = c.args.calls.now in
    let i = c.loop-call.call-index in
    record {
      count = c.in_ok-visit.ensures.count ∙ c.loop-call.invariant.count;
      order = ap (λ o. visited_after_all o (callees (drop (i + 1) calls)))
          c.in_ok-visit.ensures.order
          ∙ visit_next c.loop-call.work_list.order calls i _ c.loop-call-test.true
          ∙ c.loop-call.invariant.order;
    }

pub returns-clause-order : goal.returns-clause-order
unfolding visited_after_all
returns-clause-order c =
    ap (λ l. visited_after_all c.loop-call.work_list.order (callees l))
    (sym (drop_of_length-le c.args.calls.now c.loop-call-test.false)) ∙ c.loop-call.invariant.order
