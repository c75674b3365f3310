-- The plan is one over all traces.
use Rattle.std.proofs.Common.{length, refl}
use Rattle.std.proofs.lemmas.Result.{IfOk-weaker}
use Rattle.lb_report.proofs.Planning.{is_over_all}
use Rattle.lb_report.proofs.live.plan_of.Goals as goal

pub returns-then-options : goal.returns-then-options
returns-then-options c =
    let n = length c.args.set.now.traces in
    IfOk-weaker c.by_length.result _ _
    (λ p is. is_over_all n n c.args.options.now.batch p is refl) c.by_length.ensures.plan

pub returns-else-options : goal.returns-else-options
returns-else-options c =
    let n = length c.args.set.now.traces in
    IfOk-weaker c.in_order.result _ _
    (λ p is. is_over_all c.len.result n c.args.options.now.batch p is c.len.ensures.count)
    c.in_order.ensures.plan
