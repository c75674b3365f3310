-- The plan has the numbers that were put in order.
use Rattle.std.proofs.Common.{sym, subst, arith}
use Rattle.lb_plan.specs.Plans.{IsByLength}
use Rattle.lb_plan.proofs.plan.Plan.by_length.Goals as goal

pub of_numbers-requires-clause-few : goal.of_numbers-requires-clause-few
of_numbers-requires-clause-few c =
    omega (arith, c.in_ok-numbers.ensures.count, c.in_ok-numbers.ensures.limit)

pub returns-clause-order : goal.returns-clause-order
returns-clause-order c =
    subst (IsByLength c.args.set.now.traces) (sym c.of_numbers.ensures.numbers)
    c.in_ok-numbers.ensures.order
