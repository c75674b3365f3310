use Rattle.lb_check.proofs.{Words.{None, Some, sym}, clocking.ClockSetRows.base_at}
use Rattle.lb_check.proofs.call_clock.base_of.Goals as goal

pub returns-in-Some : goal.returns-in-Some
returns-in-Some c =
    sym (base_at c.args.parameters.now c.args.operands.now c.loop-i.i _ _ _
    (Some c.in-Some.base) _ c.loop-i-test.true c.if-operands-i.false c.determined.ensures
    c.in-Some.is c.loop-i.invariant)

pub loop-i-preserved : goal.loop-i-preserved
loop-i-preserved c =
    base_at c.args.parameters.now c.args.operands.now c.loop-i.i _ _ _ None _
    c.loop-i-test.true c.if-operands-i.false c.determined.ensures c.in_default.is
    c.loop-i.invariant
