use Rattle.lb_check.proofs.Words.{true, false, ap, sym, not, is_some, Variable}
use Rattle.lb_check.proofs.lists.ListPairs.{tested_at}
use Rattle.lb_check.proofs.call_clock.is_base_clocked.Goals as goal

pub loop-variable-preserved : goal.loop-variable-preserved
loop-variable-preserved c =
    tested_at (λ (v : Variable). not (is_some v.clock)) c.parameters-variable-items.result.now
    c.loop-variable.variable-index _ (not c.is_some.result) true _ c.loop-variable-test.true
    (ap not c.is_some.ensures) (ap not c.if-is_some.false) c.loop-variable.invariant

pub returns-then-is_some : goal.returns-then-is_some
returns-then-is_some c =
    sym (tested_at (λ (v : Variable). not (is_some v.clock))
    c.parameters-variable-items.result.now c.loop-variable.variable-index _
    (not c.is_some.result) false _ c.loop-variable-test.true (ap not c.is_some.ensures)
    (ap not c.if-is_some.true) c.loop-variable.invariant)
