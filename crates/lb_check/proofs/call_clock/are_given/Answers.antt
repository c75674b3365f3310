use Rattle.lb_check.proofs.{Words.{Variable, false, is_given, sym, true}, lists.ListPairs.tested_at}
use Rattle.lb_check.proofs.call_clock.are_given.Goals as goal

pub loop-variable-preserved : goal.loop-variable-preserved
loop-variable-preserved c =
    tested_at (λ (v : Variable). is_given c.args.callee.now.inputs c.args.operands.now v.clock)
    c.parameters-variable-items.result.now c.loop-variable.variable-index _ _ true _
    c.loop-variable-test.true c.is_given.ensures c.if-not-is_given.false
    c.loop-variable.invariant

pub returns-then-not-is_given : goal.returns-then-not-is_given
returns-then-not-is_given c =
    sym (tested_at
    (λ (v : Variable). is_given c.args.callee.now.inputs c.args.operands.now v.clock)
    c.parameters-variable-items.result.now c.loop-variable.variable-index _ _ false _
    c.loop-variable-test.true c.is_given.ensures c.if-not-is_given.true
    c.loop-variable.invariant)
