use Rattle.lb_check.proofs.Words.{true, false, sym, ◌∙◌, given_in}
use Rattle.lb_check.proofs.clocking.ClockSetRows.{fit_at, fit_short}
use Rattle.lb_check.proofs.call_clock.all_fit.Goals as goal

pub loop-i-preserved : goal.loop-i-preserved
loop-i-preserved c =
    fit_at c.args.base (given_in c.args.given.now) c.args.parameters.now c.args.operands.now
    c.loop-i.i _ _ _ _ true _ c.loop-i-test.true c.if-operands-i.false c.expected-clock.ensures
    c.accepts_clock.ensures c.if-not-accepts_clock.false c.loop-i.invariant

pub returns-then-not-accepts_clock : goal.returns-then-not-accepts_clock
returns-then-not-accepts_clock c =
    sym (fit_at c.args.base (given_in c.args.given.now) c.args.parameters.now
    c.args.operands.now c.loop-i.i _ _ _ _ false _ c.loop-i-test.true c.if-operands-i.false
    c.expected-clock.ensures c.accepts_clock.ensures c.if-not-accepts_clock.true
    c.loop-i.invariant)

pub returns-then-operands-i : goal.returns-then-operands-i
returns-then-operands-i c =
    sym (c.loop-i.invariant ∙ fit_short c.args.base (given_in c.args.given.now)
    c.args.parameters.now c.args.operands.now c.loop-i.i c.if-operands-i.true)
