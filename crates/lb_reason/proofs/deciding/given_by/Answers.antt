use Rattle.std.proofs.Common.{◌∙◌, refl}
use Rattle.lb_reason.proofs.Chains.{none_given, one_given, other_given}
use Rattle.lb_reason.proofs.deciding.given_by.Goals as goal

pub loop-q-init : goal.loop-q-init
loop-q-init c = λ clocks. refl

pub loop-q-preserved : goal.loop-q-preserved
loop-q-preserved c = λ clocks.
    other_given clocks c.args.equations.now c.loop-q.q-index c.args.element.0 _
    c.loop-q-test.true c.if-q-element.false
    ∙ c.loop-q.invariant clocks

pub returns-then-q-element : goal.returns-then-q-element
returns-then-q-element c = λ clocks.
    one_given clocks c.args.equations.now c.loop-q.q-index c.args.element.0 _
    c.loop-q-test.true c.if-q-element.true
    ∙ c.loop-q.invariant clocks

pub returns : goal.returns
returns c = λ clocks.
    none_given clocks c.args.equations.now c.loop-q.q-index c.args.element.0
    c.loop-q-test.false
    ∙ c.loop-q.invariant clocks
