use Rattle.lb_check.proofs.{Words.{sym, ◌∙◌}, clocking.WholeClocks.{circle_found, input_broken}}
use Rattle.lb_check.proofs.{clocking.WholeClocks.output_broken, definitions.BrokenRules.if_found}
use Rattle.lb_check.proofs.clock.ill_declared_clock.Goals as goal

pub returns-in-Some : goal.returns-in-Some
returns-in-Some c = λ nodes resolved distinct.
    input_broken nodes c.args.node.now resolved distinct c.deref.result.now c.in-Some.i
    c.deref.ensures.value (sym c.first_waiting_past.ensures.first ∙ c.in-Some.is)

pub returns-in-Some-first_waiting_past : goal.returns-in-Some-first_waiting_past
returns-in-Some-first_waiting_past c = λ nodes resolved distinct.
    output_broken nodes c.args.node.now resolved distinct c.deref-2.result.now
    c.in-Some-first_waiting_past.i c.deref-2.ensures.value
    (sym c.first_waiting_past-2.ensures.first ∙ c.in-Some-first_waiting_past.is)

pub returns : goal.returns
returns c = λ nodes resolved distinct.
    if_found c.first_in_circle.result _ _ c.first_in_circle.ensures
    (λ o circle. circle_found nodes c.args.node.now resolved distinct o c.deref.result.now
    c.deref-2.result.now c.deref-3.result.now c.deref.ensures.value c.deref-2.ensures.value
    c.deref-3.ensures.value (sym c.first_waiting_past.ensures.first ∙ c.in_default.is)
    (sym c.first_waiting_past-2.ensures.first ∙ c.in_default-first_waiting_past.is) circle)
