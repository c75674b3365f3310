use Rattle.lb_check.proofs.Words.{Some, ap, are_one, context_in, kept_in, results, subst, sym}
use Rattle.lb_check.proofs.{Words.{truth, ◌∙◌}, typing.TypeRows.{equal_one, type_is_only}}
use Rattle.lb_check.specs.PlacedTypes.{IsStatementWalked}
use Rattle.lb_check.proofs.type_rules.is_statement_typed.Goals as goal

pub returns-in_ok-own-in-Assertion : goal.returns-in_ok-own-in-Assertion
returns-in_ok-own-in-Assertion c =
    let ctx = context_in c.args.env.now in
    let w = c.in_ok-own-in-Assertion.ensures in
    subst (λ s. IsStatementWalked ctx s (kept_in c.args.parts.now) (kept_in c.walk.new.parts)
    c.is_truth.result) (sym c.in-Assertion.is) (
      c.is_truth.ensures
          ∙ (ap (λ o. are_one o (Some truth)) (w.0 ∙ type_is_only ctx c.in-Assertion.term)
          ∙ sym (equal_one (results ctx c.in-Assertion.term) (Some truth))),
      w.1,
    )
