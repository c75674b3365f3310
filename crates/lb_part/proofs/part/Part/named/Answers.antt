use Rattle.std.proofs.Common.{◌≡◌, ◌∙◌, List, ℕ, ap, arith, subst, sym}
use Rattle.std.specs.Str.Parse.{digits_value}
use Rattle.lb_part.specs.Counts.{IsCount}
use Rattle.lb_part.specs.Parts.{Names}
use Rattle.lb_part.specs.declared.part.Part.{Part}
use Rattle.lb_part.proofs.Slashes.{halves_none, halves_some, none_if}
use Rattle.lb_part.proofs.part.Part.named.Goals as goal

pub returns-in_err-first-clause-none : goal.returns-in_err-first-clause-none
returns-in_err-first-clause-none c =
    none_if c.from_residual.result ((part : Part) → Names c.args.text.now part → ⊥)
    (λ part is. halves_none c.args.text.now c.split_once.result part c.split_once.ensures.cases
    c.in_err-first.was is)

pub returns-in_err-number-clause-none : goal.returns-in_err-number-clause-none
returns-in_err-number-clause-none c =
    none_if c.from_residual-in_err-number.result ((part : Part) → Names c.args.text.now part → ⊥)
    (λ part is.
    let cut = halves_some c.args.text.now c.split_once.result part
    (c.in_ok-first.first, c.in_ok-first.second)
    c.split_once.ensures.cases c.in_ok-first.was is in
    c.in_err-number.ensures.none part.number
    (subst (λ (text : List ℕ). IsCount text part.number) (sym cut.0) is.number))

pub returns-in_err-count-clause-none : goal.returns-in_err-count-clause-none
returns-in_err-count-clause-none c =
    none_if c.from_residual-in_err-count.result ((part : Part) → Names c.args.text.now part → ⊥)
    (λ part is.
    let cut = halves_some c.args.text.now c.split_once.result part
    (c.in_ok-first.first, c.in_ok-first.second)
    c.split_once.ensures.cases c.in_ok-first.was is in
    c.in_err-count.ensures.none part.count
    (subst (λ (text : List ℕ). IsCount text part.count) (sym cut.1) is.count))

pub returns-then-number-count-clause-none : goal.returns-then-number-count-clause-none
returns-then-number-count-clause-none c =
    λ part is.
    let cut = halves_some c.args.text.now c.split_once.result part
    (c.in_ok-first.first, c.in_ok-first.second)
    c.split_once.ensures.cases c.in_ok-first.was is in
    let number : c.in_ok-number.number ≡ part.number =
    sym c.in_ok-number.ensures.some.value ∙ ap (digits_value 10) cut.0 ∙ is.number.value in
    let count : c.in_ok-count.count ≡ part.count =
    sym c.in_ok-count.ensures.some.value ∙ ap (digits_value 10) cut.1 ∙ is.count.value in
    omega (arith, number, count, is.within, c.if-number-count.true)
