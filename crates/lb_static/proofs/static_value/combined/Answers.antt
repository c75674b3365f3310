use Rattle.std.proofs.Common.{rules}
use Rattle.std.proofs.lemmas.Int.{rem_is}
use Rattle.std.proofs.Common.{ap, sym, ◌∙◌}
use Rattle.lb_static.specs.Arithmetic.{arithmetic}
use Rattle.lb_static.proofs.Quotients.{divides, quotient_is, quotient_within, remainder_within}
use Rattle.lb_static.proofs.static_value.combined.Goals as goal

pub overflow_add-a : goal.overflow_add-a
overflow_add-a c = search rules

pub overflow_sub-a : goal.overflow_sub-a
overflow_sub-a c = search rules

pub returns-in_err-checked_mul-in-Times : goal.returns-in_err-checked_mul-in-Times
returns-in_err-checked_mul-in-Times c = search rules

pub nonzero_div-result : goal.nonzero_div-result
nonzero_div-result c =
    divides c.get-a.result c.get-b.result c.get-a.ensures.within c.get-b.ensures.within
    (sym c.if-is_divisible.ensures)

pub invariant_of-result : goal.invariant_of-result
invariant_of-result c =
    quotient_within c.get-a.result c.get-b.result c.get-a.ensures.within c.get-b.ensures.within

pub nonzero_rem-result : goal.nonzero_rem-result
nonzero_rem-result c =
    divides c.get-a.result c.get-b.result c.get-a.ensures.within c.get-b.ensures.within
    (sym c.if-is_divisible-2.ensures)

pub invariant_of-result-in-Modulo : goal.invariant_of-result-in-Modulo
invariant_of-result-in-Modulo c =
    remainder_within c.get-a.result c.get-b.result c.get-a.ensures.within c.get-b.ensures.within

pub returns-in-Plus : goal.returns-in-Plus
returns-in-Plus c = search rules

pub returns-in-Minus : goal.returns-in-Minus
returns-in-Minus c = search rules

pub returns-in_ok-checked_mul-in-Times : goal.returns-in_ok-checked_mul-in-Times
returns-in_ok-checked_mul-in-Times c = search rules

pub returns-in-Divide : goal.returns-in-Divide
returns-in-Divide c =
    quotient_is c.args.op c.get-a.result c.get-b.result c.in-Divide.is c.get-a.ensures.within
    c.get-b.ensures.within (sym c.if-is_divisible.ensures)
    ∙ ap (λ z. arithmetic c.args.op z c.get-b.result) c.get-a.ensures.value
    ∙ ap (arithmetic c.args.op c.args.a) c.get-b.ensures.value

pub returns-in-Modulo : goal.returns-in-Modulo
returns-in-Modulo c = search (rules, rem_is)

pub returns-in_default : goal.returns-in_default
returns-in_default c = search rules
