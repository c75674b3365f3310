use Rattle.std.proofs.Common.{◌∙◌, ◌++◌, ap, sym}
use Rattle.std.specs.List.{range_with_len}
use Rattle.lb_flat.specs.Programs.{numbers_of}
use Rattle.lb_reason.specs.Deciding.{first_of, is_bad}
use Rattle.lb_reason.specs.Moments.{row_now}
use Rattle.lb_reason.proofs.Firsts.{found_in_front, none_in_front}
use Rattle.lb_reason.proofs.finding.bad_place.Goals as goal

pub returns-then-is_some : goal.returns-then-is_some
returns-then-is_some c =
    let p = c.args.program.now in
    let row = row_now c.args.moment.now in
    found_in_front is_bad row (range_with_len 0 p.variables)
    (numbers_of p.memory_operands.items ++ numbers_of p.asserted.items)
    c.bad_variable-variable.result (sym c.is_some.ensures ∙ c.if-is_some.true)
    c.bad_variable-variable.ensures

pub returns-then-is_some-2 : goal.returns-then-is_some-2
returns-then-is_some-2 c =
    let p = c.args.program.now in
    let row = row_now c.args.moment.now in
    let kept = c.first_among-kept.ensures
    ∙ ap (λ es. first_of is_bad row (numbers_of es)) c.deref.ensures.value in
    none_in_front is_bad row (range_with_len 0 p.variables)
    (numbers_of p.memory_operands.items ++ numbers_of p.asserted.items)
    c.bad_variable-variable.result _ (sym c.is_some.ensures ∙ c.if-is_some.false)
    c.bad_variable-variable.ensures
    (found_in_front is_bad row (numbers_of p.memory_operands.items) (numbers_of p.asserted.items)
    c.first_among-kept.result (sym c.is_some-2.ensures ∙ c.if-is_some-2.true) kept)

pub returns : goal.returns
returns c =
    let p = c.args.program.now in
    let row = row_now c.args.moment.now in
    let kept = c.first_among-kept.ensures
    ∙ ap (λ es. first_of is_bad row (numbers_of es)) c.deref.ensures.value in
    let asserted = c.first_among.ensures
    ∙ ap (λ es. first_of is_bad row (numbers_of es)) c.deref-2.ensures.value in
    none_in_front is_bad row (range_with_len 0 p.variables)
    (numbers_of p.memory_operands.items ++ numbers_of p.asserted.items)
    c.bad_variable-variable.result _ (sym c.is_some.ensures ∙ c.if-is_some.false)
    c.bad_variable-variable.ensures
    (none_in_front is_bad row (numbers_of p.memory_operands.items) (numbers_of p.asserted.items)
    c.first_among-kept.result _ (sym c.is_some-2.ensures ∙ c.if-is_some-2.false) kept asserted)
