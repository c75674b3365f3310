use Rattle.std.proofs.Common.{◌∙◌, ◌++◌, [], ◌∷◌, ap, sym}
use Rattle.lb_flat.specs.Programs.{numbers_of}
use Rattle.lb_reason.specs.Deciding.{first_of, is_nil}
use Rattle.lb_reason.specs.Moments.{row_now}
use Rattle.lb_reason.proofs.Firsts.{found_in_front, none_in_front}
use Rattle.lb_reason.proofs.finding.nil_place.Goals as goal

pub returns-then-is_some : goal.returns-then-is_some
returns-then-is_some c =
    let p = c.args.program.now in
    let row = row_now c.args.moment.now in
    let clock = c.first_among-clock.ensures
    ∙ ap (λ es. first_of is_nil row (numbers_of es)) c.deref.ensures.value in
    found_in_front is_nil row (numbers_of p.clock_elements.items)
    (numbers_of p.asserted.items ++ p.property.0 ∷ []) c.first_among-clock.result
    (sym c.is_some.ensures ∙ c.if-is_some.true) clock

pub returns-then-is_some-2 : goal.returns-then-is_some-2
returns-then-is_some-2 c =
    let p = c.args.program.now in
    let row = row_now c.args.moment.now in
    let clock = c.first_among-clock.ensures
    ∙ ap (λ es. first_of is_nil row (numbers_of es)) c.deref.ensures.value in
    let asserted = c.first_among-asserted.ensures
    ∙ ap (λ es. first_of is_nil row (numbers_of es)) c.deref-2.ensures.value in
    none_in_front is_nil row (numbers_of p.clock_elements.items)
    (numbers_of p.asserted.items ++ p.property.0 ∷ []) c.first_among-clock.result _
    (sym c.is_some.ensures ∙ c.if-is_some.false) clock
    (found_in_front is_nil row (numbers_of p.asserted.items) (p.property.0 ∷ [])
    c.first_among-asserted.result (sym c.is_some-2.ensures ∙ c.if-is_some-2.true) asserted)

pub returns : goal.returns
returns c =
    let p = c.args.program.now in
    let row = row_now c.args.moment.now in
    let clock = c.first_among-clock.ensures
    ∙ ap (λ es. first_of is_nil row (numbers_of es)) c.deref.ensures.value in
    let asserted = c.first_among-asserted.ensures
    ∙ ap (λ es. first_of is_nil row (numbers_of es)) c.deref-2.ensures.value in
    none_in_front is_nil row (numbers_of p.clock_elements.items)
    (numbers_of p.asserted.items ++ p.property.0 ∷ []) c.first_among-clock.result _
    (sym c.is_some.ensures ∙ c.if-is_some.false) clock
    (none_in_front is_nil row (numbers_of p.asserted.items) (p.property.0 ∷ [])
    c.first_among-asserted.result _ (sym c.is_some-2.ensures ∙ c.if-is_some-2.false) asserted
    c.first_among.ensures)
