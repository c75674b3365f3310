-- A hidden name, and a name that is not that of a constant, are skipped.
use Rattle.std.proofs.Common.{◌≡◌, true, false, ap, sym, ◌∙◌}
use Rattle.lb_static.specs.NamedConstants.{constant_place}
use Rattle.lb_static.specs.Parts.{among}
use Rattle.lb_static.proofs.ConstantPlaces.{visit_hidden, visit_known, visit_unknown}
use Rattle.lb_static.proofs.constant_names.visit_name.Goals as goal

pub returns-then-is_among-clause-order : goal.returns-then-is_among-clause-order
returns-then-is_among-clause-order c =
    let x = c.args.name.now in
    let hidden : among x c.args.hidden.now ≡ true = sym c.is_among.ensures ∙ c.if-is_among.true in
    visit_hidden c.args.work_list.now.order c.args.globals.now c.args.hidden.now x hidden

pub returns-in_ok-visit-clause-order : goal.returns-in_ok-visit-clause-order
returns-in_ok-visit-clause-order c =
    let x = c.args.name.now in
    let hidden : among x c.args.hidden.now ≡ false = sym c.is_among.ensures ∙ c.if-is_among.false in
    c.in_ok-visit.ensures.order
    ∙ visit_known c.args.work_list.now.order c.args.globals.now c.args.hidden.now x c.in-Some.place
    hidden
    (ap (constant_place c.args.globals.now.names c.args.globals.now.constants)
    (sym c.as_str.ensures) ∙ sym c.in-Some.ensures.value)

pub returns-in_default-clause-order : goal.returns-in_default-clause-order
returns-in_default-clause-order c =
    let x = c.args.name.now in
    let hidden : among x c.args.hidden.now ≡ false = sym c.is_among.ensures ∙ c.if-is_among.false in
    visit_unknown c.args.work_list.now.order c.args.globals.now c.args.hidden.now x hidden
    (ap (constant_place c.args.globals.now.names c.args.globals.now.constants)
    (sym c.as_str.ensures) ∙ sym c.in_default.ensures.value)
