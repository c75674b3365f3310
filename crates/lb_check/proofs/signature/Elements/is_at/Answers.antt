-- The type of the variable at a place, if there is one.
use Rattle.lb_check.proofs.Words.{None, ap, sym, refl, ◌∙◌, option_map, slice_get, slice_get-map}
use Rattle.lb_check.proofs.Words.{either_or, declared_type}
use Rattle.lb_static.proofs.Lookups.{held, past}
use Rattle.lb_check.specs.TermSignatures.{elements_in, is_type_with, type_with}
use Rattle.lb_check.proofs.signature.Elements.is_at.Goals as goal

pub returns-in-Some : goal.returns-in-Some
returns-in-Some c =
    let vs = c.in-Declared.variables.now in
    let statics = c.in-Declared.statics.now in
    let v = c.in-Some.variable.now in
    c.is_type_of-in-Some.ensures
    ∙ ap (λ l. is_type_with (type_with v.kind l) c.args.kind c.args.sizes.now)
    c.part_of-values.ensures
    ∙ sym (ap (λ o. is_type_with (either_or o None) c.args.kind c.args.sizes.now)
    (ap (λ e. slice_get (elements_in e) c.args.place) c.in-Declared.is
    ∙ slice_get-map (declared_type statics) vs c.args.place
    ∙ ap (option_map (declared_type statics)) (held vs vs c.args.place v refl
    c.in-Some.ensures.lookup.3.0 c.in-Some.ensures.lookup.1)))

pub returns-in-None : goal.returns-in-None
returns-in-None c =
    let vs = c.in-Declared.variables.now in
    let statics = c.in-Declared.statics.now in
    sym (ap (λ o. is_type_with (either_or o None) c.args.kind c.args.sizes.now)
    (ap (λ e. slice_get (elements_in e) c.args.place) c.in-Declared.is
    ∙ slice_get-map (declared_type statics) vs c.args.place
    ∙ ap (option_map (declared_type statics))
    (past vs vs c.args.place refl c.in-None.ensures.lookup.3)))
