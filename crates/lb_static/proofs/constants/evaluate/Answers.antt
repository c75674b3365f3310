-- The value of a constant follows from the known values.
use Rattle.std.proofs.Common.{◌∙◌, sym, length, get_or, Some, None}
use Rattle.std.proofs.lemmas.List.{length-map}
use Rattle.lb_syntax.specs.SourceView.{view_constant}
use Rattle.lb_static.specs.ConstantValues.{names_of, read_constants}
use Rattle.lb_static.proofs.ConstantSteps.{constant_at, known_more, none_at, place_held}
use Rattle.lb_static.proofs.ConstantSteps.{sound_more, stable_at, stable_held, value_had}
use Rattle.lb_static.proofs.constants.evaluate.Goals as goal

pub returns-in-Some-clause-sound : goal.returns-in-Some-clause-sound
returns-in-Some-clause-sound c =
    let ks = c.args.constants.now in
    let k = get_or ks c.args.place c.index-constants-place.result in
    let i = c.args.place in
    let as_many = c.requires.sound.as_many ∙ length-map ks (λ d. view_constant d.now) in
    sound_more (read_constants ks) c.args.values.now i (view_constant k.now) c.in-Some.value
    c.requires.sound
    (constant_at ks i c.index-constants-place.result c.requires.within)
    (none_at c.args.values.now (length ks) i c.index-values-place.result as_many c.requires.within
    (sym c.is_some.ensures ∙ c.if-is_some.false))
    (value_had c.args.names.now (names_of (read_constants ks)) c.args.values.now
    (view_constant k.now).value (Some c.in-Some.value) c.requires.same_names c.in-Some.ensures)

pub returns-in-None-clause-stable : goal.returns-in-None-clause-stable
returns-in-None-clause-stable c _ =
    let ks = c.args.constants.now in
    let k = get_or ks c.args.place c.index-constants-place.result in
    stable_at (read_constants ks) c.args.values.now c.args.place (view_constant k.now)
    (constant_at ks c.args.place c.index-constants-place.result c.requires.within)
    (value_had c.args.names.now (names_of (read_constants ks)) c.args.values.now
    (view_constant k.now).value None c.requires.same_names c.in-None.ensures)

pub bounds-values-place : goal.bounds-values-place
bounds-values-place c =
    place_held c.args.constants.now c.args.values.now c.args.place c.requires.sound
    c.requires.within

pub bounds-values-place-in-Some : goal.bounds-values-place-in-Some
bounds-values-place-in-Some c =
    place_held c.args.constants.now c.args.values.now c.args.place c.requires.sound
    c.requires.within

pub returns-in-Some-clause-more : goal.returns-in-Some-clause-more
returns-in-Some-clause-more c _ =
    let ks = c.args.constants.now in
    let as_many = c.requires.sound.as_many ∙ length-map ks (λ d. view_constant d.now) in
    known_more c.args.values.now c.args.place c.in-Some.value
    (none_at c.args.values.now (length ks) c.args.place c.index-values-place.result as_many
    c.requires.within (sym c.is_some.ensures ∙ c.if-is_some.false))

pub returns-then-is_some-clause-stable : goal.returns-then-is_some-clause-stable
returns-then-is_some-clause-stable c _ =
    stable_held (read_constants c.args.constants.now) c.args.values.now c.args.place
    c.index-values-place.result (sym c.is_some.ensures ∙ c.if-is_some.true)
