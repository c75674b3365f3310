-- The types that are done stand before those that are left.
use Rattle.std.proofs.Common.{◌∷◌, [], ap, sym, ◌∙◌, map, option_map}
use Rattle.std.proofs.lemmas.List.{map-append}
use Rattle.std.proofs.lemmas.Option.{get_or_from_slice_get, slice_get-get_or}
use Rattle.lb_static.specs.StoredTypes.{declared_type, declared_types, view_type, view_types}
use Rattle.lb_static.proofs.Options.{one_more, one_missing, all_done}
use Rattle.lb_static.proofs.data_type.data_types.Goals as goal

pub loop-variable-preserved : goal.loop-variable-preserved
loop-variable-preserved c =
    let statics = c.args.statics.now in
    let variables = c.args.variables.now in
    let i = c.loop-variable.variable-index in
    let found = c.loop-variable.found in
    let is = sym (ap (option_map view_type) c.in-Some.is) ∙ c.in_ok-data_type.ensures in
    one_more (declared_type statics) variables i _ (view_type c.in-Some.data_type)
    (view_types found) (view_types c.push.new.self) (declared_types statics variables)
    c.loop-variable-test.true
    (sym (get_or_from_slice_get variables i _ _
    (slice_get-get_or variables i _ c.loop-variable-test.true))) is
    (ap (map view_type) c.in_ok-push-in-Some.ensures.items
    ∙ map-append view_type found.items (c.in-Some.data_type ∷ []))
    c.loop-variable.invariant

pub returns-in-None : goal.returns-in-None
returns-in-None c =
    let statics = c.args.statics.now in
    let variables = c.args.variables.now in
    let i = c.loop-variable.variable-index in
    let is = sym (ap (option_map view_type) c.in-None.is) ∙ c.in_ok-data_type.ensures in
    one_missing (declared_type statics) variables i _ (view_types c.loop-variable.found)
    (declared_types statics variables) c.loop-variable-test.true
    (sym (get_or_from_slice_get variables i _ _
    (slice_get-get_or variables i _ c.loop-variable-test.true))) is c.loop-variable.invariant

pub returns : goal.returns
returns c =
    let statics = c.args.statics.now in
    all_done (declared_type statics) c.args.variables.now c.loop-variable.variable-index
    (view_types c.loop-variable.found) (declared_types statics c.args.variables.now)
    c.loop-variable-test.false c.loop-variable.invariant
