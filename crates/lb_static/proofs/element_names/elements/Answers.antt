-- The elements of one more variable, and room for those of the variables that are left.
use Rattle.std.proofs.Common.{◌≡◌, ℕ, ◌++◌, ◌<◌, List, arith, length, map, ap, ◌∙◌}
use Rattle.std.specs.Prelude.{reverse}
use Rattle.lb_syntax.specs.Tree.{Name}
use Rattle.lb_static.specs.DataTypes.{element_names}
use Rattle.lb_static.proofs.ElementNames.{named_from, one_variable, has_room}
use Rattle.lb_static.proofs.ElementNames.{has_room_after, all_variables}
use Rattle.lb_static.proofs.element_names.elements.Goals as goal

pub loop-place-preserved : goal.loop-place-preserved
loop-place-preserved c =
    let names = c.args.names.now in
    let data_types = c.args.data_types.now in
    let k = c.loop-place.place in
    let before = c.loop-place.signature in
    let after = c.push_elements.new.signature in
    let name = c.index-names-place.result in
    let data_type = c.index-data_types-place.result in
    let below : k < length names = omega arith in
    let within : k < length data_types = omega arith in
    let element = λ (x : Name) (ns : List ℕ). before
    ++ map (λ n. (n, data_type.kind)) (element_names x (reverse ns)) in
    let pushed : after ≡ element name.now data_type.sizes.items =
    c.in_ok-push_elements.ensures ∙ ap (λ x. element x c.deref.result.now) c.as_str.ensures
    ∙ ap (element name.now) c.deref.ensures.value in
    record {
      so_far = one_variable names data_types k name data_type before after
          (named_from names data_types 0) below within c.index-names-place.is
          c.index-data_types-place.is c.loop-place.invariant.so_far pushed;
      room = has_room_after data_types k name data_type before after within
          c.index-data_types-place.is c.loop-place.invariant.room pushed;
    }

pub returns : goal.returns
returns c =
    let names = c.args.names.now in
    let data_types = c.args.data_types.now in
    all_variables names data_types c.loop-place.place c.loop-place.signature
    (named_from names data_types 0) (omega arith) c.loop-place.invariant.so_far

pub push_elements-requires : goal.push_elements-requires
push_elements-requires c =
    let data_types = c.args.data_types.now in
    let within : c.loop-place.place < length data_types = omega arith in
    has_room data_types c.loop-place.place c.index-data_types-place.result c.loop-place.signature
    c.deref.result.now within c.index-data_types-place.is c.loop-place.invariant.room
    c.deref.ensures.value
