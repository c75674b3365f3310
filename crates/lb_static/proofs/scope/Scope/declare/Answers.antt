-- A name that is found stays where it is; a new one goes to the end, and its place into the map.
use Rattle.std.proofs.Common.{◌≡◌, ◌∙◌, ◌++◌, ◌∷◌, [], ℕ, true, false, map, ap, sym, refl}
use Rattle.std.proofs.Common.{Option, Some, None, arith, length, string_bytes}
use Rattle.std.specs.Borrow.{Bor}
use Rattle.std.specs.Prelude.{is_some, not, option_copied, position, vec_len}
use Rattle.std.specs.Prelude.{if◌then◌else◌}
use Rattle.std.specs.Str.{bytes_eq}
use Rattle.std.proofs.lemmas.List.{length-map, map-append}
use Rattle.std.proofs.lemmas.Map.Text.{btree_map_updates_text}
use Rattle.lb_static.specs.Names.{are_distinct}
use Rattle.lb_static.specs.Parts.{among}
use Rattle.lb_static.specs.Scopes.{declared_after}
use Rattle.lb_static.proofs.ConstantPlaces.{is_found}
use Rattle.lb_static.proofs.Lists.{popped}
use Rattle.lb_static.proofs.Lookups.{same_entries}
use Rattle.lb_static.proofs.Scopes.{placed_after}
use Rattle.lb_static.proofs.scope.Scope.declare.Goals as goal

copied : (r : Option (Bor ℕ)) → is_some r ≡ is_some (option_copied r)
copied None = refl
copied (Some x) = refl

pub returns-then-is_some-clause-fresh : goal.returns-then-is_some-clause-fresh
returns-then-is_some-clause-fresh c =
    let x = c.args.name.now in
    let ns = map string_bytes c.self.inside.names.items in
    let found = is_found (bytes_eq x) ns (option_copied c.get.result)
    (c.get.ensures.value ∙ c.self.invariant.1 x) in
    let there : among x c.args.self.now ≡ true =
    ap (among x) (sym c.self.view_is) ∙ sym found ∙ sym (copied c.get.result)
    ∙ sym c.is_some.ensures ∙ c.if-is_some.true in
    ap not (sym there)

pub returns-then-is_some-clause-after : goal.returns-then-is_some-clause-after
returns-then-is_some-clause-after c =
    let x = c.args.name.now in
    let ns = map string_bytes c.self.inside.names.items in
    let found = is_found (bytes_eq x) ns (option_copied c.get.result)
    (c.get.ensures.value ∙ c.self.invariant.1 x) in
    let there : among x c.args.self.now ≡ true =
    ap (among x) (sym c.self.view_is) ∙ sym found ∙ sym (copied c.get.result)
    ∙ sym c.is_some.ensures ∙ c.if-is_some.true in
    ap (λ b. if b then c.args.self.now else c.args.self.now ++ x ∷ []) (sym there)

-- the names with the new one at the end
pushed : (c : goal.In-Ok)
    → map string_bytes c.push.new.self.items
    ≡ map string_bytes c.self.inside.names.items ++ c.args.name.now ∷ []
pushed c =
    ap (map string_bytes) c.in_ok-push.ensures.items
    ∙ map-append string_bytes c.self.inside.names.items (c.in_ok-from_str.field-0 ∷ [])
    ∙ ap (λ x. map string_bytes c.self.inside.names.items ++ x ∷ []) c.in_ok-from_str.ensures.ok

-- the new name is not among those before it
fresh : (c : goal.In-Ok)
    → among c.args.name.now (map string_bytes c.self.inside.names.items) ≡ false
fresh c =
    let x = c.args.name.now in
    let ns = map string_bytes c.self.inside.names.items in
    let found = is_found (bytes_eq x) ns (option_copied c.get.result)
    (c.get.ensures.value ∙ c.self.invariant.1 x) in
    sym found ∙ sym (copied c.get.result) ∙ sym c.is_some.ensures ∙ c.if-is_some.false

pub invariant_of-self-in-Ok : goal.invariant_of-self-in-Ok
invariant_of-self-in-Ok c =
    let names = c.self.inside.names.items in
    let last : c.len-place.result ≡ length names = omega (arith, c.len-place.ensures) in
    placed_after c.self.inside.places c.insert.new.self (map string_bytes names)
    (map string_bytes c.push.new.self.items) (string_bytes c.in_ok-key.key) c.args.name.now
    c.len-place.result c.self.invariant (fresh c) c.in_ok-key.ensures.ok
    (last ∙ sym (length-map names string_bytes)) (pushed c)
    (btree_map_updates_text (string_bytes c.in_ok-key.key) c.self.inside.places
    c.insert.new.self (Some c.len-place.result) c.in-Ok.ensures.updates)

pub returns-clause-fresh : goal.returns-clause-fresh
returns-clause-fresh c =
    ap not (sym (ap (among c.args.name.now) (sym c.self.view_is) ∙ fresh c))

pub returns-clause-after : goal.returns-clause-after
returns-clause-after c =
    let x = c.args.name.now in
    let ns = map string_bytes c.self.inside.names.items in
    pushed c ∙ ap (λ b. if b then ns else ns ++ x ∷ []) (sym (fresh c))
    ∙ ap (λ l. declared_after l x) c.self.view_is

-- the names without the one that has no place in the map
unchanged : (c : goal.Joined-pop) → c.pop.new.self.items ≡ c.self.inside.names.items
unchanged c =
    let n : vec_len c.push.new.self ≡ length c.push.new.self.items =
    omega (arith, c.push.new.self.ok.0) in
    popped c.self.inside.names.items c.push.new.self.items c.pop.new.self.items
    c.in_ok-from_str.field-0 (vec_len c.push.new.self) c.in_ok-push.ensures.items n
    c.pop.ensures.rest

pub invariant_of-self-in_default : goal.invariant_of-self-in_default
invariant_of-self-in_default c = (
  ap (λ l. are_distinct (map string_bytes l)) (unchanged c) ∙ c.self.invariant.0,
  λ q. same_entries c.self.inside.places c.insert.new.self q c.in_default.ensures.err
      ∙ c.self.invariant.1 q
      ∙ ap (λ l. position (bytes_eq q) (map string_bytes l)) (sym (unchanged c)),
)

pub returns-in_default-clause-err : goal.returns-in_default-clause-err
returns-in_default-clause-err c = ap (map string_bytes) (unchanged c) ∙ c.self.view_is
