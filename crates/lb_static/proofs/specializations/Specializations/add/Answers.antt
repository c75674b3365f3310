-- A new key goes to the end, with its specialization.
use Rattle.std.proofs.Common.{◌≡◌, ◌∙◌, sym, ap, refl, subst, ◌∷◌, ◌++◌, [], None, map, length, ◌+◌}
use Rattle.std.proofs.Common.{◌<◌, ℕ, Fits, arith, inl, inr}
use mir.Syntax.{w32}
use Rattle.std.proofs.lemmas.List.{length-map, length-append}
use Rattle.indexmap.specs.IndexMap.{keys}
use Rattle.lb_static.specs.KeyedSpecializations.{AreKeyed, IsUnknown}
use Rattle.lb_static.specs.Instantiated.{IsKnown}
use Rattle.lb_static.proofs.KeyedSpecializations.{key_eq, known_at, unknown, added, added_view}
use Rattle.lb_static.proofs.KeyedSpecializations.{keyed_more}
use Rattle.lb_static.proofs.NodeScopes.{past_all}
use Rattle.lb_static.proofs.specializations.Specializations.add.Goals as goal

pub returns-in-Some-clause-added : goal.returns-in-Some-clause-added
returns-in-Some-clause-added c =
    let es = c.self.inside.keyed.entries in
    let s = c.args.specialization in
    let told = c.in_ok-key.ensures in
    let values = told.1 ∙ c.deref.ensures.value in
    let known = known_at es c.self.invariant c.in_ok-key.key c.in-Some.place
    (sym c.get_index_of.ensures.index ∙ c.in-Some.is) in
    inl (
      subst (λ l. IsKnown l s.node s.values.items (record { 0 = c.in-Some.place }))
          c.self.view_is (rw (← told.0, ← values) known),
      refl,
    )

after : (c : goal.Joined-branch-3)
    → c.insert_full.new.self.entries ≡ c.self.inside.keyed.entries
    ++ (c.in_ok-key.key, c.args.specialization) ∷ []
after c =
    let none : c.get_index_of.result ≡ None = c.in_default.is in
    c.in_ok-place.ensures.entries
    ∙ added c.self.inside.keyed.entries c.in_ok-key.key c.args.specialization
    (sym c.get_index_of.ensures.index ∙ none)

pub invariant_of-self-2 : goal.invariant_of-self-2
invariant_of-self-2 c =
    let es = c.self.inside.keyed.entries in
    let told = c.in_ok-key.ensures in
    let values = told.1 ∙ c.deref.ensures.value in
    subst AreKeyed (sym (after c))
    (keyed_more es c.in_ok-key.key c.args.specialization c.self.invariant told.0 values)

pub returns-clause-added : goal.returns-clause-added
returns-clause-added c =
    let es = c.self.inside.keyed.entries in
    let s = c.args.specialization in
    let told = c.in_ok-key.ensures in
    let values = told.1 ∙ c.deref.ensures.value in
    let none = unknown es c.self.invariant c.in_ok-key.key
    (sym c.get_index_of.ensures.index ∙ c.in_default.is) in
    let unknown_here = subst (λ l. IsUnknown l s.node s.values.items) c.self.view_is
    (rw (← told.0, ← values) none) in
    let view = ap (map (λ e. e.1)) (after c) ∙ added_view es c.in_ok-key.key s
    ∙ ap (λ l. l ++ s ∷ []) c.self.view_is in
    let more : length c.insert_full.new.self.entries ≡ length es + 1 =
    ap length (after c) ∙ length-append es ((c.in_ok-key.key, s) ∷ []) in
    let below : c.in_ok-place.place < length c.insert_full.new.self.entries =
    c.in_ok-place.ensures.within in
    let past = past_all (key_eq c.in_ok-key.key) (keys c.self.inside.keyed)
    (sym c.get_index_of.ensures.index ∙ c.in_default.is) in
    let index = c.in_ok-place.ensures.index in
    let as_many = length-map es (λ e. e.0) in
    let count = ap length (sym c.self.view_is) ∙ length-map es (λ e. e.1) in
    inr (unknown_here, view, omega arith)

pub overflow_cast-result : goal.overflow_cast-result
overflow_cast-result c =
    let entries = c.self.inside.keyed.entries in
    let many : length entries ≡ length c.args.self.now =
    sym (length-map entries (λ e. e.1)) ∙ ap length c.self.view_is in
    record { fits = omega (arith, c.in-Some.ensures.within, c.requires.few) }

-- a place in a list with one item more fits as long as the list before it did
narrow : (place count old : ℕ) → place < count → count ≡ old + 1 → old < 4294967296
    → Fits w32 place
narrow place count old within more few = record { fits = omega arith }

pub overflow_cast-result-2 : goal.overflow_cast-result-2
overflow_cast-result-2 c =
    let es = c.self.inside.keyed.entries in
    let more = ap length (after c)
    ∙ length-append es ((c.in_ok-key.key, c.args.specialization) ∷ []) in
    let many = sym (length-map es (λ e. e.1)) ∙ ap length c.self.view_is in
    narrow c.in_ok-place.place (length c.insert_full.new.self.entries) (length es)
    c.in_ok-place.ensures.within more
    (subst (λ n. n < 4294967296) (sym many) c.requires.few)
