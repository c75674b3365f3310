-- Specializations under keys: the search by a key, and one more key.
use Rattle.std.proofs.Common.{◌≡◌, ◌∙◌, ℕ, zero, suc, Bool, true, false, cond, ◌&&◌, ◌==◌, List, []}
use Rattle.std.proofs.Common.{◌∷◌, ◌++◌, map, Option, Some, None, refl, ap, sym, int_eq}
use Rattle.std.specs.Prelude.{slice_get, option_map, position, find, if◌then◌else◌}
use Rattle.std.specs.Cmp.Lexicographic.{pointwise}
use Rattle.std.proofs.lemmas.Bool.Decides.{Decides-eqb, Decides-int_eq}
use Rattle.std.proofs.lemmas.Slice.Eq.{slice_eq-Decides}
use Rattle.std.proofs.lemmas.Option.{slice_get-map, slice_get-get_or}
use Rattle.std.proofs.lemmas.List.Elements.{All-push}
use Rattle.indexmap.specs.IndexMap.{insert_entry}
use Rattle.lb_syntax.proofs.ListPlaces.{mapped_from}
use Rattle.lb_syntax.proofs.TruthValues.{and_first, and_second}
use Rattle.lb_static.specs.KeyedSpecializations.{AreKeyed, IsUnknown}
use Rattle.lb_static.specs.Instantiated.{IsKnown}
use Rattle.lb_static.specs.declared.reachable.NodeId.{NodeId}
use Rattle.lb_static.specs.declared.specializations.Key.{Key}
use Rattle.lb_static.specs.declared.table.Specialization.{Specialization}
use Rattle.lb_static.proofs.NodeScopes.{find_placed, find_none, position_within}
use Rattle.lb_static.proofs.TestedItems.{found_passes}
use Rattle.lb_static.proofs.ReachedPlaces.{all_item}

-- ## The search

others_fail : {A : Type 0} (p : A → Bool) (xs : List A) (i : ℕ) (x : A) → find p xs ≡ None
    → slice_get xs i ≡ Some x → p x ≡ false
others_fail p [] i x e at = absurd cc
others_fail p (y ∷ xs) zero x e at = by (p y) refl e
  where
    by : (b : Bool) → p y ≡ b → cond b (Some y) (find p xs) ≡ None → p x ≡ false
    by true is h = absurd cc
    by false is h = let same : y ≡ x = cc in ap p (sym same) ∙ is
others_fail p (y ∷ xs) (suc i) x e at = by (p y) (λ h. others_fail p xs i x h at) e
  where
    by : (b : Bool) → (find p xs ≡ None → p x ≡ false) → cond b (Some y) (find p xs) ≡ None
        → p x ≡ false
    by true next h = absurd cc
    by false next h = next h

-- ## Keys

abbrev pub key_eq : Key → Key → Bool
key_eq a b = (a.node.0 == b.node.0) && pointwise int_eq a.values.items b.values.items

same_key : (a b : Key) → key_eq a b ≡ true → (a.node ≡ b.node) × (a.values.items ≡ b.values.items)
same_key a b e =
    let nodes = a.node.0 == b.node.0 in
    let values = pointwise int_eq a.values.items b.values.items in (
      ap (λ (n : ℕ). record { 0 = n })
          ((Decides-eqb a.node.0 b.node.0).0 (and_first nodes values e)),
      (slice_eq-Decides Decides-int_eq a.values.items b.values.items values refl).0
          (and_second nodes values e),
    )

key_same : (a b : Key) → a.node ≡ b.node → a.values.items ≡ b.values.items → key_eq a b ≡ true
key_same a b node values =
    let left : (a.node.0 == b.node.0) ≡ true =
    (Decides-eqb a.node.0 b.node.0).1 (ap (λ (n : NodeId). n.0) node) in
    let right : pointwise int_eq a.values.items b.values.items
    ≡ true = (slice_eq-Decides Decides-int_eq a.values.items b.values.items
    (pointwise int_eq a.values.items b.values.items) refl).1 values in
    ap (λ x. x && pointwise int_eq a.values.items b.values.items) left ∙ right

-- ## Entries

module _ (es : List (Key × Specialization)) where
  abbrev keys : List Key
  keys = map (λ e. e.0) es

  abbrev specializations : List Specialization
  specializations = map (λ e. e.1) es

  -- the specialization at the place of a key is that of its node with its values
  pub known_at : AreKeyed es → (k : Key) (i : ℕ) → position (key_eq k) keys ≡ Some i
      → IsKnown specializations k.node k.values.items (record { 0 = i })
  known_at keyed k i e = by (find (key_eq k) keys) refl
    where
      by : (o : Option Key) → find (key_eq k) keys ≡ o
          → IsKnown specializations k.node k.values.items (record { 0 = i })
      by None is =
          let none = find_placed (key_eq k) keys i e ∙ is in
          let there = slice_get-get_or keys i k (position_within (key_eq k) keys i e) in
          absurd cc
      by (Some f) is =
          let entry = mapped_from (λ (e : Key × Specialization). e.0) es i f
          (find_placed (key_eq k) keys i e ∙ is) in
          let own = all_item (λ (e : Key × Specialization). (e.0.node ≡ e.1.node)
          × (e.0.values.items ≡ e.1.values.items)) es i entry.0 keyed entry.1 in
          let same = same_key k f (found_passes (key_eq k) keys f is) in (
            entry.0.1,
            slice_get-map (λ (e : Key × Specialization). e.1) es i
                ∙ ap (option_map (λ e. e.1)) entry.1,
            sym (same.0 ∙ ap (λ (x : Key). x.node) (sym entry.2) ∙ own.0),
            sym (same.1 ∙ ap (λ (x : Key). x.values.items) (sym entry.2) ∙ own.1),
          )

  -- where no key is found, no specialization is of its node with its values
  pub unknown : AreKeyed es → (k : Key) → position (key_eq k) keys ≡ None
      → IsUnknown specializations k.node k.values.items
  unknown keyed k e id known =
      let entry = mapped_from (λ (e : Key × Specialization). e.1) es id.0 known.0 known.1 in
      let own = all_item (λ (e : Key × Specialization). (e.0.node ≡ e.1.node)
      × (e.0.values.items ≡ e.1.values.items)) es id.0 entry.0 keyed entry.1 in
      let there : slice_get keys id.0
      ≡ Some entry.0.0 = slice_get-map (λ (e : Key × Specialization). e.0) es id.0
      ∙ ap (option_map (λ e. e.0)) entry.1 in
      let fails = others_fail (key_eq k) keys id.0 entry.0.0 (find_none (key_eq k) keys e) there in
      let node = sym known.2 ∙ ap (λ (s : Specialization). s.node) (sym entry.2) ∙ sym own.0 in
      let values = sym known.3 ∙ ap (λ (s : Specialization). s.values.items) (sym entry.2)
      ∙ sym own.1 in
      let passes = key_same k entry.0.0 node values in
      absurd cc

-- ## One more entry

none_equal : (es : List (Key × Specialization)) (k : Key) (s : Specialization)
    → find (key_eq k) (map (λ e. e.0) es) ≡ None
    → insert_entry key_eq es k s ≡ es ++ (k, s) ∷ []
none_equal [] k s e = refl
none_equal (x ∷ es) k s e = by (key_eq k x.0) (none_equal es k s) e
  where
    by : (b : Bool) → (find (key_eq k) (map (λ e. e.0) es) ≡ None
        → insert_entry key_eq es k s ≡ es ++ (k, s) ∷ [])
        → cond b (Some x.0) (find (key_eq k) (map (λ e. e.0) es)) ≡ None
        → (if b then (x.0, s) ∷ es else x ∷ insert_entry key_eq es k s) ≡ x ∷ es ++ (k, s) ∷ []
    by true next h = absurd cc
    by false next h = ap (λ l. x ∷ l) (next h)

pub added : (es : List (Key × Specialization)) (k : Key) (s : Specialization)
    → position (key_eq k) (map (λ e. e.0) es) ≡ None
    → insert_entry key_eq es k s ≡ es ++ (k, s) ∷ []
added es k s e = none_equal es k s (find_none (key_eq k) (map (λ e. e.0) es) e)

pub keyed_more : (es : List (Key × Specialization)) (k : Key) (s : Specialization) → AreKeyed es
    → k.node ≡ s.node → k.values.items ≡ s.values.items
    → AreKeyed (es ++ (k, s) ∷ [])
keyed_more es k s keyed node values = All-push
    (λ e. (e.0.node ≡ e.1.node) × (e.0.values.items ≡ e.1.values.items)) es (k, s) keyed
    (node, values)

pub added_view : (es : List (Key × Specialization)) (k : Key) (s : Specialization)
    → map (λ e. e.1) (es ++ (k, s) ∷ []) ≡ map (λ e. e.1) es ++ s ∷ []
added_view [] k s = refl
added_view (x ∷ es) k s = ap (λ l. x.1 ∷ l) (added_view es k s)
