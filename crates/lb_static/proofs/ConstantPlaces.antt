-- The places of the constants that names stand for.
use Rattle.std.proofs.Common.{◌≡◌, ℕ, ◌+◌, ◌<◌, ◌≤◌, Bool, true, false, List, [], ◌∷◌, ◌++◌, length}
use Rattle.std.proofs.Common.{drop, get_or, Option, Some, None, is_some, refl, ap, sym, subst, ◌∙◌}
use Rattle.std.proofs.Common.{arith}
use Rattle.std.specs.Prelude.{◌||◌, IfErr, OnOk, Result, Ok, Err, flat_map, nat_lt, position}
use Rattle.std.specs.Prelude.{slice_get, if◌then◌else◌}
use Rattle.std.specs.List.{list_any}
use Rattle.std.specs.Str.{bytes_eq}
use Rattle.std.proofs.lemmas.Bool.Decides.{nat_tests}
use Rattle.std.proofs.Math.ListN.{drop_of_length-le}
use Rattle.std.proofs.lemmas.List.{drop_more, append-nil}
use Rattle.std.proofs.lemmas.Slice.Eq.{bytes_eq-Decides}
use Rattle.std.proofs.lemmas.Grind.{flat_map-append}
use Rattle.std.proofs.Math.Bool.{or-false, or_assoc}
use Rattle.std.proofs.lemmas.Map.Keys.{any_passes_from_place}
use Rattle.lb_syntax.specs.Lists.{◌>>=◌, listed, where_true}
use Rattle.lb_syntax.specs.Tree.{Name}
use Rattle.lb_static.specs.NamedConstants.{constant_place, part_constants, place_named}
use Rattle.lb_static.specs.NamedConstants.{places_named}
use Rattle.lb_static.specs.Names.{are_distinct}
use Rattle.lb_static.specs.Parts.{among, static_names}
use Rattle.lb_static.specs.ResolvedTerms.{static_of}
use Rattle.lb_static.specs.declared.resolved.StaticPart.{StaticPart}
use Rattle.lb_static.specs.Scopes.{declared_after}
use Rattle.lb_static.specs.WorkLists.{visited_after, visited_after_all}
use Rattle.lb_static.specs.declared.globals.Globals.{Globals}
use Rattle.lb_static.proofs.Lists.{none_passes, some_passes}
use Rattle.lb_static.proofs.ReachedPlaces.{distinct_places}
use Rattle.lb_static.proofs.Scopes.{among_append, name_at_place}
use Rattle.lb_static.proofs.WorkLists.{visit_append}

-- ## Visits of names

pub is_found : {A : Type 0} (p : A → Bool) (xs : List A) (o : Option ℕ) → o ≡ position p xs
    → is_some o ≡ list_any p xs
is_found p xs None e = sym (none_passes p xs (sym e))
is_found p xs (Some i) e = sym (some_passes p xs i (sym e))

pub visit_hidden : (order : List ℕ) (g : Globals) (hidden : List Name) (x : Name)
    → among x hidden ≡ true
    → order ≡ visited_after_all order (place_named g hidden x)
unfolding visited_after_all
visit_hidden order g hidden x e =
    ap (λ b. visited_after_all order
    (if b then [] else listed (λ p. p ∷ []) (constant_place g.names g.constants x))) (sym e)

pub visit_known : (order : List ℕ) (g : Globals) (hidden : List Name) (x : Name) (p : ℕ)
    → among x hidden ≡ false → constant_place g.names g.constants x ≡ Some p
    → visited_after order p ≡ visited_after_all order (place_named g hidden x)
unfolding visited_after_all
visit_known order g hidden x p e at =
    ap (λ o. visited_after_all order (listed (λ q. q ∷ []) o)) (sym at)
    ∙ ap (λ b. visited_after_all order
    (if b then [] else listed (λ q. q ∷ []) (constant_place g.names g.constants x))) (sym e)

pub visit_unknown : (order : List ℕ) (g : Globals) (hidden : List Name) (x : Name)
    → among x hidden ≡ false → constant_place g.names g.constants x ≡ None
    → order ≡ visited_after_all order (place_named g hidden x)
unfolding visited_after_all
visit_unknown order g hidden x e at =
    ap (λ o. visited_after_all order (listed (λ q. q ∷ []) o)) (sym at)
    ∙ ap (λ b. visited_after_all order
    (if b then [] else listed (λ q. q ∷ []) (constant_place g.names g.constants x))) (sym e)

pub visit_no_names : (order : List ℕ) (g : Globals) (hidden : List Name)
    → order ≡ visited_after_all order (places_named g hidden [])
unfolding visited_after_all
visit_no_names order g hidden = refl

pub visit_one_name : (order : List ℕ) (g : Globals) (hidden : List Name) (x : Name)
    → visited_after_all order (place_named g hidden x)
    ≡ visited_after_all order (places_named g hidden (x ∷ []))
visit_one_name order g hidden x =
    ap (visited_after_all order) (sym (append-nil (place_named g hidden x)))

pub visit_both_names : (order middle after : List ℕ) (g : Globals) (hidden xs ys : List Name)
    → middle ≡ visited_after_all order (places_named g hidden xs)
    → after ≡ visited_after_all middle (places_named g hidden ys)
    → after ≡ visited_after_all order (places_named g hidden (xs ++ ys))
visit_both_names order middle after g hidden xs ys e f =
    f ∙ ap (λ o. visited_after_all o (places_named g hidden ys)) e
    ∙ sym (visit_append order (places_named g hidden xs) (places_named g hidden ys))
    ∙ ap (visited_after_all order) (sym (flat_map-append (place_named g hidden) xs ys))

-- ## Visits of the items of a list

pub visit_item : {A : Type 0} (f : A → List ℕ) (order after all : List ℕ) (xs : List A) (i : ℕ)
    (d : A) → i < length xs → after ≡ visited_after_all order (f (get_or xs i d))
    → visited_after_all order (flat_map f (drop i xs)) ≡ all
    → visited_after_all after (flat_map f (drop (i + 1) xs)) ≡ all
visit_item f order after all xs i d below e inv =
    ap (λ o. visited_after_all o (flat_map f (drop (i + 1) xs))) e
    ∙ sym (visit_append order (f (get_or xs i d)) (flat_map f (drop (i + 1) xs)))
    ∙ ap (λ l. visited_after_all order (flat_map f l)) (sym (drop_more xs i d below)) ∙ inv

pub visit_end : {A : Type 0} (f : A → List ℕ) (order all : List ℕ) (xs : List A) (i : ℕ)
    → length xs ≤ i → visited_after_all order (flat_map f (drop i xs)) ≡ all → order ≡ all
unfolding visited_after_all
visit_end f order all xs i past inv =
    ap (λ l. visited_after_all order (flat_map f l)) (sym (drop_of_length-le xs past)) ∙ inv

-- ## Answers

pub ok_more : {A E : Type 0} (r : Result A E) (C D : Type 0) → OnOk r C → (C → D) → OnOk r D
ok_more (Ok x) C D h f = f h
ok_more (Err e) C D h f = tt

-- ## The constant at a place

pub record Constant_at (names : List Name) (count : ℕ) (x : Name) (place : ℕ) : Type 0 where
  pub below : place < count
  pub at : slice_get names place ≡ Some x

pub constant_found : (names : List Name) (count : ℕ) (x : Name) (place : ℕ)
    → constant_place names count x ≡ Some place → Constant_at names count x place
constant_found names count x place e = by (position (bytes_eq x) names) refl e
  where
    test : (i : ℕ) (b : Bool) → nat_lt i count ≡ b → position (bytes_eq x) names ≡ Some i
        → where_true b i ≡ Some place → Constant_at names count x place
    test i true lt at h =
        let same : i ≡ place = cc in
        let below : i < count = grind (arith, nat_tests) in
        record {
          below = subst (λ j. j < count) same below;
          at =
              ap (slice_get names) (sym same) ∙ name_at_place x names i at;
        }
    test i false lt at h = absurd cc

    by : (o : Option ℕ) → position (bytes_eq x) names ≡ o
        → (o >>= λ i. where_true (nat_lt i count) i) ≡ Some place → Constant_at names count x place
    by None at h = absurd cc
    by (Some i) at h = test i (nat_lt i count) refl at h

pub constant_known : (names : List Name) (count : ℕ) (x : Name) (place : ℕ)
    → are_distinct names ≡ true → place < count → slice_get names place ≡ Some x
    → constant_place names count x ≡ Some place
constant_known names count x place d below at = by (position (bytes_eq x) names) refl
  where
    by : (o : Option ℕ) → position (bytes_eq x) names ≡ o
        → constant_place names count x ≡ Some place
    by None e =
        let none = none_passes (bytes_eq x) names e in
        let some =
        any_passes_from_place (bytes_eq x) names place x at ((bytes_eq-Decides x x).1 refl) in
        absurd cc
    by (Some i) e =
        let same = distinct_places names i place x d (name_at_place x names i e) at in
        let lt : nat_lt place count ≡ true = grind (arith, nat_tests) in
        ap (λ o. o >>= λ j. where_true (nat_lt j count) j) e
        ∙ ap (λ j. where_true (nat_lt j count) j) same ∙ ap (λ b. where_true b place) lt

pub err_more : {A E : Type 0} (r : Result A E) (C D : E → Type 0) → IfErr r C
    → ((e : E) → C e → D e) → IfErr r D
err_more (Ok x) C D h f = tt
err_more (Err e) C D h f = f e h
