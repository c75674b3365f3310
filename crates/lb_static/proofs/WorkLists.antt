-- Places that came up in a walk: one more visit, and more visits.
use Rattle.std.proofs.Common.{◌≡◌, ◌≢◌, ℕ, zero, suc, ◌+◌, ◌<◌, ◌≤◌, Bool, true, false, cond, List}
use Rattle.std.proofs.Common.{[], ◌∷◌, ◌++◌, length, set, get_or, replicate, Bor, Option, Some}
use Rattle.std.proofs.Common.{None, is_some, refl, ap, sym, subst, ◌∙◌, arith, length-append}
use Rattle.std.specs.Prelude.{◌||◌, nat_eq, slice_get, if◌then◌else◌, IfSome, MatchOption}
use Rattle.std.specs.Option.{option_copied}
use Rattle.std.specs.List.{HoldsAt}
use Rattle.std.specs.List.{list_all, list_any, count_by}
use Rattle.std.proofs.lemmas.Bool.Decides.{nat_tests}
use Rattle.std.proofs.lemmas.List.Folds.{list_any-append}
use Rattle.std.proofs.lemmas.List.Sums.{sum_by-set, count_by-le-length}
use Rattle.std.proofs.lemmas.Option.{slice_get_within, slice_get_read, get_or_from_slice_get}
use Rattle.std.proofs.lemmas.Bool.{or_left, or_right, eqb-true, and_from}
use Rattle.std.proofs.lemmas.Map.Keys.{any_passes_from_place}
use Rattle.std.proofs.Math.Bool.{or-false}
use Rattle.lb_syntax.specs.Lists.{holds}
use Rattle.lb_syntax.proofs.ListPlaces.{get_before, get_last, set_here}
use Rattle.lb_syntax.proofs.SameNames.{same_number}
use Rattle.lb_static.specs.WorkLists.{Grows, HasTurns, is_visited, visited_after, visited_after_all}

-- ## Tests and items

pub record Witness {A : Type 0} (p : A → Bool) (xs : List A) : Type 0 where
  pub place : ℕ
  pub item : A
  pub at : slice_get xs place ≡ Some item
  pub passes : p item ≡ true

pub any_at : {A : Type 0} (p : A → Bool) (xs : List A) → list_any p xs ≡ true → Witness p xs
any_at p [] e = absurd cc
any_at {A = A} p (y ∷ ys) e = by (p y) refl e (any_at p ys)
  where
    later : Witness p ys → Witness p (y ∷ ys)
    later f = record { place = suc f.place; item = f.item; at = f.at; passes = f.passes }

    by : (b : Bool) → p y ≡ b → (b || list_any p ys) ≡ true → (list_any p ys ≡ true → Witness p ys)
        → Witness p (y ∷ ys)
    by true h e next = record { place = 0; item = y; at = refl; passes = h }
    by false h e next = later (next e)

-- a list has no item at a place past its end
pub past_end : {A : Type 0} (xs : List A) (i : ℕ) → slice_get xs i ≡ None → length xs ≤ i
past_end [] i e = omega arith
past_end (x ∷ xs) zero e = absurd cc
past_end (x ∷ xs) (suc i) e = let le = past_end xs i e in omega (arith, le)

-- ## Places

pub at_visited : (order : List ℕ) (turn place : ℕ) → slice_get order turn ≡ Some place
    → is_visited order place ≡ true
at_visited order turn place e =
    any_passes_from_place (nat_eq place) order turn place e (same_number place)

pub record Turn (order : List ℕ) (place : ℕ) : Type 0 where
  pub turn : ℕ
  pub at : slice_get order turn ≡ Some place

pub visited_at : (order : List ℕ) (place : ℕ) → is_visited order place ≡ true → Turn order place
visited_at order place e =
    let f = any_at (nat_eq place) order e in
    record { turn = f.place; at = f.at ∙ ap Some (sym (eqb-true place f.item f.passes)) }

pub grows_none : (order : List ℕ) → Grows order order
grows_none order = record { longer = omega arith; kept = λ turn place e. e; still = λ place e. e }

pub grows_both : (xs ys zs : List ℕ) → Grows xs ys → Grows ys zs → Grows xs zs
grows_both xs ys zs f g = record {
  longer = omega (arith, f.longer, g.longer);
  kept = λ turn place e. g.kept turn place (f.kept turn place e);
  still = λ place e. g.still place (f.still place e);
}

grows_append : (order : List ℕ) (place : ℕ) → Grows order (order ++ place ∷ [])
grows_append order place = record {
  longer = omega (arith, length-append order (place ∷ []));
  kept = λ turn p e. get_before order (place ∷ []) turn (slice_get_within order turn p e) ∙ e;
  still = λ p e. list_any-append (nat_eq p) order (place ∷ []) ∙ or_left (is_visited order p) _ e;
}

pub grows_once : (order : List ℕ) (place : ℕ) → Grows order (visited_after order place)
grows_once order place = by (is_visited order place)
  where
    by : (b : Bool) → Grows order (if b then order else order ++ place ∷ [])
    by true = grows_none order
    by false = grows_append order place

pub visited_now : (order : List ℕ) (place : ℕ) → is_visited (visited_after order place) place ≡ true
visited_now order place = by (is_visited order place) refl
  where
    by : (b : Bool) → is_visited order place ≡ b
        → is_visited (if b then order else order ++ place ∷ []) place ≡ true
    by true e = e
    by false e = at_visited (order ++ place ∷ []) (length order) place (get_last order place)

pub grows_all : (order places : List ℕ) → Grows order (visited_after_all order places)
unfolding visited_after_all
grows_all order [] = grows_none order
grows_all order (p ∷ ps) = grows_both order (visited_after order p) _ (grows_once order p)
    (grows_all (visited_after order p) ps)

pub visited_all : (order places : List ℕ)
    → list_all (is_visited (visited_after_all order places)) places ≡ true
unfolding visited_after_all
visited_all order [] = refl
visited_all order (p ∷ ps) =
    and_from _ _ ((grows_all (visited_after order p) ps).still p (visited_now order p))
    (visited_all (visited_after order p) ps)

pub visit_append : (order ps qs : List ℕ)
    → visited_after_all order (ps ++ qs) ≡ visited_after_all (visited_after_all order ps) qs
unfolding visited_after_all
visit_append order [] qs = refl
visit_append order (p ∷ ps) qs = visit_append (visited_after order p) ps qs

-- ## Turns

abbrev tally : Option ℕ → ℕ
tally o = cond (is_some o) 1 0

none_held : (n place : ℕ)
    → holds is_some (slice_get (replicate {A = Option ℕ} n None) place) ≡ false
none_held zero place = refl
none_held (suc n) zero = refl
none_held (suc n) (suc place) = none_held n place

none_counted : (n : ℕ) → count_by is_some (replicate {A = Option ℕ} n None) ≡ 0
none_counted zero = refl
none_counted (suc n) = none_counted n

none_found : (n place turn : ℕ)
    → slice_get (replicate {A = Option ℕ} n None) place ≡ Some (Some turn)
    → slice_get {X = ℕ} [] turn ≡ Some place
none_found n place turn e =
    let some = ap (holds is_some) e in let no = none_held n place in absurd cc

-- at the start no place has a turn
pub turns_none : (n : ℕ) (turns : List (Option ℕ)) → turns ≡ replicate n None → HasTurns [] turns
turns_none n turns e =
    subst (HasTurns []) (sym e)
    (record {
      counted = none_counted n;
      seen =
          λ place. sym (none_held n place);
      found = none_found n;
    })

set_elsewhere : {A : Type 0} (xs : List A) (i j : ℕ) (x : A) → j ≢ i
    → slice_get (set xs i x) j ≡ slice_get xs j
set_elsewhere [] i j x other = refl
set_elsewhere (y ∷ ys) zero zero x other = absurd (other refl)
set_elsewhere (y ∷ ys) zero (suc j) x other = refl
set_elsewhere (y ∷ ys) (suc i) zero x other = refl
set_elsewhere (y ∷ ys) (suc i) (suc j) x other = set_elsewhere ys i j x (λ e. other (ap suc e))

-- one more place gets the next turn
pub turns_more : (order : List ℕ) (turns : List (Option ℕ)) (place : ℕ) → HasTurns order turns
    → slice_get turns place ≡ Some None
    → HasTurns (order ++ place ∷ []) (set turns place (Some (length order)))
turns_more order turns place has none = record {
  counted = one_more;
  seen = λ p. seen p (nat_eq p place) refl;
  found = λ p turn. found p turn (nat_eq p place) refl;
}
  where
    below : place < length turns
    below = slice_get_within turns place None none

    one_more : count_by is_some (set turns place (Some (length order)))
        ≡ length (order ++ place ∷ [])
    one_more =
        let was : tally (get_or turns place None) ≡ 0 =
        ap tally (get_or_from_slice_get turns place None None none) in
        let sums : count_by is_some (set turns place (Some (length order)))
        + tally (get_or turns place None) ≡ count_by is_some turns + 1 =
        sum_by-set tally turns place (Some (length order)) None below in
        omega (arith, has.counted, length-append order (place ∷ []))

    seen : (p : ℕ) (b : Bool) → nat_eq p place ≡ b
        → is_visited (order ++ place ∷ []) p
        ≡ holds is_some (slice_get (set turns place (Some (length order))) p)
    seen p true e =
        let same = eqb-true p place e in
        let here = ap (λ q. slice_get (set turns place (Some (length order))) q) same
        ∙ set_here turns place (Some (length order)) below in
        list_any-append (nat_eq p) order (place ∷ [])
        ∙ or_right (is_visited order p) _ (or_left (nat_eq p place) false e)
        ∙ sym (ap (holds is_some) here)
    seen p false e =
        let other : p ≢ place = grind (arith, nat_tests) in
        list_any-append (nat_eq p) order (place ∷ [])
        ∙ ap (λ b. is_visited order p || (b || false)) e ∙ or-false (is_visited order p)
        ∙ has.seen p ∙ ap (holds is_some)
        (sym (set_elsewhere turns place p (Some (length order)) other))

    found : (p turn : ℕ) (b : Bool) → nat_eq p place ≡ b
        → slice_get (set turns place (Some (length order))) p ≡ Some (Some turn)
        → slice_get (order ++ place ∷ []) turn ≡ Some p
    found p turn true e h =
        let same = eqb-true p place e in
        let here = sym (ap (λ q. slice_get (set turns place (Some (length order))) q) same
        ∙ set_here turns place (Some (length order)) below) ∙ h in
        let last : length order ≡ turn = cc in
        ap (λ t. slice_get (order ++ place ∷ []) t) (sym last) ∙ get_last order place
        ∙ ap Some (sym same)
    found p turn false e h =
        let other : p ≢ place = grind (arith, nat_tests) in
        let before = has.found p turn
        (sym (set_elsewhere turns place p (Some (length order)) other) ∙ h) in
        get_before order (place ∷ []) turn (slice_get_within order turn p before) ∙ before

-- a place that came up is a place of the list
pub visited_within : (order : List ℕ) (turns : List (Option ℕ)) (turn place : ℕ)
    → HasTurns order turns → slice_get order turn ≡ Some place → place < length turns
visited_within order turns turn place has e =
    by (slice_get turns place) refl (sym (has.seen place) ∙ at_visited order turn place e)
  where
    by : (o : Option (Option ℕ)) → slice_get turns place ≡ o → holds is_some o ≡ true
        → place < length turns
    by None h some = absurd cc
    by (Some t) h some = slice_get_within turns place t h

pub as_few : (order : List ℕ) (turns : List (Option ℕ)) → HasTurns order turns
    → length order ≤ length turns
as_few order turns has = omega (arith, has.counted, count_by-le-length is_some turns)

-- a visit of a place without a turn adds it at the end
pub after_new : (order : List ℕ) (turns : List (Option ℕ)) (place : ℕ) → HasTurns order turns
    → slice_get turns place ≡ Some None
    → order ++ place ∷ [] ≡ visited_after order place
after_new order turns place has none =
    sym (ap (λ b. if b then order else order ++ place ∷ [])
    (has.seen place ∙ ap (holds is_some) none))

-- the place that is read at a turn is the place that came up there
pub looked_up : (order read : List ℕ) (turns : List (Option ℕ)) (count turn : ℕ)
    (o : Option (Bor ℕ)) (p : Option ℕ) → HasTurns order turns → read ≡ order → length turns ≡ count
    → MatchOption o (length read ≤ turn)
    (λ x. (turn < length read) × HoldsAt (λ y. x.now ≡ y) read turn) → p ≡ option_copied o
    → IfSome p (λ place. place < count)
looked_up order read turns count turn None p has same many found e =
    subst (λ q. IfSome q (λ place. place < count)) (sym e) tt
looked_up order read turns count turn (Some x) p has same many found e =
    let below : turn < length order = subst (λ l. turn < length l) same found.0 in
    let here : x.now ≡ get_or order turn x.now =
    subst (λ l. x.now ≡ get_or l turn x.now) same (found.1 x.now) in
    let place = visited_within order turns turn x.now has
    (slice_get_read order (length order) turn x.now refl below here) in
    subst (λ q. IfSome q (λ place. place < count)) (sym e) (subst (λ n. x.now < n) many place)
