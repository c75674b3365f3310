-- Declared names, each of them once: one more declaration, and the place of a name.
use Rattle.std.proofs.Common.{◌≡◌, ℕ, suc, ◌+◌, Bool, true, false, cond, List, [], ◌∷◌, ◌++◌}
use Rattle.std.proofs.Common.{length, map, Option, Some, None, refl, ap, sym, ◌∙◌}
use Rattle.std.proofs.Common.{subst, arith}
use Rattle.std.specs.Prelude.{◌&&◌, ◌||◌, not, nat_lt, option_map, position, slice_get}
use Rattle.std.specs.Prelude.{String}
use Rattle.std.proofs.lemmas.Bool.Decides.{nat_tests}
use Rattle.std.proofs.lemmas.List.{length-map}
use Rattle.std.specs.BTreeMap.{BTreeMap, get_by_text}
use Rattle.std.specs.List.{prefix_len, position_or_len}
use Rattle.std.specs.Str.{bytes_eq}
use Rattle.std.proofs.lemmas.Slice.Eq.{bytes_eq-Decides}
use Rattle.std.proofs.Math.Bool.{or_assoc, or-false}
use Rattle.std.proofs.lemmas.Bool.{and_right, or_right}
use Rattle.lb_syntax.proofs.TruthValues.{or_first, or_second}
use Rattle.lb_syntax.specs.Tree.{Name}
use Rattle.lb_static.specs.Parts.{among}
use Rattle.lb_static.specs.CountedNames.{are_once, counted}
use Rattle.lb_static.specs.Names.{are_distinct}
use Rattle.lb_static.specs.Scopes.{ArePlaced}

-- ## Lists that are mapped

prefix_map : {A B : Type 0} (p : B → Bool) (g : A → B) (xs : List A)
    → prefix_len (λ x. p (g x)) xs ≡ prefix_len p (map g xs)
prefix_map p g [] = refl
prefix_map p g (x ∷ xs) = ap (λ n. cond (p (g x)) (1 + n) 0) (prefix_map p g xs)

pub position_map : {A B : Type 0} (p : B → Bool) (g : A → B) (xs : List A)
    → position (λ x. p (g x)) xs ≡ position p (map g xs)
position_map p g xs =
    ap (λ n. cond (nat_lt n (length xs)) (Some n) None) (prefix_map (λ y. not (p y)) g xs)
    ∙ ap (λ n. cond (nat_lt (position_or_len p (map g xs)) n) (Some (position_or_len p (map g xs)))
    None) (sym (length-map xs g))

-- ## One more name

pub bytes_eq-symmetric : (x y : Name) → bytes_eq x y ≡ bytes_eq y x
bytes_eq-symmetric x y = by (bytes_eq x y) (bytes_eq y x) refl refl
  where
    by : (a b : Bool) → bytes_eq x y ≡ a → bytes_eq y x ≡ b → a ≡ b
    by true true p q = refl
    by false false p q = refl
    by true false p q = let e =
        (bytes_eq-Decides y x).1 (sym ((bytes_eq-Decides x y).0 p)) in absurd cc
    by false true p q = let e =
        (bytes_eq-Decides x y).1 (sym ((bytes_eq-Decides y x).0 q)) in absurd cc

pub among_append : (x : Name) (ys zs : List Name) → among x (ys ++ zs) ≡ (among x ys || among x zs)
among_append x [] zs = refl
among_append x (y ∷ ys) zs = ap (λ b. bytes_eq x y || b) (among_append x ys zs)
    ∙ sym (or_assoc (bytes_eq x y) (among x ys) (among x zs))

distinct_step : (a b c d : Bool) → (not (a || c) && (d && not b)) ≡ ((not a && d) && not (c || b))
distinct_step true b c d = refl
distinct_step false b true d = by d
  where
    by : (d : Bool) → false ≡ ((true && d) && false)
    by true = refl
    by false = refl
distinct_step false b false d = refl

-- names with `x` at the end are distinct exactly if they are distinct and `x` is not among them
pub distinct_more : (xs : List Name) (x : Name)
    → are_distinct (xs ++ x ∷ []) ≡ (are_distinct xs && not (among x xs))
distinct_more [] x = refl
distinct_more (y ∷ xs) x =
    ap (λ b. not b && are_distinct (xs ++ x ∷ []))
    (among_append y xs (x ∷ [])
    ∙ ap (λ b. among y xs || b) (or-false (bytes_eq y x) ∙ bytes_eq-symmetric y x))
    ∙ ap (λ b. not (among y xs || bytes_eq x y) && b) (distinct_more xs x)
    ∙ distinct_step (among y xs) (among x xs) (bytes_eq x y) (are_distinct xs)

-- ## The places of names

-- the first place in a list with one more item in front
position_longer : {A : Type 0} (p : A → Bool) (y : A) (ys : List A)
    → position p (y ∷ ys) ≡ cond (p y) (Some 0) (option_map (λ i. 1 + i) (position p ys))
position_longer p y ys = by (p y) (position_or_len p ys)
  where
    mapped : (n : ℕ) (b : Bool)
        → cond b (Some (1 + n)) None ≡ option_map (λ i. 1 + i) (cond b (Some n) None)
    mapped n true = refl
    mapped n false = refl

    in_front : (n : ℕ) → nat_lt (1 + n) (length (y ∷ ys)) ≡ nat_lt n (length ys)
    in_front n = grind (arith, nat_tests)

    by : (b : Bool) (n : ℕ)
        → cond (nat_lt (cond (not b) (1 + n) 0) (length (y ∷ ys)))
        (Some (cond (not b) (1 + n) 0)) None
        ≡ cond b (Some 0) (option_map (λ i. 1 + i) (cond (nat_lt n (length ys)) (Some n) None))
    by true n = let f : nat_lt 0 (length (y ∷ ys)) ≡ true = grind (arith, nat_tests) in rw f refl
    by false n =
        ap (λ b. cond b (Some (1 + n)) None) (in_front n) ∙ mapped n (nat_lt n (length ys))

same_as : (x y : Name) → bytes_eq x y ≡ true → x ≡ y
same_as x y = (bytes_eq-Decides x y).0

-- the place of each name, where a new name is declared after the others
pub placed_more : (ns : List Name) (x q : Name) → among x ns ≡ false
    → cond (bytes_eq x q) (Some (length ns)) (position (bytes_eq q) ns)
    ≡ position (bytes_eq q) (ns ++ x ∷ [])
placed_more [] x q a =
    ap (λ b. cond b (Some 0) None) (bytes_eq-symmetric x q)
    ∙ sym (position_longer (bytes_eq q) x [])
placed_more (y ∷ ns) x q a =
    ap (cond (bytes_eq x q) (Some (length (y ∷ ns)))) (position_longer (bytes_eq q) y ns)
    ∙ by (or_first (bytes_eq x y) (among x ns) a) (bytes_eq q y) (bytes_eq x q) refl refl
    (placed_more ns x q (or_second (bytes_eq x y) (among x ns) a))
    ∙ sym (position_longer (bytes_eq q) y (ns ++ x ∷ []))
  where
    later : ℕ → ℕ
    later i = 1 + i

    both : bytes_eq x y ≡ false → bytes_eq q y ≡ true → bytes_eq x q ≡ true → ⊥
    both apart there here =
        let e : bytes_eq x y ≡ true =
        (bytes_eq-Decides x y).1 (same_as x q here ∙ same_as q y there) in
        absurd cc

    mapped : (c : Bool) (o : Option ℕ) → cond c (Some (length (y ∷ ns))) (option_map later o)
        ≡ option_map later (cond c (Some (length ns)) o)
    mapped true o = let e : length (y ∷ ns) ≡ 1 + length ns = omega arith in ap Some e
    mapped false o = refl

    by : bytes_eq x y ≡ false → (b c : Bool) → bytes_eq q y ≡ b → bytes_eq x q ≡ c
        → cond (bytes_eq x q) (Some (length ns)) (position (bytes_eq q) ns)
        ≡ position (bytes_eq q) (ns ++ x ∷ [])
        → cond (bytes_eq x q) (Some (length (y ∷ ns)))
        (cond (bytes_eq q y) (Some 0) (option_map later (position (bytes_eq q) ns)))
        ≡ cond (bytes_eq q y) (Some 0) (option_map later (position (bytes_eq q) (ns ++ x ∷ [])))
    by apart true true there here next = absurd (both apart there here)
    by apart true false there here next = rw (there, here) refl
    by apart false c there here next =
        rw there (mapped (bytes_eq x q) (position (bytes_eq q) ns) ∙ ap (option_map later) next)

-- the map has the place of each name, with one more name
pub placed_after : {A : Type 0} (before after : BTreeMap (String A) ℕ) (ns ns' : List Name)
    (key x : Name) (place : ℕ) → ArePlaced ns before → among x ns ≡ false → key ≡ x
    → place ≡ length ns → ns' ≡ ns ++ x ∷ []
    → ((q : Name) → get_by_text after q
    ≡ cond (bytes_eq key q) (Some place) (get_by_text before q))
    → ArePlaced ns' after
placed_after before after ns ns' key x place h fresh is last more set = (
  subst (λ l. are_distinct l ≡ true) (sym more)
      (distinct_more ns x ∙ ap (λ b. b && not (among x ns)) h.0 ∙ ap not fresh),
  λ q.
      set q
      ∙ ap (cond (bytes_eq key q) (Some place)) (h.1 q)
      ∙ ap (λ k. cond (bytes_eq k q) (Some place) (position (bytes_eq q) ns)) is
      ∙ ap (λ n. cond (bytes_eq x q) (Some n) (position (bytes_eq q) ns)) last
      ∙ placed_more ns x q fresh ∙ sym (ap (position (bytes_eq q)) more),
)

-- ## A name that is doubled, and counts

once_longer : (counts : Name → Bool) (xs ys : List Name) → are_once counts xs ≡ false
    → are_once counts (xs ++ ys) ≡ false
once_longer counts [] ys e = absurd cc
once_longer counts (x ∷ xs) ys e =
    ap (λ b. (not (counts x) || not b) && are_once counts (xs ++ ys)) (among_append x xs ys)
    ∙ by (counts x) (among x xs) (among x ys) (are_once counts xs) (are_once counts (xs ++ ys)) e
    (once_longer counts xs ys)
  where
    by : (a b d c more : Bool) → ((not a || not b) && c) ≡ false → (c ≡ false → more ≡ false)
        → ((not a || not (b || d)) && more) ≡ false
    by false b d c more e next = next e
    by true true d c more e next = refl
    by true false true c more e next = refl
    by true false false c more e next = next e

-- a doubled name that counts in a front of a list is doubled in the list
pub once_before : (counts : Name → Bool) (xs ys all : List Name) → xs ++ ys ≡ all
    → are_once counts xs ≡ false → are_once counts all ≡ false
once_before counts xs ys all e d =
    subst (λ l. are_once counts l ≡ false) e (once_longer counts xs ys d)

stands_twice : (counts : Name → Bool) (x : Name) (xs ys : List Name) → counts x ≡ true
    → among x xs ≡ true → are_once counts (xs ++ x ∷ ys) ≡ false
stands_twice counts x [] ys c a = absurd cc
stands_twice counts x (z ∷ xs) ys c a =
    by (bytes_eq x z) refl a (stands_twice counts x xs ys c)
  where
    rest : Bool
    rest = are_once counts (xs ++ x ∷ ys)

    by : (b : Bool) → bytes_eq x z ≡ b → (b || among x xs) ≡ true
        → (among x xs ≡ true → rest ≡ false)
        → are_once counts (z ∷ (xs ++ x ∷ ys)) ≡ false
    by true e a later =
        let same : x ≡ z = (bytes_eq-Decides x z).0 e in
        let here : counts z ≡ true = subst (λ y. counts y ≡ true) same c in
        let again : among z (xs ++ x ∷ ys) ≡ true =
        among_append z xs (x ∷ ys)
        ∙ ap (λ b. among z xs || (b || among z ys)) (bytes_eq-symmetric z x ∙ e)
        ∙ or_right (among z xs) true refl in
        ap (λ b. (not b || not (among z (xs ++ x ∷ ys))) && rest) here
        ∙ ap (λ b. not b && rest) again
    by false e a later =
        and_right (counted counts (λ y. not (among y (xs ++ x ∷ ys))) z) rest (later a)

-- a name that counts and that stands before is doubled
pub once_here : (counts : Name → Bool) (xs ys all : List Name) (x : Name) → xs ++ x ∷ ys ≡ all
    → counted counts (λ y. not (among y xs)) x ≡ false → are_once counts all ≡ false
once_here counts xs ys all x e d =
    let both = two_of (counts x) (among x xs) d in
    subst (λ l. are_once counts l ≡ false) e (stands_twice counts x xs ys both.0 both.1)
  where
    two_of : (a b : Bool) → (not a || not b) ≡ false → (a ≡ true) × (b ≡ true)
    two_of true true e = (refl, refl)
    two_of true false e = absurd cc
    two_of false b e = absurd cc

-- the name at the place that is found for `x` is `x`
pub name_at_place : (x : Name) (ns : List Name) (i : ℕ) → position (bytes_eq x) ns ≡ Some i
    → slice_get ns i ≡ Some x
name_at_place x ns i e = by ns i e
  where
    at_first : (ns : List Name) → nat_lt (position_or_len (bytes_eq x) ns) (length ns) ≡ true
        → slice_get ns (position_or_len (bytes_eq x) ns) ≡ Some x
    at_first [] e = absurd (grind (arith, nat_tests))
    at_first (y ∷ ns) e = step (bytes_eq x y) refl (position_or_len (bytes_eq x) ns) (at_first ns) e
      where
        step : (b : Bool) → bytes_eq x y ≡ b → (n : ℕ)
            → (nat_lt n (length ns) ≡ true → slice_get ns n ≡ Some x)
            → nat_lt (cond (not b) (1 + n) 0) (length (y ∷ ns)) ≡ true
            → slice_get (y ∷ ns) (cond (not b) (1 + n) 0) ≡ Some x
        step true p n next e = ap Some (sym ((bytes_eq-Decides x y).0 p))
        step false p n next e =
            let lt : nat_lt n (length ns) ≡ true = grind (arith, nat_tests) in
            let one_more : suc n ≡ 1 + n = omega arith in
            subst (λ k. slice_get (y ∷ ns) k ≡ Some x) one_more (next lt)

    by : (ns : List Name) (i : ℕ) → position (bytes_eq x) ns ≡ Some i → slice_get ns i ≡ Some x
    by ns i e = on (nat_lt (position_or_len (bytes_eq x) ns) (length ns)) refl
        (position_or_len (bytes_eq x) ns) refl e
      where
        on : (b : Bool) → nat_lt (position_or_len (bytes_eq x) ns) (length ns) ≡ b → (n : ℕ)
            → position_or_len (bytes_eq x) ns ≡ n
            → cond b (Some n) None ≡ Some i → slice_get ns i ≡ Some x
        on true lt n is e = let same : n ≡ i =
            cc in subst (λ k. slice_get ns k ≡ Some x) (is ∙ same) (at_first ns lt)
        on false lt n is e = absurd cc
