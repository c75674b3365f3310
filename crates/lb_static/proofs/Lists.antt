-- Lists: the items from a place on, tests of each item, and the place of the first that passes.
use Rattle.std.proofs.Common.{◌≡◌, ℕ, zero, suc, ◌+◌, ◌<◌, Bool, true, false, cond, List, [], ◌∷◌}
use Rattle.std.proofs.Common.{◌++◌, length, take, drop, map, get_or, Some, None, refl, ap, sym, ◌∙◌}
use Rattle.std.proofs.Common.{◌-◌, arith, length-append}
use Rattle.std.specs.Prelude.{◌&&◌, ◌||◌, not, nat_lt, position}
use Rattle.std.specs.List.{list_any, position_or_len}
use Rattle.std.proofs.lemmas.Bool.Decides.{nat_tests}
use Rattle.std.proofs.lemmas.List.{append_assoc, drop_more}

pub map_next : {A B : Type 0} (f : A → B) (xs : List A) (i : ℕ) (d : A) → i < length xs
    → map f (drop i xs) ≡ f (get_or xs i d) ∷ map f (drop (i + 1) xs)
map_next f xs i d below = ap (map f) (drop_more xs i d below)

-- ## The first place

first_in_front : (p : ℕ) (k l : ℕ) → nat_lt p k ≡ (nat_lt (1 + p) (suc k))
first_in_front p k l = grind (arith, nat_tests)

and_none : (a : Bool) → false ≡ (a && false)
and_none true = refl
and_none false = refl

-- some of the first `k` items passes exactly if the first that passes is among them
any_take : {A : Type 0} (p : A → Bool) (k : ℕ) (xs : List A)
    → list_any p (take k xs)
    ≡ (nat_lt (position_or_len p xs) k && nat_lt (position_or_len p xs) (length xs))
any_take p zero [] = refl
any_take p (suc k) [] = and_none (nat_lt 0 (suc k))
any_take p zero (x ∷ xs) =
    none (position_or_len p (x ∷ xs)) (nat_lt (position_or_len p (x ∷ xs)) (length (x ∷ xs)))
  where
    none : (n : ℕ) (b : Bool) → false ≡ (nat_lt n 0 && b)
    none n b = let e : nat_lt n 0 ≡ false = grind (arith, nat_tests) in rw e refl
any_take p (suc k) (x ∷ xs) = by (p x) (position_or_len p xs) (any_take p k xs)
  where
    by : (b : Bool) (n : ℕ) → list_any p (take k xs) ≡ (nat_lt n k && nat_lt n (length xs))
        → (b || list_any p (take k xs))
        ≡ (nat_lt (cond (not b) (1 + n) 0) (suc k)
        && nat_lt (cond (not b) (1 + n) 0) (length (x ∷ xs)))
    by true n h =
        let e : nat_lt 0 (suc k) ≡ true = grind (arith, nat_tests) in
        let f : nat_lt 0 (suc (length xs)) ≡ true = grind (arith, nat_tests) in
        rw (e, f) refl
    by false n h =
        h ∙ ap (λ b. b && nat_lt n (length xs)) (first_in_front n k 0)
        ∙ ap (λ b. nat_lt (1 + n) (suc k) && b) (first_in_front n (length xs) 0)

pub position_take : {A : Type 0} (p : A → Bool) (k : ℕ) (xs : List A) (i : ℕ)
    → position p xs ≡ Some i → nat_lt i k ≡ list_any p (take k xs)
position_take p k xs i e =
    by (position_or_len p xs) (nat_lt (position_or_len p xs) (length xs)) e ∙ sym (any_take p k xs)
  where
    by : (n : ℕ) (b : Bool) → cond b (Some n) None ≡ Some i → nat_lt i k ≡ (nat_lt n k && b)
    by n true h = let same : n ≡ i = cc in rw same (and_true (nat_lt i k))
      where
        and_true : (a : Bool) → a ≡ (a && true)
        and_true true = refl
        and_true false = refl
    by n false h = absurd cc

pub position_none : {A : Type 0} (p : A → Bool) (k : ℕ) (xs : List A) → position p xs ≡ None
    → false ≡ list_any p (take k xs)
position_none p k xs e =
    by (position_or_len p xs) (nat_lt (position_or_len p xs) (length xs)) e ∙ sym (any_take p k xs)
  where
    by : (n : ℕ) (b : Bool) → cond b (Some n) None ≡ None → false ≡ (nat_lt n k && b)
    by n true h = absurd cc
    by n false h = and_none (nat_lt n k)

-- the items before, item `i` and the items behind it are the whole list
pub at_place : {A C : Type 0} (f : A → C) (before : List C) (xs : List A) (i : ℕ) (x : A)
    (all : List C) → i < length xs → x ≡ get_or xs i x
    → before ++ map f (drop i xs) ≡ all → before ++ f x ∷ map f (drop (i + 1) xs) ≡ all
at_place f before xs i x all below is e =
    ap (λ y. before ++ f y ∷ map f (drop (i + 1) xs)) is
    ∙ ap (λ l. before ++ l) (sym (map_next f xs i x below)) ∙ e

pub map_map : {A B C : Type 0} (f : A → B) (g : B → C) (xs : List A)
    → map g (map f xs) ≡ map (λ x. g (f x)) xs
map_map f g [] = refl
map_map f g (x ∷ xs) = ap (λ l. g (f x) ∷ l) (map_map f g xs)

pub any_is : {A : Type 0} (p : A → Bool) (xs : List A)
    → list_any p xs ≡ nat_lt (position_or_len p xs) (length xs)
any_is p [] = refl
any_is p (x ∷ xs) = by (p x) (position_or_len p xs) (any_is p xs)
  where
    by : (b : Bool) (n : ℕ) → list_any p xs ≡ nat_lt n (length xs)
        → (b || list_any p xs) ≡ nat_lt (cond (not b) (1 + n) 0) (length (x ∷ xs))
    by true n h = let f : nat_lt 0 (suc (length xs)) ≡ true = grind (arith, nat_tests) in sym f
    by false n h = h ∙ first_in_front n (length xs) 0

-- where no place is found, no item passes
pub none_passes : {A : Type 0} (p : A → Bool) (xs : List A) → position p xs ≡ None
    → list_any p xs ≡ false
none_passes p xs e = any_is p xs
    ∙ by (nat_lt (position_or_len p xs) (length xs)) (position_or_len p xs) e
  where
    by : (b : Bool) (n : ℕ) → cond b (Some n) None ≡ None → b ≡ false
    by true n h = absurd cc
    by false n h = refl

-- where a place is found, some item passes
pub some_passes : {A : Type 0} (p : A → Bool) (xs : List A) (i : ℕ) → position p xs ≡ Some i
    → list_any p xs ≡ true
some_passes p xs i e = any_is p xs
    ∙ by (nat_lt (position_or_len p xs) (length xs)) (position_or_len p xs) e
  where
    by : (b : Bool) (n : ℕ) → cond b (Some n) None ≡ Some i → b ≡ true
    by true n h = refl
    by false n h = absurd cc

-- ## A list with one item more, and without it again

front_of : {A : Type 0} (xs ys : List A) → take (length xs) (xs ++ ys) ≡ xs
front_of [] ys = refl
front_of (x ∷ xs) ys = ap (λ l. x ∷ l) (front_of xs ys)

pub popped : {A : Type 0} (before pushed after : List A) (x : A) (n : ℕ)
    → pushed ≡ before ++ x ∷ [] → n ≡ length pushed → after ≡ take (n - 1) pushed → after ≡ before
popped before pushed after x n more long less =
    let e : length pushed ≡ length before + 1 = ap length more ∙ length-append before (x ∷ []) in
    let m : n - 1 ≡ length before = omega arith in
    less ∙ ap (λ k. take k pushed) m ∙ ap (take (length before)) more ∙ front_of before (x ∷ [])

-- one more of the names of the items of a list stands among those that are done
pub one_more_name : {A B C : Type 0} (view : A → B) (name_of : B → C) (done after : List C) (x : C)
    (xs : List A) (i : ℕ) (a : A) (all : List C) → i < length xs → a ≡ get_or xs i a
    → x ≡ name_of (view a) → after ≡ done ++ x ∷ []
    → done ++ map name_of (map view (drop i xs)) ≡ all
    → after ++ map name_of (map view (drop (i + 1) xs)) ≡ all
one_more_name view name_of done after x xs i a all below is named more h =
    let left = map name_of (map view (drop (i + 1) xs)) in
    ap (λ l. l ++ left) more ∙ append_assoc done (x ∷ []) left
    ∙ ap (λ y. done ++ y ∷ left) named
    ∙ ap (λ l. done ++ l) (ap (λ y. name_of (view y) ∷ left) is
    ∙ sym (ap (map name_of) (map_next view xs i a below))) ∙ h
