-- The place of a name that stands behind others, where names are distinct.
use Rattle.std.proofs.Common.{◌≡◌, ℕ, zero, suc, ◌+◌, ◌-◌, Bool, true, false, cond, List, [], ◌∷◌}
use Rattle.std.proofs.Common.{length, drop, Option, Some, None, option_map, refl, ap, sym, ◌∙◌}
use Rattle.std.proofs.Common.{arith}
use Rattle.std.specs.Prelude.{not, nat_lt, nat_le, position}
use Rattle.std.specs.List.{list_any, position_or_len}
use Rattle.std.specs.Str.{bytes_eq}
use Rattle.std.proofs.lemmas.Bool.Decides.{nat_tests}
use Rattle.std.proofs.lemmas.Slice.Eq.{bytes_eq-Decides}
use Rattle.std.proofs.lemmas.Bool.{not-true}
use Rattle.lb_syntax.specs.Tree.{Name}
use Rattle.lb_syntax.proofs.TruthValues.{and_first, and_second, or_second}
use Rattle.lb_static.specs.Names.{are_distinct}
use Rattle.lb_static.specs.Parts.{among}
use Rattle.lb_static.proofs.Lists.{any_is}

-- the place counted from `k` on, if it is not before `k`
abbrev pub later : ℕ → Option ℕ → Option ℕ
later k None = None
later k (Some i) = cond (nat_le k i) (Some (i - k)) None

pub later_found : (k i : ℕ) (b : Bool) → nat_le k i ≡ b
    → later k (Some i) ≡ cond b (Some (i - k)) None
later_found k i b e = ap (λ c. cond c (Some (i - k)) None) e

at_first : {A : Type 0} (p : A → Bool) (x : A) (xs : List A) → p x ≡ true
    → position p (x ∷ xs) ≡ Some 0
at_first p x xs e = by (p x) (position_or_len p xs) (length xs) e
  where
    by : (b : Bool) (m l : ℕ) → b ≡ true
        → cond (nat_lt (cond (not b) (1 + m) 0) (suc l)) (Some (cond (not b) (1 + m) 0)) None
        ≡ Some 0
    by true m l e = let h : nat_lt 0 (suc l) ≡ true = grind (arith, nat_tests) in rw h refl
    by false m l e = absurd cc

at_next : {A : Type 0} (p : A → Bool) (x : A) (xs : List A) → p x ≡ false
    → position p (x ∷ xs) ≡ option_map suc (position p xs)
at_next p x xs e = by (p x) (position_or_len p xs) (length xs) e
  where
    step : (b : Bool) (m : ℕ) → cond b (Some (1 + m)) None ≡ option_map suc (cond b (Some m) None)
    step true m = let h : 1 + m ≡ suc m = omega arith in ap Some h
    step false m = refl

    by : (b : Bool) (m l : ℕ) → b ≡ false
        → cond (nat_lt (cond (not b) (1 + m) 0) (suc l)) (Some (cond (not b) (1 + m) 0)) None
        ≡ option_map suc (cond (nat_lt m l) (Some m) None)
    by true m l e = absurd cc
    by false m l e = let h : nat_lt (1 + m) (suc l) ≡ nat_lt m l =
        grind (arith, nat_tests) in rw h (step (nat_lt m l) m)

later_from_first : (o : Option ℕ) → later 0 o ≡ o
later_from_first None = refl
later_from_first (Some i) = let h : nat_le 0 i ≡ true =
    grind (arith, nat_tests) in let g : i - 0 ≡ i = omega arith in rw (h, g) refl

later_next : (k : ℕ) (o : Option ℕ) → later (suc k) (option_map suc o) ≡ later k o
later_next k None = refl
later_next k (Some i) =
    let h : nat_le (suc k) (suc i) ≡ nat_le k i = grind (arith, nat_tests) in
    let g : suc i - suc k ≡ i - k = omega arith in
    rw (h, g) refl

none_in_rest : (x : Name) (k : ℕ) (ys : List Name) → among x ys ≡ false
    → among x (drop k ys) ≡ false
none_in_rest x zero ys e = e
none_in_rest x (suc k) [] e = e
none_in_rest x (suc k) (y ∷ ys) e = none_in_rest x k ys (or_second (bytes_eq x y) (among x ys) e)

no_place : {A : Type 0} (p : A → Bool) (xs : List A) → list_any p xs ≡ false → position p xs ≡ None
no_place p xs e = by (nat_lt (position_or_len p xs) (length xs)) (position_or_len p xs)
    (sym (any_is p xs) ∙ e)
  where
    by : (b : Bool) (m : ℕ) → b ≡ false → cond b (Some m) None ≡ None
    by true m e = absurd cc
    by false m e = refl

pub later_place : (x : Name) (k : ℕ) (xs : List Name) → are_distinct xs ≡ true
    → later k (position (bytes_eq x) xs) ≡ position (bytes_eq x) (drop k xs)
later_place x zero xs d = later_from_first (position (bytes_eq x) xs)
later_place x (suc k) [] d = refl
later_place x (suc k) (y ∷ ys) d =
    by (bytes_eq x y) refl (later_place x k ys (and_second (not (among y ys)) (are_distinct ys) d))
  where
    by : (b : Bool) → bytes_eq x y ≡ b
        → later k (position (bytes_eq x) ys) ≡ position (bytes_eq x) (drop k ys)
        → later (suc k) (position (bytes_eq x) (y ∷ ys)) ≡ position (bytes_eq x) (drop k ys)
    by true e rest =
        let same : x ≡ y = (bytes_eq-Decides x y).0 e in
        let alone : among x ys ≡ false = ap (λ z. among z ys) same
        ∙ not-true (among y ys) (and_first (not (among y ys)) (are_distinct ys) d) in
        let before : nat_le (suc k) 0 ≡ false = grind (arith, nat_tests) in
        ap (later (suc k)) (at_first (bytes_eq x) y ys e) ∙ later_found (suc k) 0 false before
        ∙ sym (no_place (bytes_eq x) (drop k ys) (none_in_rest x k ys alone))
    by false e rest =
        ap (later (suc k)) (at_next (bytes_eq x) y ys e) ∙ later_next k (position (bytes_eq x) ys)
        ∙ rest
