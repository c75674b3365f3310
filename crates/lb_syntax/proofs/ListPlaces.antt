-- Items at the places of lists that are joined, mapped, written and tested.
use Rattle.std.proofs.Common.{◌≡◌, ℕ, zero, suc, ◌+◌, ◌<◌, Bool, true, List, [], ◌∷◌, ◌++◌, length}
use Rattle.std.proofs.Common.{map, set, Some, inl, inr, refl, ap, sym, ◌∙◌, subst, arith}
use Rattle.std.specs.Prelude.{slice_get}
use Rattle.std.specs.List.{list_all}
use Rattle.std.proofs.lemmas.Bool.{and_from}
use Rattle.lb_syntax.specs.Lists.{In}
use Rattle.lb_syntax.proofs.TruthValues.{and_first, and_second}

pub item_at : {A : Type 0} (xs : List A) (i : ℕ) → i < length xs →
    (x : A) × (slice_get xs i ≡ Some x)
item_at [] i below = absurd (omega arith)
item_at (y ∷ xs) zero below = (y, refl)
item_at (y ∷ xs) (suc i) below = item_at xs i (omega arith)

pub nothing_added : {A : Type 0} (xs : List A) → xs ≡ xs ++ []
nothing_added [] = refl
nothing_added (x ∷ xs) = ap (λ l. x ∷ l) (nothing_added xs)

pub heads_same : {A : Type 0} (x y : A) (xs ys : List A) → x ∷ xs ≡ y ∷ ys → x ≡ y
heads_same x y xs ys e = cc

pub tails_same : {A : Type 0} (x y : A) (xs ys : List A) → x ∷ xs ≡ y ∷ ys → xs ≡ ys
tails_same x y xs ys e = cc

pub get_first : {A : Type 0} (xs ys : List A) (i : ℕ) (x : A) → slice_get xs i ≡ Some x →
    slice_get (xs ++ ys) i ≡ Some x
get_first [] ys i x e = absurd cc
get_first (z ∷ xs) ys zero x e = e
get_first (z ∷ xs) ys (suc i) x e = get_first xs ys i x e

pub get_before : {A : Type 0} (xs ys : List A) (i : ℕ) → i < length xs →
    slice_get (xs ++ ys) i ≡ slice_get xs i
get_before [] ys i below = absurd (omega arith)
get_before (x ∷ xs) ys zero below = refl
get_before (x ∷ xs) ys (suc i) below = get_before xs ys i (omega arith)

pub get_later : {A : Type 0} (xs ys : List A) (j : ℕ) →
    slice_get (xs ++ ys) (length xs + j) ≡ slice_get ys j
get_later [] ys j = let e : 0 + j ≡ j = omega arith in ap (slice_get ys) e
get_later (x ∷ xs) ys j =
    let e : suc (length xs) + j ≡ suc (length xs + j) = omega arith in
    ap (slice_get (x ∷ (xs ++ ys))) e ∙ get_later xs ys j

pub get_last : {A : Type 0} (xs : List A) (x : A) → slice_get (xs ++ x ∷ []) (length xs) ≡ Some x
get_last [] x = refl
get_last (y ∷ ys) x = get_last ys x

pub set_here : {A : Type 0} (xs : List A) (i : ℕ) (x : A) → i < length xs →
    slice_get (set xs i x) i ≡ Some x
set_here [] i x below = absurd (omega arith)
set_here (y ∷ ys) zero x below = refl
set_here (y ∷ ys) (suc i) x below = set_here ys i x (omega arith)

pub mapped_from : {A B : Type 0} (f : A → B) (xs : List A) (i : ℕ) (y : B) →
    slice_get (map f xs) i ≡ Some y → (x : A) × (slice_get xs i ≡ Some x) × (f x ≡ y)
mapped_from f [] i y e = absurd cc
mapped_from f (x ∷ xs) zero y e = (x, refl, cc)
mapped_from f (x ∷ xs) (suc i) y e = mapped_from f xs i y e

-- ## Tests

pub all_at : {A : Type 0} (p : A → Bool) (xs : List A) (i : ℕ) (x : A) → list_all p xs ≡ true →
    slice_get xs i ≡ Some x → p x ≡ true
all_at p [] i x e h = absurd cc
all_at p (y ∷ ys) zero x e h =
    let same : y ≡ x = cc in subst (λ z. p z ≡ true) same (and_first (p y) (list_all p ys) e)
all_at p (y ∷ ys) (suc i) x e h = all_at p ys i x (and_second (p y) _ e) h

pub all_from : {A : Type 0} (p : A → Bool) (xs : List A) →
    ((i : ℕ) (x : A) → slice_get xs i ≡ Some x → p x ≡ true) → list_all p xs ≡ true
all_from p [] f = refl
all_from p (y ∷ ys) f = and_from _ _ (f 0 y refl) (all_from p ys (λ i. f (suc i)))

pub all_in : {A : Type 0} (p : A → Bool) (xs : List A) (x : A) → list_all p xs ≡ true → In x xs →
    p x ≡ true
all_in p [] x e on = absurd on
all_in p (y ∷ xs) x e (inl is) = ap p (sym is) ∙ and_first (p y) (list_all p xs) e
all_in p (y ∷ xs) x e (inr on) = all_in p xs x (and_second (p y) (list_all p xs) e) on
