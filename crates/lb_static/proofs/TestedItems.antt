-- Tests of the items of a list, and the result of a search.
use Rattle.std.proofs.Common.{◌≡◌, Bool, true, false, cond, List, [], ◌∷◌, Option, Some, refl, ap}
use Rattle.std.proofs.Common.{subst, ◌∙◌}
use Rattle.std.specs.Prelude.{◌&&◌, find, filter, flat_map}
use Rattle.std.specs.List.{list_all}
use Rattle.std.proofs.lemmas.List.Folds.{list_all-append}

pub all_flat : {A B : Type 0} (p : B → Bool) (f : A → List B) (xs : List A)
    → list_all p (flat_map f xs) ≡ list_all (λ x. list_all p (f x)) xs
all_flat p f [] = refl
all_flat p f (x ∷ xs) = list_all-append p (f x) (flat_map f xs)
    ∙ ap (λ b. list_all p (f x) && b) (all_flat p f xs)

found_step : {A : Type 0} (p : A → Bool) (b : Bool) (x y : A) (o : Option A) → p x ≡ b
    → cond b (Some x) o ≡ Some y
    → (o ≡ Some y → p y ≡ true) → p y ≡ true
found_step p true x y o is h next = let same : x ≡ y = cc in subst (λ z. p z ≡ true) same is
found_step p false x y o is h next = next h

pub found_passes : {A : Type 0} (p : A → Bool) (xs : List A) (y : A) → find p xs ≡ Some y
    → p y ≡ true
found_passes p [] y h = absurd cc
found_passes p (x ∷ xs) y h = found_step p (p x) x y (find p xs) refl h (found_passes p xs y)

pub filter_same : {A : Type 0} (p q : A → Bool) (xs : List A) → ((x : A) → p x ≡ q x)
    → filter p xs ≡ filter q xs
filter_same p q [] e = refl
filter_same p q (x ∷ xs) e = ap (λ b. cond b (x ∷ filter p xs) (filter p xs)) (e x)
    ∙ ap (λ l. cond (q x) (x ∷ l) l) (filter_same p q xs e)
