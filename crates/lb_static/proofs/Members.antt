-- The items of a list, and of lists that are made of it.
use Rattle.std.proofs.Common.{◌≡◌, ℕ, zero, suc, Bool, true, false, cond, List, [], ◌∷◌, map}
use Rattle.std.proofs.Common.{Option, Some, None, refl, ap, sym, ◌∙◌, inl, inr}
use Rattle.std.specs.Prelude.{◌&&◌, ◌||◌, filter, slice_get}
use Rattle.std.specs.List.{list_all, list_any, cons_option, filter_map, Contains}
use Rattle.std.proofs.lemmas.Option.{slice_get-get_or, slice_get_within, get_or_from_slice_get}
use Rattle.lb_syntax.specs.Lists.{In}

-- ## The items of a list

pub in_at : {A : Type 0} (xs : List A) (i : ℕ) (x : A) → slice_get xs i ≡ Some x → In x xs
in_at [] i x e = absurd cc
in_at (y ∷ xs) zero x e = inl cc
in_at (y ∷ xs) (suc i) x e = inr (in_at xs i x e)

pub place_in : {A : Type 0} (xs : List A) (x : A) → In x xs → (i : ℕ) × (slice_get xs i ≡ Some x)
place_in [] x on = absurd on
place_in (y ∷ xs) x (inl is) = (0, ap Some is)
place_in (y ∷ xs) x (inr on) = let at = place_in xs x on in (suc at.0, at.1)

pub in_contains : {A : Type 0} (xs : List A) (x : A) → In x xs → Contains xs x
in_contains xs x on =
    let at = place_in xs x on in
    (at.0, slice_get_within xs at.0 x at.1, get_or_from_slice_get xs at.0 x x at.1)

pub contains_in : {A : Type 0} (xs : List A) (x : A) → Contains xs x → In x xs
contains_in xs x c = in_at xs c.0 x (slice_get-get_or xs c.0 x c.1 ∙ ap Some c.2)

pub in_map : {A B : Type 0} (f : A → B) (xs : List A) (x : A) → In x xs → In (f x) (map f xs)
in_map f [] x on = absurd on
in_map f (y ∷ xs) x (inl is) = inl (ap f is)
in_map f (y ∷ xs) x (inr on) = inr (in_map f xs x on)

pub map_in : {A B : Type 0} (f : A → B) (xs : List A) (y : B) → In y (map f xs)
    → (x : A) × In x xs × (f x ≡ y)
map_in f [] y on = absurd on
map_in f (x ∷ xs) y (inl is) = (x, inl refl, is)
map_in f (x ∷ xs) y (inr on) = let h = map_in f xs y on in (h.0, inr h.1, h.2)

pub in_filter : {A : Type 0} (p : A → Bool) (xs : List A) (x : A) → In x xs → p x ≡ true
    → In x (filter p xs)
in_filter p [] x on e = absurd on
in_filter p (y ∷ xs) x (inl is) e = by (p y) (ap p is ∙ e)
  where
    by : (b : Bool) → b ≡ true → In x (cond b (y ∷ filter p xs) (filter p xs))
    by true e = inl is
    by false e = absurd cc
in_filter p (y ∷ xs) x (inr on) e = by (p y) (in_filter p xs x on e)
  where
    by : (b : Bool) → In x (filter p xs) → In x (cond b (y ∷ filter p xs) (filter p xs))
    by true later = inr later
    by false later = later

pub filter_in : {A : Type 0} (p : A → Bool) (xs : List A) (x : A) → In x (filter p xs)
    → In x xs × (p x ≡ true)
filter_in p [] x on = absurd on
filter_in p (y ∷ xs) x on = by (λ at. let h = filter_in p xs x at in (inr h.0, h.1)) (p y) refl on
  where
    by : (In x (filter p xs) → In x (y ∷ xs) × (p x ≡ true)) → (b : Bool) → p y ≡ b
        → In x (cond b (y ∷ filter p xs) (filter p xs)) → In x (y ∷ xs) × (p x ≡ true)
    by later true e (inl is) = (inl is, ap p (sym is) ∙ e)
    by later true e (inr on) = later on
    by later false e on = later on

pub in_filter_map : {A B : Type 0} (f : A → Option B) (xs : List A) (x : A) (y : B) → In x xs
    → f x ≡ Some y → In y (filter_map f xs)
in_filter_map f [] x y on e = absurd on
in_filter_map f (z ∷ xs) x y on e = by (λ later. in_filter_map f xs x y later e) (f z) refl on
  where
    by : (In x xs → In y (filter_map f xs)) → (o : Option _) → f z ≡ o → In x (z ∷ xs)
        → In y (cons_option o (filter_map f xs))
    by next None at (inl is) = let two : None ≡ Some y = sym at ∙ ap f is ∙ e in absurd cc
    by next None at (inr on) = next on
    by next (Some w) at (inl is) = let two : Some w ≡ Some y = sym at ∙ ap f is ∙ e in inl cc
    by next (Some w) at (inr on) = inr (next on)

pub filter_map_in : {A B : Type 0} (f : A → Option B) (xs : List A) (y : B) → In y (filter_map f xs)
    → (x : A) × In x xs × (f x ≡ Some y)
filter_map_in f [] y on = absurd on
filter_map_in f (z ∷ xs) y on =
    by (λ at. let h = filter_map_in f xs y at in (h.0, inr h.1, h.2)) (f z) refl on
  where
    by : (In y (filter_map f xs) → (x : _) × In x (z ∷ xs) × (f x ≡ Some y)) → (o : Option _)
        → f z ≡ o → In y (cons_option o (filter_map f xs))
        → (x : _) × In x (z ∷ xs) × (f x ≡ Some y)
    by later None at on = later on
    by later (Some w) at (inl is) = (z, inl refl, at ∙ ap Some is)
    by later (Some w) at (inr on) = later on

pub any_in : {A : Type 0} (p : A → Bool) (xs : List A) (x : A) → In x xs → p x ≡ true
    → list_any p xs ≡ true
any_in p [] x on e = absurd on
any_in p (y ∷ xs) x (inl is) e = ap (λ b. b || list_any p xs) (ap p is ∙ e)
any_in p (y ∷ xs) x (inr on) e = by (p y) (any_in p xs x on e)
  where
    by : (b : Bool) → list_any p xs ≡ true → (b || list_any p xs) ≡ true
    by true h = refl
    by false h = h

pub in_any : {A : Type 0} (p : A → Bool) (xs : List A) → list_any p xs ≡ true
    → (x : A) × In x xs × (p x ≡ true)
in_any p [] e = absurd cc
in_any p (y ∷ xs) e = by (λ h. let rest = in_any p xs h in (rest.0, inr rest.1, rest.2)) (p y) refl
    e
  where
    by : (list_any p xs ≡ true → (x : _) × In x (y ∷ xs) × (p x ≡ true)) → (b : Bool) → p y ≡ b
        → (b || list_any p xs) ≡ true → (x : _) × In x (y ∷ xs) × (p x ≡ true)
    by later true at h = (y, inl refl, at)
    by later false at h = later h

pub from_all : {A : Type 0} (p : A → Bool) (xs : List A) → ((x : A) → In x xs → p x ≡ true)
    → list_all p xs ≡ true
from_all p [] h = refl
from_all p (x ∷ xs) h = ap (λ b. b && list_all p xs) (h x (inl refl))
    ∙ from_all p xs (λ y on. h y (inr on))
