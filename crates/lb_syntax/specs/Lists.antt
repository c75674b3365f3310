-- Words on lists and options that the definitions of all layers share.
-- Source: this project's words.
use Rattle.std.specs.Prelude.{◌≡◌, ℕ, zero, suc, ◌*◌, ◌/◌, Bool, true, false, Option, Some, None}
use Rattle.std.specs.Prelude.{option_map, List, [], ◌∷◌, ◌++◌, length, take, drop, ◌⊎◌}

-- `P` holds of each item of a list
abbrev pub Every : {A : Type 0} → (A → Type 0) → List A → Type 0
Every P [] = Unit {0}
Every P (x ∷ xs) = P x × Every P xs

-- `i` is an item of a list
abbrev pub In : {A : Type 0} → A → List A → Type 0
In i [] = ⊥
In i (x ∷ xs) = (x ≡ i) ⊎ In i xs

-- no item stands twice in a list
abbrev pub AreApart : {A : Type 0} → List A → Type 0
AreApart [] = Unit {0}
AreApart (x ∷ xs) = (In x xs → ⊥) × AreApart xs

-- `f` of two lists, item by item, as far as both go
abbrev pub zip2 : {A B C : Type 0} → (A → B → C) → List A → List B → List C
zip2 f [] ys = []
zip2 f (x ∷ xs) [] = []
zip2 f (x ∷ xs) (y ∷ ys) = f x y ∷ zip2 f xs ys

-- `n` copies of a list, one after another
abbrev pub copies : {A : Type 0} → ℕ → List A → List A
copies zero xs = []
copies (suc n) xs = xs ++ copies n xs

-- part `i`, counted from 0, of a list of `n` parts of one length
abbrev pub part : {A : Type 0} → ℕ → ℕ → List A → List A
part n i xs = take (length xs / n) (drop ((length xs / n) * i) xs)

-- a list without its first item
abbrev pub tail_of : {A : Type 0} → List A → List A
tail_of [] = []
tail_of (x ∷ xs) = xs

-- the first list of a list of lists, or the empty list if there is none
abbrev pub heads : {A : Type 0} → List (List A) → List A
heads [] = []
heads (xs ∷ xss) = xs

-- the items of all lists of a list, one list after another
abbrev pub joined : {A : Type 0} → List (List A) → List A
joined [] = []
joined (xs ∷ xss) = xs ++ joined xss

-- the values of the options that have one, in their order
abbrev pub some_of : {A : Type 0} → List (Option A) → List A
some_of [] = []
some_of (None ∷ os) = some_of os
some_of (Some x ∷ os) = x ∷ some_of os

-- the values of all options, or none if one of them has no value
abbrev pub all_some : {A : Type 0} → List (Option A) → Option (List A)
all_some [] = Some []
all_some (None ∷ os) = None
all_some (Some x ∷ os) = option_map (λ xs. x ∷ xs) (all_some os)

-- `f` of the value of an option, or none if it has no value
infixl 10 ◌>>=◌
abbrev pub ◌>>=◌ : {A B : Type 0} → Option A → (A → Option B) → Option B
None >>= f = None
(Some x) >>= f = f x

-- an option, or `o` if it has no value
abbrev pub or_else : {A : Type 0} → Option A → Option A → Option A
or_else (Some x) o = Some x
or_else None o = o

-- the value of an option, or `y` if it has no value
abbrev pub either_or : {A : Type 0} → Option A → A → A
either_or (Some x) y = x
either_or None y = y

-- `f` of the value of an option, or the empty list if it has no value
abbrev pub listed : {A B : Type 0} → (A → List B) → Option A → List B
listed f (Some x) = f x
listed f None = []

-- whether an option has a value that passes `test`
abbrev pub holds : {A : Type 0} → (A → Bool) → Option A → Bool
holds test (Some x) = test x
holds test None = false

-- `x` where a test holds, else none
abbrev pub where_true : {A : Type 0} → Bool → A → Option A
where_true true x = Some x
where_true false x = None
