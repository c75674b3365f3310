-- The items of a list of options, if each is there: item by item, in the other order, and for two
-- lists one after the other.
use Rattle.std.proofs.Common.{◌≡◌, ◌<◌, ◌≤◌, ◌+◌, ℕ, suc, List, [], ◌∷◌, ◌++◌, length, drop, map}
use Rattle.std.proofs.Common.{get_or, Option, Some, None, option_map, refl, ap, sym, ◌∙◌}
use Rattle.std.specs.Prelude.{reverse}
use Rattle.std.proofs.Math.ListN.{drop_of_length-le}
use Rattle.std.proofs.lemmas.List.{reverse-append, map-append, drop_more, append-nil, append_assoc}
use Rattle.lb_syntax.specs.Lists.{◌>>=◌, all_some}

-- the items that are done, and then the items from `i` on, are the whole list
abbrev pub IsSoFar : {A B : Type 0} → (A → Option B) → List B → List A → ℕ → Type 0
IsSoFar f done xs i = option_map (λ l. done ++ l) (all_some (map f (drop i xs)))
    ≡ all_some (map f xs)

nothing_before : {B : Type 0} (o : Option (List B)) → option_map (λ l. [] ++ l) o ≡ o
nothing_before None = refl
nothing_before (Some l) = refl

-- ## Item by item

next_item : {A B : Type 0} (f : A → Option B) (xs : List A) (i : ℕ) (x : A) (o : Option B)
    → i < length xs → x ≡ get_or xs i x → o ≡ f x
    → all_some (map f (drop i xs)) ≡ all_some (o ∷ map f (drop (i + 1) xs))
next_item f xs i x o below is e =
    ap (λ l. all_some (map f l)) (drop_more xs i x below)
    ∙ ap (λ y. all_some (f y ∷ map f (drop (i + 1) xs))) (sym is)
    ∙ ap (λ q. all_some (q ∷ map f (drop (i + 1) xs))) (sym e)

moved : {B : Type 0} (done : List B) (y : B) (o : Option (List B))
    → option_map (λ l. (done ++ y ∷ []) ++ l) o
    ≡ option_map (λ l. done ++ l) (option_map (λ l. y ∷ l) o)
moved done y None = refl
moved {B = B} done y (Some l) = ap (λ (m : List B). Some m) (append_assoc done (y ∷ []) l)

-- one more item is done
pub one_more : {A B : Type 0} (f : A → Option B) (xs : List A) (i : ℕ) (x : A) (y : B)
    (done after : List B) (all : Option (List B))
    → i < length xs → x ≡ get_or xs i x → Some y ≡ f x → after ≡ done ++ y ∷ []
    → option_map (λ l. done ++ l) (all_some (map f (drop i xs))) ≡ all
    → option_map (λ l. after ++ l) (all_some (map f (drop (i + 1) xs))) ≡ all
one_more f xs i x y done after all below is e more h =
    ap (λ l. option_map (λ m. l ++ m) (all_some (map f (drop (i + 1) xs)))) more
    ∙ moved done y (all_some (map f (drop (i + 1) xs)))
    ∙ ap (option_map (λ l. done ++ l)) (sym (next_item f xs i x (Some y) below is e)) ∙ h

-- an item is not there
pub one_missing : {A B : Type 0} (f : A → Option B) (xs : List A) (i : ℕ) (x : A)
    (done : List B) (all : Option (List B)) → i < length xs → x ≡ get_or xs i x → None ≡ f x
    → option_map (λ l. done ++ l) (all_some (map f (drop i xs))) ≡ all → None ≡ all
one_missing f xs i x done all below is e h =
    sym (ap (option_map (λ l. done ++ l)) (next_item f xs i x None below is e)) ∙ h

-- all items are done
pub all_done : {A B : Type 0} (f : A → Option B) (xs : List A) (i : ℕ) (done : List B)
    (all : Option (List B)) → length xs ≤ i
    → option_map (λ l. done ++ l) (all_some (map f (drop i xs))) ≡ all → Some done ≡ all
all_done {B = B} f xs i done all past h =
    ap (λ (l : List B). Some l) (sym (append-nil done))
    ∙ ap (λ l. option_map (λ m. done ++ m) (all_some (map f l))) (sym (drop_of_length-le xs past))
    ∙ h

-- ## Two lists, one after the other

pub all_some-append : {A : Type 0} (xs ys : List (Option A))
    → all_some (xs ++ ys) ≡ (all_some xs >>= λ a. option_map (λ b. a ++ b) (all_some ys))
all_some-append {A = A} [] ys = sym (nothing_before (all_some ys))
all_some-append {A = A} (None ∷ xs) ys = refl
all_some-append {A = A} (Some x ∷ xs) ys =
    ap (option_map (λ l. x ∷ l)) (all_some-append xs ys) ∙ by (all_some xs) (all_some ys)
  where
    by : (o p : Option (List A))
        → option_map (λ l. x ∷ l) (o >>= λ a. option_map (λ b. a ++ b) p)
        ≡ (option_map (λ l. x ∷ l) o >>= λ a. option_map (λ b. a ++ b) p)
    by None p = refl
    by (Some a) None = refl
    by (Some a) (Some b) = refl

-- ## The items in the other order

pub all_some-reverse : {A : Type 0} (xs : List (Option A))
    → all_some (reverse xs) ≡ option_map reverse (all_some xs)
all_some-reverse {A = A} [] = refl
all_some-reverse {A = A} (None ∷ xs) =
    ap all_some (reverse-append (None ∷ []) xs) ∙ all_some-append (reverse xs) (None ∷ [])
    ∙ by (all_some (reverse xs))
  where
    by : (p : Option (List A))
        → (p >>= λ a. option_map (λ b. a ++ b) (all_some {A = A} (None ∷ []))) ≡ None
    by None = refl
    by (Some a) = refl
all_some-reverse {A = A} (Some x ∷ xs) =
    ap all_some (reverse-append (Some x ∷ []) xs) ∙ all_some-append (reverse xs) (Some x ∷ [])
    ∙ ap (λ p. p >>= λ a. option_map (λ b. a ++ b) (all_some (Some x ∷ []))) (all_some-reverse xs)
    ∙ by (all_some xs)
  where
    by : (p : Option (List A))
        → (option_map reverse p >>= λ a. option_map (λ b. a ++ b) (all_some (Some x ∷ [])))
        ≡ option_map reverse (option_map (λ l. x ∷ l) p)
    by None = refl
    by (Some a) = ap Some (sym (reverse-append (x ∷ []) a))

pub map_reverse : {A B : Type 0} (f : A → B) (xs : List A) → map f (reverse xs) ≡ reverse (map f xs)
map_reverse f [] = refl
map_reverse f (x ∷ xs) =
    ap (map f) (reverse-append (x ∷ []) xs) ∙ map-append f (reverse xs) (x ∷ [])
    ∙ ap (λ l. l ++ f x ∷ []) (map_reverse f xs) ∙ sym (reverse-append (f x ∷ []) (map f xs))

pub all_some-map-reverse : {A B : Type 0} (f : A → Option B) (xs : List A)
    → all_some (map f (reverse xs)) ≡ option_map reverse (all_some (map f xs))
all_some-map-reverse f xs = ap all_some (map_reverse f xs) ∙ all_some-reverse (map f xs)

-- ## The number of items

pub length-all_some : {A : Type 0} (xs : List (Option A)) (ys : List A) → all_some xs ≡ Some ys
    → length ys ≡ length xs
length-all_some [] ys e = let f : [] ≡ ys = cc in rw (← f) refl
length-all_some (None ∷ xs) ys e = absurd cc
length-all_some {A = A} (Some x ∷ xs) ys e = by (all_some xs) (λ zs. length-all_some xs zs) e
  where
    by : (o : Option (List A)) → ((zs : List A) → o ≡ Some zs → length zs ≡ length xs)
        → option_map (λ l. x ∷ l) o ≡ Some ys → length ys ≡ suc (length xs)
    by None each f = absurd cc
    by (Some zs) each f = let g : (x ∷ zs) ≡ ys = cc in rw (← g) (ap suc (each zs refl))
