-- Cells that are written one after the other.
use Rattle.std.proofs.Common.{ℕ, zero, suc, ◌≡◌, ◌+◌, ◌<◌, ◌≤◌, List, [], ◌∷◌, ◌++◌, length, get_or}
use Rattle.std.proofs.Common.{take}
use Rattle.std.proofs.Common.{ℤ, pos, refl, sym, ap, ◌∙◌, arith, append_assoc, slice_set}
use Rattle.std.proofs.lemmas.List.{take_all, take_more, take_more_set}
use Rattle.std.proofs.Math.ListN.{length-set}

four-values : (vs : List ℤ) → length vs ≡ 4
    → vs ≡ get_or vs 0 (pos 0) ∷ get_or vs 1 (pos 0) ∷ get_or vs 2 (pos 0) ∷ get_or vs 3 (pos 0) ∷ []
four-values (a ∷ b ∷ c ∷ d ∷ []) size = refl
four-values [] size = absurd (omega (arith, size))
four-values (a ∷ []) size = absurd (omega (arith, size))
four-values (a ∷ b ∷ []) size = absurd (omega (arith, size))
four-values (a ∷ b ∷ c ∷ []) size = absurd (omega (arith, size))
four-values (a ∷ b ∷ c ∷ d ∷ e ∷ more) size = absurd (omega (arith, size))

one-more : (front before : List ℤ) (xs : List ℤ) (i n : ℕ) (v : ℤ) → n ≡ i + 1 → i < length xs
    → take i xs ≡ front ++ before → take n (slice_set xs i v) ≡ front ++ (before ++ v ∷ [])
one-more front before xs i n v next room is =
    ap (λ k. take k (slice_set xs i v)) next ∙ take_more_set xs i v room
    ∙ ap (λ l. l ++ v ∷ []) is ∙ append_assoc front before (v ∷ [])

-- four values that are written from place `i` on stand behind the first `i` cells
pub four-written : (xs values : List ℤ) (i : ℕ) (a b c d : ℤ) → i + 4 ≤ length xs
    → length values ≡ 4 → a ≡ get_or values 0 (pos 0) → b ≡ get_or values 1 (pos 0)
    → c ≡ get_or values 2 (pos 0) → d ≡ get_or values 3 (pos 0)
    → take (i + 4) (slice_set (slice_set (slice_set (slice_set xs i a) (i + 1) b) (i + 2) c)
    (i + 3) d)
    ≡ take i xs ++ values
four-written xs values i a b c d room size ea eb ec ed =
    let one : List ℤ = slice_set xs i a in
    let two : List ℤ = slice_set one (i + 1) b in
    let three : List ℤ = slice_set two (i + 2) c in
    let l1 : length one ≡ length xs = length-set xs i a in
    let l2 : length two ≡ length one = length-set one (i + 1) b in
    let l3 : length three ≡ length two = length-set two (i + 2) c in
    let front : List ℤ = take i xs in
    one-more front (a ∷ b ∷ c ∷ []) three (i + 3) (i + 4) d (omega arith)
    (omega (arith, room, l1, l2, l3))
    (one-more front (a ∷ b ∷ []) two (i + 2) (i + 3) c (omega arith) (omega (arith, room, l1, l2))
    (one-more front (a ∷ []) one (i + 1) (i + 2) b (omega arith) (omega (arith, room, l1))
    (take_more_set xs i a (omega (arith, room)))))
    ∙ ap (λ l. front ++ l) ((λ j. ea j ∷ eb j ∷ ec j ∷ ed j ∷ []) ∙ sym (four-values values size))

-- the first cells and the next one are the first ones of `values`
pub first-more : (values xs ys : List ℤ) (i : ℕ) (v : ℤ) → i < length values
    → v ≡ get_or values i (pos 0) → take i xs ≡ take i values
    → take (i + 1) ys ≡ take i xs ++ v ∷ [] → take (i + 1) ys ≡ take (i + 1) values
first-more values xs ys i v below is before next =
    next ∙ ap (λ l. l ++ v ∷ []) before ∙ ap (λ x. take i values ++ x ∷ []) is
    ∙ sym (take_more values i (pos 0) below)

-- the first `i` cells are written, and there are no others
pub all-written : (xs values : List ℤ) (n i : ℕ) → length xs ≡ n → n ≡ i
    → take i xs ≡ take i values → xs ≡ take n values
all-written xs values n i size same is =
    sym (take_all i xs (omega (arith, size, same))) ∙ is ∙ ap (λ k. take k values) (sym same)

-- a list is the front of the list that begins with it
pub front-whole : (n : ℕ) (xs ys : List ℤ) → length xs ≡ n → xs ≡ take n (xs ++ ys)
front-whole zero [] ys long = refl
front-whole zero (x ∷ xs) ys long = absurd (omega (arith, long))
front-whole (suc n) [] ys long = absurd (omega (arith, long))
front-whole (suc n) (x ∷ xs) ys long =
    ap (λ l. x ∷ l) (front-whole n xs ys (omega (arith, long)))
