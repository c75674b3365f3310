-- A list whose last elements, the last one first, stand before the others.
use Rattle.std.proofs.Common.{◌≡◌, ℕ, ◌+◌, ◌-◌, ◌<◌, ◌≤◌, ◌⊎◌, inl, inr, ◌++◌}
use Rattle.std.proofs.Common.{List, length, take, drop, reverse, sym, ap, ◌∙◌, subst, arith}
use Rattle.std.proofs.Math.Seq.{drop-append_seam, take-append_seam}
use Rattle.std.specs.List.Sorted.{IsPermutation}
use Rattle.std.proofs.lemmas.Bool.{cases_lt}
use Rattle.std.proofs.lemmas.List.{append-nil, drop_all, take_all, length-drop, length-reverse}
use Rattle.std.proofs.lemmas.List.{reverse-reverse, take-append-drop}
use Rattle.std.proofs.lemmas.List.Sorted.{IsPermutation-trans, IsPermutation-reverse}
use Rattle.std.proofs.lemmas.List.Sorted.{IsPermutation-append_comm, IsPermutation-append_left}

-- the last i elements, the last one first
abbrev pub from_the_end : List ℕ → ℕ → List ℕ
from_the_end xs i = reverse (drop (length xs - i) xs)

-- the elements from a place on, the last one first, and behind them the others
abbrev pub last_first : List ℕ → ℕ → List ℕ
last_first xs w = reverse (drop w xs) ++ take w xs

pub last_first_permuted : (xs : List ℕ) (w : ℕ) → IsPermutation xs (last_first xs w)
last_first_permuted xs w =
    subst (λ ys. IsPermutation ys (last_first xs w)) (take-append-drop w xs)
    (IsPermutation-trans (take w xs ++ drop w xs) (drop w xs ++ take w xs) (last_first xs w)
    (IsPermutation-append_comm (take w xs) (drop w xs))
    (IsPermutation-append_left (take w xs) (drop w xs) (reverse (drop w xs))
    (IsPermutation-reverse (drop w xs))))

-- the list in its first order, put together from `last_first`
abbrev put_back : List ℕ → ℕ → List ℕ
put_back ys count = drop count ys ++ reverse (take count ys)

some_back :
    (xs : List ℕ) (count w : ℕ) → count + w ≡ length xs → put_back (last_first xs w) count ≡ xs
some_back xs count w all =
    let ends = reverse (drop w xs) in
    let others = take w xs in
    let long : length ends ≡ count =
    length-reverse (drop w xs) ∙ length-drop w xs ∙ omega (arith, all) in
    let dropped = subst (λ n. drop n (ends ++ others) ≡ others) long
    (drop-append_seam ends others) in
    let taken = subst (λ n. take n (ends ++ others) ≡ ends) long (take-append_seam ends others) in
    ap (λ l. l ++ reverse (take count (ends ++ others))) dropped
    ∙ ap (λ l. others ++ reverse l) taken
    ∙ ap (λ l. others ++ l) (reverse-reverse (drop w xs)) ∙ take-append-drop w xs

all_back : (xs : List ℕ) (count : ℕ) → length xs ≤ count → put_back (last_first xs 0) count ≡ xs
all_back xs count few =
    let ends = reverse xs in
    let long : length ends ≤ count = omega (arith, length-reverse xs, few) in
    ap (λ l. put_back l count) (append-nil ends)
    ∙ ap (λ l. l ++ reverse (take count ends)) (drop_all count ends long)
    ∙ ap reverse (take_all count ends long) ∙ reverse-reverse xs

pub last_first_back :
    (xs : List ℕ) (count w : ℕ) → (count < length xs → count + w ≡ length xs) →
    (length xs ≤ count → w ≡ 0) → put_back (last_first xs w) count ≡ xs
last_first_back xs count w some all = back (cases_lt count (length xs))
  where
    back : (count < length xs) ⊎ (length xs ≤ count) → put_back (last_first xs w) count ≡ xs
    back (inl more) = some_back xs count w (some more)
    back (inr few) =
        subst (λ n. put_back (last_first xs n) count ≡ xs) (sym (all few)) (all_back xs count few)
