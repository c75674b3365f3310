-- Parts of a list that is two lists one after the other.
use Rattle.std.proofs.Common.{ℕ, ◌≡◌, ◌+◌, ◌-◌, ◌<◌, ◌≤◌, List, ◌++◌, length, get_or, take, drop, ℤ}
use Rattle.std.proofs.Common.{refl, sym, ap, ◌∙◌, arith, length-append, length-drop}
use Rattle.std.proofs.lemmas.List.{get_or-append_right, get_or-take}
use Rattle.std.proofs.lemmas.List.{get_or-drop, length-take-le, same_lists}

length-part : (xs : List ℤ) (start count : ℕ) → start + count ≤ length xs →
    length (take count (drop start xs)) ≡ count
length-part xs start count fits =
    length-take-le count (drop start xs) (omega (arith, fits, length-drop start xs))

at-part : (xs : List ℤ) (start count i : ℕ) (d : ℤ) → i < count →
    get_or (take count (drop start xs)) i d ≡ get_or xs (start + i) d
at-part xs start count i d l =
    get_or-take count (drop start xs) i d l ∙ get_or-drop start xs i d

-- a part of the second list
pub part-back : (xs ys : List ℤ) (start count : ℕ) → length xs ≤ start →
    start + count ≤ length (xs ++ ys) →
    take count (drop start (xs ++ ys)) ≡ take count (drop (start - length xs) ys)
part-back xs ys start count past fits =
    let first = start - length xs in
    let whole = length-part (xs ++ ys) start count fits in
    let back : first + count ≤ length ys = omega (arith, past, fits, length-append xs ys) in
    same_lists (take count (drop start (xs ++ ys))) (take count (drop first ys))
    (whole ∙ sym (length-part ys first count back))
    (λ i d l.
    let below : i < count = omega (arith, l, whole) in
    let there : start + i - length xs ≡ first + i = omega (arith, past) in
    at-part (xs ++ ys) start count i d below
    ∙ get_or-append_right xs ys (length xs) (start + i) d refl (omega (arith, past))
    ∙ ap (λ n. get_or ys n d) there
    ∙ sym (at-part ys first count i d below))
