-- Each trace stands in a batch that was drawn.
use Rattle.std.proofs.Common.{◌≡◌, ℕ, zero, suc, ◌+◌, ◌<◌, ◌⊎◌, inl, inr, List, [], ◌∷◌}
use Rattle.std.proofs.Common.{length}
use Rattle.std.proofs.Common.{get_or, length-append, sym, subst, arith}
use Rattle.std.specs.List.{All, Contains, range_with_len}
use Rattle.std.specs.List.Sorted.{IsPermutation}
use Rattle.std.proofs.lemmas.Bool.{cases_eq}
use Rattle.std.proofs.lemmas.Bool.Decides.{nat_tests}
use Rattle.std.proofs.lemmas.List.{get_or_append_left, get_or-append-add}
use Rattle.std.proofs.lemmas.List.Elements.{Contains-append_left, Contains-append_right}
use Rattle.std.proofs.lemmas.List.Elements.{Contains-append_cases}
use Rattle.std.proofs.lemmas.List.FromFn.{length-range_with_len, get_or-range_with_len}
use Rattle.std.proofs.lemmas.List.Sorted.{All-permutation, Contains-permutation}
use Rattle.lb_plan.specs.Plans.{numbers_in, IsLawful}
use Rattle.lb_board.specs.Draws.{times, once_below, AreAllBelow}
use Rattle.lb_board.proofs.Claiming.{times_append}
use Rattle.lb_pool.specs.Runs.{numbers_drawn}

-- ## All numbers are those of traces

pub all_numbers :
    (n : ℕ) (batches : List (List ℕ)) → IsLawful batches → length (numbers_in batches) ≡ n →
    IsPermutation (range_with_len 0 n) (numbers_in batches)
all_numbers n batches lawful over_all =
    subst (λ m. IsPermutation (range_with_len 0 m) (numbers_in batches)) over_all
    lawful.plan.each_once

parts_below :
    (n : ℕ) (batches : List (List ℕ)) → All (λ k. k < n) (numbers_in batches) →
    (i : ℕ) (d : List ℕ) → i < length batches → All (λ k. k < n) (get_or batches i d)
parts_below n [] h i d below = absurd (omega (arith, below))
parts_below n (b ∷ bs) h zero d below = λ k e inside.
    subst (λ m. m < n) (get_or_append_left b (numbers_in bs) e k inside)
    (h k e (omega (arith, inside, length-append b (numbers_in bs))))
parts_below n (b ∷ bs) h (suc i) d below =
    parts_below n bs
    (λ k e inside. subst (λ m. m < n) (get_or-append-add b (numbers_in bs) k e)
    (h (length b + k) e (omega (arith, inside, length-append b (numbers_in bs)))))
    i d (omega (arith, below))

batches_below :
    (n : ℕ) (batches : List (List ℕ)) → IsPermutation (range_with_len 0 n) (numbers_in batches) →
    (i : ℕ) (d : List ℕ) → i < length batches → All (λ k. k < n) (get_or batches i d)
batches_below n batches moved =
    parts_below n batches
    (All-permutation (λ k. k < n) (range_with_len 0 n) (numbers_in batches) moved
    (λ k d inside.
    let long = length-range_with_len 0 n in
    let at = get_or-range_with_len 0 n k d (omega (arith, long, inside)) in
    omega (arith, long, inside, at)))

pub batch_below :
    (n : ℕ) (batches : List (List ℕ)) (i : ℕ) (xs : List ℕ) → IsLawful batches →
    length (numbers_in batches) ≡ n → i < length batches → xs ≡ get_or batches i [] →
    All (λ k. k < n) xs
batch_below n batches i xs lawful over_all below is =
    subst (All (λ k. k < n)) (sym is)
    (batches_below n batches (all_numbers n batches lawful over_all) i [] below)

-- ## Each trace is in a batch

abbrev InSome : List (List ℕ) → ℕ → Type 0
InSome batches k = (i : ℕ) × (i < length batches) × Contains (get_or batches i []) k

in_first_or_later :
    (b : List ℕ) (bs : List (List ℕ)) (k : ℕ) → (Contains (numbers_in bs) k → InSome bs k) →
    Contains b k ⊎ Contains (numbers_in bs) k → InSome (b ∷ bs) k
in_first_or_later b bs k later (inl here) = (0, omega arith, here)
in_first_or_later b bs k later (inr there) =
    let found = later there in
    (suc found.0, omega (arith, found.1), found.2)

in_some : (batches : List (List ℕ)) (k : ℕ) → Contains (numbers_in batches) k → InSome batches k
in_some [] k h = absurd (omega (arith, h.1))
in_some (b ∷ bs) k h =
    in_first_or_later b bs k (in_some bs k) (Contains-append_cases b (numbers_in bs) k h)

-- ## Each batch was drawn

none_here : (x i : ℕ) → (x ≡ i → ⊥) → times i (x ∷ []) ≡ 0
none_here x i other = grind (arith, nat_tests, other)

drawn_or_later :
    (x i : ℕ) (xs : List ℕ) → (0 < times i xs → Contains xs i) → 0 < times i (x ∷ xs) →
    (x ≡ i) ⊎ (x ≡ i → ⊥) → Contains (x ∷ xs) i
drawn_or_later x i xs later some (inl here) = (0, omega arith, here)
drawn_or_later x i xs later some (inr other) =
    let one = none_here x i other in
    let sum = times_append i (x ∷ []) xs in
    let found = later (omega (arith, some, sum, one)) in
    (suc found.0, omega (arith, found.1), found.2)

was_drawn : (drawn : List ℕ) (i : ℕ) → 0 < times i drawn → Contains drawn i
was_drawn [] i some = absurd (omega (arith, some))
was_drawn (x ∷ xs) i some = drawn_or_later x i xs (was_drawn xs i) some (cases_eq x i)

numbers_of_drawn :
    (batches : List (List ℕ)) (drawn : List ℕ) (i k : ℕ) → Contains drawn i →
    Contains (get_or batches i []) k → Contains (numbers_drawn batches drawn) k
numbers_of_drawn batches [] i k at inside = absurd (omega (arith, at.1))
numbers_of_drawn batches (x ∷ xs) i k (zero, below, here) inside =
    Contains-append_left (get_or batches x []) (numbers_drawn batches xs) k
    (subst (λ j. Contains (get_or batches j []) k) (sym here) inside)
numbers_of_drawn batches (x ∷ xs) i k (suc j, below, there) inside =
    Contains-append_right (get_or batches x []) (numbers_drawn batches xs) k
    (numbers_of_drawn batches xs i k (j, omega (arith, below), there) inside)

some_below : (k n : ℕ) → k < n → 0 < once_below k n
some_below k n h = grind arith

-- where each batch of a plan was drawn, each of its numbers was drawn
pub covered_by :
    (n : ℕ) (batches : List (List ℕ)) (drawn : List ℕ) → IsLawful batches →
    length (numbers_in batches) ≡ n → ((i : ℕ) → i < length batches → Contains drawn i) →
    (k : ℕ) → k < n → Contains (numbers_drawn batches drawn) k
covered_by n batches drawn lawful over_all each k below =
    let moved = all_numbers n batches lawful over_all in
    let long = length-range_with_len 0 n in
    let at = get_or-range_with_len 0 n k k below in
    let inside : Contains (range_with_len 0 n) k =
    (k, omega (arith, long, below), omega (arith, at)) in
    let found = in_some batches k
    (Contains-permutation (range_with_len 0 n) (numbers_in batches) k moved inside) in
    numbers_of_drawn batches drawn found.0 k (each found.0 found.1) found.2

pub covered :
    (n : ℕ) (batches : List (List ℕ)) (drawn : List ℕ) → IsLawful batches →
    length (numbers_in batches) ≡ n → AreAllBelow (length batches) drawn →
    (k : ℕ) → k < n → Contains (numbers_drawn batches drawn) k
covered n batches drawn lawful over_all all =
    covered_by n batches drawn lawful over_all
    (λ i below.
    let once = all i in
    let some = some_below i (length batches) below in
    was_drawn drawn i (omega (arith, once, some)))
