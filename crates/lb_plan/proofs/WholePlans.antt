-- A plan whose batches are run one after the other.
use Rattle.std.proofs.Common.{ℕ, ◌≡◌, ◌<◌, ◌∙◌, List, length, arith}
use Rattle.std.specs.List.{All, Contains, range_with_len}
use Rattle.std.proofs.lemmas.List.FromFn.{get_or-range_with_len, length-range_with_len}
use Rattle.std.proofs.lemmas.List.Sorted.{All-permutation, Contains-permutation}
use Rattle.std.proofs.lemmas.List.Sorted.{length_permutation}
use Rattle.lb_plan.specs.Plans.{IsPlan, numbers_in}

-- a plan over n numbers has n numbers
pub numbers_count : (n width : ℕ) (batches : List (List ℕ)) → IsPlan n width batches
    → length (numbers_in batches) ≡ n
numbers_count n width batches plan =
    length_permutation (range_with_len 0 n) (numbers_in batches) plan.each_once
    ∙ length-range_with_len 0 n

-- each number of a plan is below n
pub numbers_below : (n width : ℕ) (batches : List (List ℕ)) → IsPlan n width batches
    → All (λ k. k < n) (numbers_in batches)
numbers_below n width batches plan =
    All-permutation (λ k. k < n) (range_with_len 0 n) (numbers_in batches) plan.each_once
    (λ k d inside.
    let long = length-range_with_len 0 n in
    let at = get_or-range_with_len 0 n k d (omega (arith, long, inside)) in
    omega (arith, long, inside, at))

-- each number below n stands in a plan
pub numbers_each : (n width : ℕ) (batches : List (List ℕ)) → IsPlan n width batches
    → (k : ℕ) → k < n → Contains (numbers_in batches) k
numbers_each n width batches plan k below =
    let long = length-range_with_len 0 n in
    let at = get_or-range_with_len 0 n k k below in
    Contains-permutation (range_with_len 0 n) (numbers_in batches) k plan.each_once (
      k,
      omega (arith, long, below),
      omega (arith, at),
    )
