-- A plan in memory: all numbers in one list, and the width of its batches.
use Rattle.std.specs.Prelude.{ℕ, ◌+◌, ◌-◌, ◌*◌, ◌/◌, ◌^◌, ◌<◌, ◌≤◌, List, length, take, drop, map}
use Rattle.std.specs.List.{range_with_len}
use Rattle.std.specs.List.Sorted.{IsPermutation}

-- the number of batches of a width that n numbers fill, the last perhaps in part: 10 numbers fill 3
-- batches of width 4
abbrev pub count_of : ℕ → ℕ → ℕ
count_of width n = (n + (width - 1)) / width

-- the numbers of batch i
abbrev pub batch_of : ℕ → List ℕ → ℕ → List ℕ
batch_of width numbers i = take width (drop (i * width) numbers)

-- all batches
abbrev pub batches_of : ℕ → List ℕ → List (List ℕ)
batches_of width numbers =
    map (batch_of width numbers) (range_with_len 0 (count_of width (length numbers)))

-- `width` is 1 to 64, and `numbers` has each number below its length once
pub record IsCut (width : ℕ) (numbers : List ℕ) : Type 0 where
  pub some : 0 < width
  pub at_most_64 : width ≤ 64
  pub few : length numbers < 2 ^ 32
  pub each_once : IsPermutation (range_with_len 0 (length numbers)) numbers

-- the numbers below n, each paired with the length at it: `(length_at k, k)`
abbrev pub measured : (ℕ → ℕ) → ℕ → List (ℕ × ℕ)
measured length_at n = map (λ k. (length_at k, k)) (range_with_len 0 n)
