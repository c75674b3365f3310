-- Plans: how the traces of a set are cut into batches. A trace is named by its number.
-- Source: this project's rule.
use Rattle.std.specs.Prelude.{◌≡◌, ℕ, ◌+◌, ◌<◌, ◌≤◌, ◌⊎◌, List, [], ◌++◌, length, get_or}
use Rattle.std.specs.Prelude.{take, drop, reverse, flat_map}
use Rattle.std.specs.List.{range_with_len, AllPairs}
use Rattle.std.specs.List.Sorted.{IsPermutation}
use Rattle.lb_traces.specs.Traces.{Traces, trace_at}

-- the numbers of all batches, batch after batch
abbrev pub numbers_in : List (List ℕ) → List ℕ
numbers_in batches = flat_map (λ batch. batch) batches

-- the numbers below n in batches of a width: each number stands in one batch, once; no batch is
-- empty; each has as many numbers as the width says, but the last may have fewer
pub record IsPlan (n width : ℕ) (batches : List (List ℕ)) : Type 0 where
  pub each_once : IsPermutation (range_with_len 0 n) (numbers_in batches)
  pub not_empty : (i : ℕ) → i < length batches → 0 < length (get_or batches i [])
  pub not_wider : (i : ℕ) → i < length batches → length (get_or batches i []) ≤ width
  pub full : (i : ℕ) → i + 1 < length batches → length (get_or batches i []) ≡ width

-- the law of every plan: it has a width of at most 64, and is a plan over all its numbers
pub record IsLawful (batches : List (List ℕ)) : Type 0 where
  pub width : ℕ
  pub at_most_64 : width ≤ 64
  pub plan : IsPlan (length (numbers_in batches)) width batches

-- the number of instants of a trace
abbrev pub length_of : Traces → ℕ → ℕ
length_of traces k = length (trace_at traces k).1

-- trace j is shorter than trace k, or it is as long and j is at most k
abbrev pub Precedes : (ℕ → ℕ) → ℕ → ℕ → Type 0
Precedes length_at j k =
    (length_at j < length_at k) ⊎ ((length_at j ≡ length_at k) × (j ≤ k))

-- the numbers of traces, by length and then by number
abbrev pub IsByLength : Traces → List ℕ → Type 0
IsByLength traces numbers = AllPairs (Precedes (length_of traces)) numbers

-- the numbers of traces in the order in which a queue with `lanes` lanes takes them: the first
-- ones, one for each lane, begin with the longest trace; put behind the others in the reverse
-- order, all are by length
abbrev pub IsForLanes : Traces → ℕ → List ℕ → Type 0
IsForLanes traces lanes numbers =
    IsByLength traces (drop lanes numbers ++ reverse (take lanes numbers))
