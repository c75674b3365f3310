-- The integers of some members of a batch, in the lanes of words.
-- Source: this project's rule.
use Rattle.std.specs.Prelude.{◌≡◌, ℕ, ◌<◌, ◌≤◌, ◌+◌, ◌*◌, ◌⊎◌, ◌==◌, true, List, [], ℤ, pos}
use Rattle.std.specs.Prelude.{length, get_or, slice_index, slice_index_or, if◌then◌else◌}
use Rattle.std.specs.Prelude.{int_le}
use Rattle.lb_traces.specs.Packed.{words_of_row}
use Rattle.lb_traces.specs.Traces.{Recording}
use Rattle.lb_lanes.specs.Kernels.{lane_of}
use Rattle.lb_lanes.specs.Planes.{on}
use Rattle.lb_sim.specs.InputRows.{member_cell}

-- the integer in lane `i`, where four integers stand side by side from lane `first` on
abbrev pub one_of_four : ℕ → ℤ → ℤ → ℤ → ℤ → ℕ → ℤ
one_of_four first a b c d i =
    if i == first + 3 then d
    else if i == first + 2 then c else if i == first + 1 then b else a

-- the integer in lane `i`, where the integers at place `w` of four rows stand side by side from
-- lane `first` on
abbrev pub four_at : ℕ → List ℤ → List ℤ → List ℤ → List ℤ → ℕ → ℕ → ℤ
four_at first a b c d w i =
    one_of_four first (get_or a w (pos 0)) (get_or b w (pos 0)) (get_or c w (pos 0))
    (get_or d w (pos 0)) i

-- each live lane from `first` to before `end` has the integers of its member: a word for each of
-- `places`, which are places in `columns`; no other lane has changed
pub record AreLoaded (r : Recording) (members begins : List ℕ) (t live : ℕ)
    (columns places : List ℕ) (first end : ℕ) (old new : List (List ℤ)) : Type 0 where
  pub words : length new ≡ length old
  pub put :
      (i k : ℕ) → first ≤ i → i < end → on live i ≡ true → k < length places →
      lane_of (slice_index_or new (slice_index places k) []) i
      ≡ member_cell r members begins t i (get_or columns (slice_index places k) 0)
  pub others :
      (i w : ℕ) → i < 64 → (i < first) ⊎ (end ≤ i) →
      lane_of (slice_index_or new w []) i ≡ lane_of (slice_index_or old w []) i

-- `AreLoaded` for `count` instants from `t` on: each of `places` has a word for each of 64
-- instants, and one word that is not used
pub record AreLoadedAhead (r : Recording) (members begins : List ℕ) (t count live : ℕ)
    (columns places : List ℕ) (first end : ℕ) (old new : List (List ℤ)) : Type 0 where
  pub room : length new ≡ length old
  pub put :
      (i d k : ℕ) → first ≤ i → i < end → on live i ≡ true → d < count → k < length places →
      lane_of (slice_index_or new (65 * k + d) []) i
      ≡ member_cell r members begins (t + d) i (get_or columns (slice_index places k) 0)
  pub others :
      (k e i : ℕ) → e < 64 → i < 64 → (i < first) ⊎ (end ≤ i) →
      lane_of (slice_index_or new (65 * k + e) []) i
      ≡ lane_of (slice_index_or old (65 * k + e) []) i

-- the instants from `first` to before `until` are loaded in `lanes`: each of `places` has a word
-- for each of 64 instants, and one word that is not used
pub record AreAhead (r : Recording) (members begins : List ℕ) (first until lanes : ℕ)
    (columns places : List ℕ) (room : List (List ℤ)) : Type 0 where
  pub cells :
      (i d k : ℕ) → i < 64 → on lanes i ≡ true → first + d < until → k < length places →
      lane_of (slice_index_or room (65 * k + d) []) i
      ≡ member_cell r members begins (first + d) i (get_or columns (slice_index places k) 0)

-- the words of `a`, `b`, `c` and `d` stand in the four lanes from `first` on; no other lane has
-- changed
pub record AreFourPut (a b c d : List ℕ) (first : ℕ) (old new : List ℕ) (n : ℕ) : Type 0 where
  pub as_long : length new ≡ length old
  pub one : (m : ℕ) → m < n → slice_index new (72 * m + first) ≡ slice_index a m
  pub two : (m : ℕ) → m < n → slice_index new (72 * m + (first + 1)) ≡ slice_index b m
  pub three : (m : ℕ) → m < n → slice_index new (72 * m + (first + 2)) ≡ slice_index c m
  pub four : (m : ℕ) → m < n → slice_index new (72 * m + (first + 3)) ≡ slice_index d m
  pub others :
      (m k : ℕ) → k < 64 → (k < first) ⊎ (first + 4 ≤ k) →
      slice_index new (72 * m + k) ≡ slice_index old (72 * m + k)

-- each live lane from `first` to before `end` has the Booleans of its member at `count` instants
-- from `t` on; no other lane has changed
pub record AreTruthsLoaded (r : Recording) (members begins : List ℕ) (t count live : ℕ)
    (columns : List ℕ) (first end : ℕ) (old new : List ℕ) : Type 0 where
  pub as_long : length new ≡ length old
  pub put :
      (i d g c : ℕ) → first ≤ i → i < end → on live i ≡ true → d < count → c < 64 →
      64 * g + c < length columns →
      on (slice_index new (72 * (d * words_of_row (length columns) + g) + i)) c
      ≡ int_le (pos 1) (member_cell r members begins (t + d) i (get_or columns (64 * g + c) 0))
  pub others :
      (m k : ℕ) → k < 64 → (k < first) ⊎ (end ≤ k) →
      slice_index new (72 * m + k) ≡ slice_index old (72 * m + k)

-- the Booleans of the instants from `first` to before `until` are loaded in `lanes`: for each
-- instant and each 64 columns there is a word of each lane
pub record AreTruthsAhead (r : Recording) (members begins : List ℕ) (first until lanes : ℕ)
    (columns rows : List ℕ) : Type 0 where
  pub room :
      (d : ℕ) → first + d < until →
      72 * (d * words_of_row (length columns) + words_of_row (length columns)) ≤ length rows
  pub cells :
      (i d g c : ℕ) → i < 64 → on lanes i ≡ true → first + d < until → c < 64 →
      64 * g + c < length columns →
      on (slice_index rows (72 * (d * words_of_row (length columns) + g) + i)) c
      ≡ int_le (pos 1) (member_cell r members begins (first + d) i (get_or columns (64 * g + c) 0))

-- each lane of `plane` is a lane of `other`
abbrev pub AreAmong : ℕ → ℕ → Type 0
AreAmong plane other = (i : ℕ) → i < 64 → on plane i ≡ true → on other i ≡ true
