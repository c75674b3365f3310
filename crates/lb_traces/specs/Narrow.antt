-- The layout of integers in memory: 16 bits each, but for those that stand elsewhere.
-- Source: this project's rule.
use Rattle.std.specs.Prelude.{ℕ, ◌≡◌, ◌+◌, ◌<◌, ◌≤◌, ◌==◌, cond, false, true, List, [], ◌∷◌, length}
use Rattle.std.specs.Prelude.{map, get_or}
use Rattle.std.specs.Prelude.{ℤ, pos, negsuc, int_le}
use Rattle.std.specs.List.{range_with_len}

-- integers in memory, and for how many more there is room
pub record Integers : Type 0 where
  pub items : List ℤ
  pub room : ℕ

-- the value that stands at place `i`, or 0 where none does
abbrev pub value_at : List ℕ → List ℤ → ℕ → ℤ
value_at [] values i = pos 0
value_at (p ∷ places) [] i = pos 0
value_at (p ∷ places) (v ∷ values) i = cond (p == i) v (value_at places values i)

-- an integer that a cell can tell: it fits 16 bits and is not the least of them
abbrev pub IsTold : ℤ → Type 0
IsTold v = (int_le v (negsuc 32767) ≡ false) × (int_le v (pos 32767) ≡ true)

-- the integer of a cell: the least cell, -32768, tells that it is `other`
abbrev pub integer_of : ℤ → ℤ → ℤ
integer_of cell other = cond (int_le cell (negsuc 32767)) other cell

-- the integer at place `i`
unfoldable pub integer_at : List ℤ → List ℕ → List ℤ → ℕ → ℤ
integer_at cells places values i =
    integer_of (get_or cells i (pos 0)) (value_at places values i)

-- the integers of cells, where `values` stand at `places`
unfoldable pub integers_of : List ℤ → List ℕ → List ℤ → List ℤ
integers_of cells places values =
    map (integer_at cells places values) (range_with_len 0 (length cells))

-- the parts fit one another
pub record IsNarrow (cells : List ℤ) (places : List ℕ) (values : List ℤ) : Type 0 where
  pub paired : length places ≡ length values
  pub ascend :
      (i j : ℕ) → i < j → j < length places → get_or places i 0 < get_or places j 0
  pub within : (k : ℕ) → k < length places → get_or places k 0 < length cells
  pub few : length cells ≤ 4294967296

-- `cells` are those of a row from place `start` of `numbers` on, as far as they tell
pub record AreCells (cells numbers : List ℤ) (start : ℕ) : Type 0 where
  pub within : start + length cells ≤ length numbers
  pub few : start + length cells ≤ 4294967296
  pub told :
      (w : ℕ) → w < length cells → int_le (get_or cells w (pos 0)) (negsuc 32767) ≡ false →
      get_or cells w (pos 0) ≡ get_or numbers (start + w) (pos 0)
