-- The layout of rows in memory: their integers one after the other, and their Booleans as the bits
-- of words.
-- Source: this project's rule.
use Rattle.std.specs.Prelude.{ℕ, zero, suc, ◌≡◌, ◌+◌, ◌*◌, ◌/◌, ◌%◌, ◌<◌, ◌≤◌, ◌==◌, List, []}
use Rattle.std.specs.Prelude.{◌∷◌, ◌++◌, Bool as Truth, true, false, ℤ, pos, int_le, length, map}
use Rattle.std.specs.Prelude.{get_or, drop}
use Rattle.std.specs.Int.{bit_at}
use Rattle.lb_syntax.specs.declared.tree.Kind.{Kind}
use Rattle.lb_syntax.specs.declared.tree.Kind.TheVariants.{Int, Bool}
use Rattle.lb_syntax.specs.Lists.{zip2}
use Rattle.lb_static.specs.Signature.{Elements, kinds_of}
use Rattle.lb_traces.specs.Ledger.{last_place}
use Rattle.lb_traces.specs.Stored.{IsStored}

-- the columns of the Booleans, where the first column has the number `j`
abbrev pub truth_columns : ℕ → List Kind → List ℕ
truth_columns j [] = []
truth_columns j (Bool ∷ kinds) = j ∷ truth_columns (suc j) kinds
truth_columns j (Int ∷ kinds) = truth_columns (suc j) kinds

-- the columns of the integers, where the first column has the number `j`
abbrev pub number_columns : ℕ → List Kind → List ℕ
number_columns j [] = []
number_columns j (Bool ∷ kinds) = number_columns (suc j) kinds
number_columns j (Int ∷ kinds) = j ∷ number_columns (suc j) kinds

-- for each column its number among the columns of its kind, where `u` integers and `v` Booleans
-- stand before the first one
abbrev pub places_from : ℕ → ℕ → List Kind → List ℕ
places_from u v [] = []
places_from u v (Int ∷ kinds) = u ∷ places_from (suc u) v kinds
places_from u v (Bool ∷ kinds) = v ∷ places_from u (suc v) kinds

-- the columns of a signature, by their kinds
pub record AreColumns (kinds : List Kind) (integers truths places : List ℕ) : Type 0 where
  pub integers_are : integers ≡ number_columns 0 kinds
  pub truths_are : truths ≡ truth_columns 0 kinds
  pub places_are : places ≡ places_from 0 0 kinds

-- the number of words that hold `n` Booleans
abbrev pub words_of_row : ℕ → ℕ
words_of_row n = (n + 63) / 64

-- Boolean number `b` of `words`, which hold 64 each
abbrev pub bit_in : List ℕ → ℕ → Truth
bit_in words b = bit_at (get_or words (b / 64) 0) (b % 64) == 1

-- Boolean number `b` of a row whose Booleans stand in `columns`; false past the last one
abbrev pub truth_in : List ℤ → List ℕ → ℕ → Truth
truth_in row columns b = int_le (pos 1) (get_or row (get_or columns b (length row)) (pos 0))

-- the bits of the words are the Booleans of the row
pub record ArePacked (row : List ℤ) (columns words : List ℕ) : Type 0 where
  pub as_long : length words ≡ words_of_row (length columns)
  pub bits :
      (g i : ℕ) → g < length words → i < 64 →
      (bit_at (get_or words g 0) i == 1) ≡ truth_in row columns (64 * g + i)

-- `new` is `old` with the words of one more row at the end
pub record HasPushed (old : List ℕ) (row : List ℤ) (columns new : List ℕ) : Type 0 where
  pub more : List ℕ
  pub is : new ≡ old ++ more
  pub packed : ArePacked row columns more

-- the first `n` columns stand side by side
pub record AreTogether (columns : List ℕ) (n : ℕ) : Type 0 where
  pub within : n ≤ length columns
  pub side : (k : ℕ) → k < n → get_or columns k 0 ≡ get_or columns 0 0 + k

-- the integers of a row in `columns`
abbrev pub numbers_in : List ℤ → List ℕ → List ℤ
numbers_in row columns = map (λ j. get_or row j (pos 0)) columns

-- the cell of a Boolean
abbrev pub truth_cell : Truth → ℤ
truth_cell true = pos 1
truth_cell false = pos 0

-- the cell of a column by its kind: integer number `p`, or Boolean number `p`
abbrev pub cell_held : List ℤ → List ℕ → Kind → ℕ → ℤ
cell_held numbers words Int p = get_or numbers p (pos 0)
cell_held numbers words Bool p = truth_cell (bit_in words p)

-- the row whose integers stand first in `numbers`, and its words first in `words`
abbrev pub row_held : List Kind → List ℤ → List ℕ → List ℤ
row_held kinds numbers words = zip2 (cell_held numbers words) kinds (places_from 0 0 kinds)

-- the number of integers of a row; and below, the number of its words
abbrev pub numbers_of : List Kind → ℕ
numbers_of kinds = length (number_columns 0 kinds)

abbrev pub words_of : List Kind → ℕ
words_of kinds = words_of_row (length (truth_columns 0 kinds))

-- row number `r`
abbrev pub nth_row : List Kind → List ℤ → List ℕ → ℕ → List ℤ
nth_row kinds numbers words r =
    row_held kinds (drop (r * numbers_of kinds) numbers) (drop (r * words_of kinds) words)

-- the cells of the first `r` rows, one row after the other
abbrev pub cells_held : List Kind → List ℤ → List ℕ → ℕ → List ℤ
cells_held kinds numbers words zero = []
cells_held kinds numbers words (suc r) =
    cells_held kinds numbers words r ++ nth_row kinds numbers words r

-- the cells of all rows, up to the last place of `ends`
abbrev pub cells_of : Elements → List ℤ → List ℕ → List ℕ → List ℤ
cells_of elements numbers words ends =
    cells_held (kinds_of elements) numbers words (last_place ends)

-- `rows` rows fill `numbers` and `words`, and no bit past the Booleans of a row is set
pub record AreFilled (kinds : List Kind) (rows : ℕ) (numbers : List ℤ) (words : List ℕ) :
    Type 0 where
  pub numbers_long : length numbers ≡ rows * numbers_of kinds
  pub words_long : length words ≡ rows * words_of kinds
  pub past :
      (r b : ℕ) → r < rows → length (truth_columns 0 kinds) ≤ b → b < 64 * words_of kinds →
      bit_in (drop (r * words_of kinds) words) b ≡ false

-- the parts of a set fit one another
pub record IsSet (elements : Elements) (names : List (List ℕ)) (numbers : List ℤ)
    (words ends integers truths places : List ℕ) : Type 0 where
  pub parts : IsStored elements names (cells_of elements numbers words ends) ends
  pub columns : AreColumns (kinds_of elements) integers truths places
  pub filled : AreFilled (kinds_of elements) (last_place ends) numbers words
