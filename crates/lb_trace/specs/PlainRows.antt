-- The row that the cells of a record without quotes spell, in the order of the text, and where the
-- columns of the signature stand in it.
-- This file says what the code finds in a text; no definition of the language stands on it.
use Rattle.std.specs.Prelude.{ℕ, suc, ◌≡◌, Bool, List, [], ◌∷◌, ◌++◌}
use Rattle.std.specs.Prelude.{Option, Some, None, ℤ, ◌<◌, length, get_or}
use Rattle.std.specs.List.{All}
use Rattle.std.specs.Option.{option_and_then, option_map}
use Rattle.lb_syntax.specs.declared.tree.Kind.{Kind}
use Rattle.lb_trace.specs.declared.header.Column.{Column}
use Rattle.lb_trace.specs.Cells.{cell_value, natural_of}
use Rattle.lb_trace.specs.Scan.{after_cell, cell_of, is_last_cell}
use Rattle.lb_trace.specs.Spelling.{Record}

-- the row that the cells spell, one for each column; None where a cell is no value of its column,
-- or there are more or fewer cells than columns
unfoldable pub plain_row : List Column → Record → Option (List ℤ)
plain_row [] [] = Some []
plain_row [] (cell ∷ cells) = None
plain_row (column ∷ columns) [] = None
plain_row (column ∷ columns) (cell ∷ cells) =
    option_and_then (λ v. option_map (λ row. v ∷ row) (plain_row columns cells))
    (cell_value column.kind cell)

-- the columns stand, in this order, at the places `n`, `n + 1`, ..
abbrev pub AreInOrder : ℕ → List Column → Type 0
AreInOrder n [] = Unit {0}
AreInOrder n (column ∷ columns) = (column.at ≡ n) × AreInOrder (suc n) columns

-- `placed` has, at the place of `column`, a column of its kind
abbrev pub IsPlaced : List Column → Column → Type 0
IsPlaced placed column =
    (column.at < length placed) × ((get_or placed column.at column).kind ≡ column.kind)

-- `placed`, the columns in the order of the text, has each column of `table` at its place
abbrev pub ArePlaced : List Column → List Column → Type 0
ArePlaced placed table = All (IsPlaced placed) table

-- the values of `more` behind those of `row`
abbrev pub onto : List ℤ → Option (List ℤ) → Option (List ℤ)
onto row more = option_map (λ values. row ++ values) more

-- `text` begins with a cell of `value`; `rest` follows it; `is_last`: whether it ends its record
abbrev pub BeginsWith : Kind → List ℕ → ℤ → List ℕ → Bool → Type 0
BeginsWith kind text value rest is_last =
    (cell_value kind (cell_of text) ≡ Some value) × (rest ≡ after_cell text)
    × (is_last ≡ is_last_cell text)

-- `BeginsWith` for a number `n` without a sign, below 1,000,000,000
abbrev pub BeginsWithNumber : List ℕ → ℕ → List ℕ → Bool → Type 0
BeginsWithNumber text n rest is_last =
    (natural_of (cell_of text) ≡ Some n) × (n < 1000000000) × (rest ≡ after_cell text)
    × (is_last ≡ is_last_cell text)
