-- Four cells that are Booleans, read at once.
-- This file says what the code finds in a text; no definition of the language stands on it.
use Rattle.std.specs.Prelude.{ℕ, true, ◌≡◌, ◌+◌, ◌==◌, ◌||◌, List, ◌++◌, ℤ, get_or}
use Rattle.lb_trace.specs.declared.header.Column.{Column}
use Rattle.lb_trace.specs.Lines.{after_line, record_of}
use Rattle.lb_trace.specs.PlainRows.{onto, plain_row}

-- a digit 0 or 1 stands at a place, and a comma after it
abbrev pub IsTruth : List ℕ → ℕ → Type 0
IsTruth text i =
    (((get_or text i 0 == 48) || (get_or text i 0 == 49)) ≡ true) × (get_or text (i + 1) 0 ≡ 44)

-- the first four cells of `text` are digits 0 or 1, with a comma after each
abbrev pub AreTruths : List ℕ → Type 0
AreTruths text = IsTruth text 0 × IsTruth text 2 × IsTruth text 4 × IsTruth text 6

-- the first columns have `values`; the columns `others` and their cells, in `rest`, are left
abbrev pub GoesOn : List Column → List ℕ → List ℤ → List Column → List ℕ → Type 0
GoesOn columns text values others rest =
    ((row : List ℤ) → onto row (plain_row columns (record_of text))
    ≡ onto (row ++ values) (plain_row others (record_of rest)))
    × (after_line text ≡ after_line rest)
