-- The first cell of a text, and the text after it.
-- This file mirrors code (src/scan.rt); no definition of the language stands on it.
use Rattle.std.specs.Prelude.{ℕ, Bool, true, ◌||◌, if◌then◌else◌, List, [], ◌∷◌}
use Rattle.lb_trace.specs.Plain.{ends_line, is_comma, plain_records}
use Rattle.lb_trace.specs.Lines.{after_line, record_of}

-- a comma, or the end of a line
abbrev pub ends_cell : ℕ → Bool
ends_cell b = is_comma b || ends_line b

-- the bytes before the end of the first cell
unfoldable pub cell_of : List ℕ → List ℕ
cell_of [] = []
cell_of (b ∷ rest) = if ends_cell b then [] else b ∷ cell_of rest

-- the bytes after the end of the first cell
unfoldable pub after_cell : List ℕ → List ℕ
after_cell [] = []
after_cell (b ∷ rest) = if ends_cell b then rest else after_cell rest

-- whether the first cell is the last one of its record
unfoldable pub is_last_cell : List ℕ → Bool
is_last_cell [] = true
is_last_cell (b ∷ rest) = if ends_cell b then ends_line b else is_last_cell rest

-- the records of a text that begins with a record, or is empty
abbrev pub begun_records : List ℕ → List (List (List ℕ))
begun_records [] = []
begun_records (b ∷ rest) = record_of (b ∷ rest) ∷ plain_records (after_line (b ∷ rest))
