-- The line that reports a refusal.
-- Source: this project's rule.
use Rattle.std.specs.Prelude.{ℕ, ◌==◌, ◌||◌, Bool, true, Option, Some, None, List, [], ◌++◌, codes}
use Rattle.std.specs.Prelude.{decimal, min}
use Rattle.lb_refusal.specs.Refusals.{word_of}

-- whether a refusal with this number may have a place: E1, E2 and E3 one in a source, and E17 and
-- E20 one in a file that is read as a report
abbrev pub tells_place : (number : ℕ) → Bool
tells_place number =
    number == 1 || number == 2 || number == 3 || number == 17 || number == 20

-- whether a refusal with this number may have this position
abbrev pub is_placed : (number : ℕ) → Option (ℕ × ℕ) → Bool
is_placed number None = true
is_placed number (Some position) = tells_place number

-- the first column of a line; a line past 4294967295 counts as 4294967295
abbrev pub start_of : (line : ℕ) → Option (ℕ × ℕ)
start_of line = Some (min line 4294967295, 1)

-- a line and a column, as ` at 14:13`
abbrev pub place_at : (line column : ℕ) → List ℕ
place_at line column = codes " at " ++ decimal line ++ codes ":" ++ decimal column

-- the place of a refusal, if it has one
abbrev pub place : Option (ℕ × ℕ) → List ℕ
place None = []
place (Some position) = place_at position.0 position.1

-- the line of a refusal with this number and this position, as `refused: E2 syntax at 14:13`
abbrev pub line : ℕ → Option (ℕ × ℕ) → List ℕ
line number position =
    codes "refused: E" ++ decimal number ++ codes " " ++ word_of number ++ place position
    ++ codes "\n"
