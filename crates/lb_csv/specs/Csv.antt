-- The part of comma-separated values that is not written yet.
-- This file says what data of the program mean; no definition of the language stands on it.
use Rattle.std.specs.Prelude.{ℕ, ◌+◌, ◌-◌, Bool, true, false, List, [], ◌++◌}
use Rattle.lb_csv.specs.CsvTexts.{header, records}
use Rattle.lb_csv.specs.Players.{program_played, inputs_played, next_played}
use Rattle.lb_csv.specs.Shown.{names_of, numbers_of}
use Rattle.lb_csv.specs.declared.csv.CsvText.{CsvText}

-- the header; nothing once it was written
abbrev pub header_left : Bool → List (List ℕ) → List ℕ
header_left true names = []
header_left false names = header names

-- the text that is not written yet
abbrev pub rest_in : CsvText → List ℕ
rest_in c =
    header_left c.is_begun (names_of c.columns.items)
    ++ records (program_played c.player) (inputs_played c.player) (numbers_of c.columns.items)
    (next_played c.player) (c.player.end - next_played c.player)

-- the header as a number of parts: 1, and 0 once it was written
abbrev pub headers_left : Bool → ℕ
headers_left true = 0
headers_left false = 1

-- the most parts that are left
abbrev pub parts_in : CsvText → ℕ
parts_in c = headers_left c.is_begun + (c.player.end - next_played c.player)
