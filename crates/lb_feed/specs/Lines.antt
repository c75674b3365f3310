-- The ends of lines.
-- This file says what the code finds in a text; no definition of the language stands on it.
use Rattle.std.specs.Prelude.{ℕ, ◌-◌, ◌==◌, ◌||◌, Bool, List, length, get_or}

-- a carriage return or a line feed
abbrev pub ends_line : ℕ → Bool
ends_line b = (b == 13) || (b == 10)

-- whether the last byte of a text is the end of a line
abbrev pub is_ended : List ℕ → Bool
is_ended text = ends_line (get_or text (length text - 1) 0)
