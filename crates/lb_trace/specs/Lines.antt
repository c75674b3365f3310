-- The record at the front of a text, and the text after it.
-- This file says what the code finds in a text; no definition of the language stands on it.
use Rattle.std.specs.Prelude.{ℕ, ◌≡◌, ◌≤◌, if◌then◌else◌, List, [], ◌∷◌, drop, length}
use Rattle.lb_trace.specs.Plain.{ends_line, is_comma, split_at}

-- the bytes before the end of the first line
unfoldable pub line_of : List ℕ → List ℕ
line_of [] = []
line_of (b ∷ rest) = if ends_line b then [] else b ∷ line_of rest

-- the bytes after the end of the first line
unfoldable pub after_line : List ℕ → List ℕ
after_line [] = []
after_line (b ∷ rest) = if ends_line b then rest else after_line rest

-- the cells of the first line
abbrev pub record_of : List ℕ → List (List ℕ)
record_of text = split_at is_comma (line_of text)

-- the first line and its end are the first `past` bytes
abbrev pub EndsRecord : List ℕ → ℕ → Type 0
EndsRecord text past = (past ≤ length text) × (drop past text ≡ after_line text)
