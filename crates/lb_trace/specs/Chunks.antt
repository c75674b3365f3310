-- A text that comes in chunks.
-- This file says what the code finds in a text; no definition of the language stands on it.
use Rattle.std.specs.Prelude.{ℕ, ◌-◌, Bool as Truth, List, Vec, length, get_or, flat_map}
use Rattle.std.specs.Global.{Global}
use Rattle.lb_trace.specs.Plain.{ends_line}

-- the bytes of some chunks, one chunk after the other
abbrev pub text_of : List (Vec ℕ Global) → List ℕ
text_of chunks = flat_map (λ chunk. chunk.items) chunks

-- whether the last byte of a text is the end of a line
abbrev pub is_ended : List ℕ → Truth
is_ended text = ends_line (get_or text (length text - 1) 0)
