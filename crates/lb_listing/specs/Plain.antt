-- Digits in the form in which numbers are written.
-- This file says what the code looks at; no definition of a report stands on it.
use Rattle.std.specs.Prelude.{ℕ, Bool, ◌==◌, ◌&&◌, not, nat_lt, List, length, slice_index}

-- there is no plus before the digits, and no zero before other digits
abbrev pub is_canonical : List ℕ → Bool
is_canonical digits =
    not (slice_index digits 0 == 43) && not ((slice_index digits 0 == 48) && nat_lt 1 (length
    digits))
