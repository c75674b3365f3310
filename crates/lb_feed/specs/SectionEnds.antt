-- The places where the sections of a text begin and end.
-- This file says what data of the program mean; no definition of the language stands on it.
use Rattle.std.specs.Prelude.{ℕ, ◌≡◌, ◌<◌, ◌≤◌, ◌-◌, zero, suc, List, get_or, length}

-- the begin of section `i`: the end of the one before it, or `from` for the first one
abbrev pub start_of : (from : ℕ) → (ends : List ℕ) → (i : ℕ) → ℕ
start_of from ends zero = from
start_of from ends (suc i) = get_or ends i 0

-- sections follow one another from `from` to `size`, and leave out no byte
pub record AreEnds (from size : ℕ) (ends : List ℕ) : Type 0 where
  pub some : 0 < length ends
  pub last : get_or ends (length ends - 1) 0 ≡ size
  pub ordered : (i : ℕ) → i < length ends → start_of from ends i ≤ get_or ends i 0
