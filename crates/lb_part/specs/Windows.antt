-- The places where a text can be cut, as far as some bytes of it show them.
-- This file says what the code finds in a text; no definition of the language stands on it.
use Rattle.std.specs.Prelude.{◌≡◌, ◌≢◌, ℕ, zero, suc, ◌+◌, ◌<◌, ◌≤◌, Bool, true, false, List, []}
use Rattle.std.specs.Prelude.{◌++◌, drop, get_or, length, Option, None, Some}
use Rattle.lb_part.specs.Cuts.{IsCut, ends_line, name_of}

-- the bytes `more` may follow: none do if the bytes before them are the last ones
abbrev pub Follows : (is_last : Bool) → List ℕ → Type 0
Follows is_last more = is_last ≡ true → more ≡ []

-- `front` may stand before some bytes and `back` behind them: nothing stands before the first bytes
-- or behind the last ones
pub record Stands (is_first is_last : Bool) (front back : List ℕ) : Type 0 where
  pub first : is_first ≡ true → front ≡ []
  pub later : is_first ≡ false → 0 < length front
  pub last : Follows is_last back

-- `place` is the first place, at `from` or behind it, where a text with these bytes can be cut,
-- whatever stands before and behind them
pub record IsCutBy (is_first is_last : Bool) (bytes : List ℕ) (from place : ℕ) : Type 0 where
  pub inside : place ≤ length bytes
  pub cut : (front back : List ℕ) → Stands is_first is_last front back
      → IsCut (front ++ (bytes ++ back)) (length front + from) (length front + place)

-- whether a line is known to begin at a place of some bytes
abbrev pub line_in : (is_first : Bool) → List ℕ → ℕ → Bool
line_in is_first bytes zero = is_first
line_in is_first bytes (suc before) = ends_line (get_or bytes before 0)

-- a record is known to begin at a place of some bytes
pub record BeginsIn (is_first : Bool) (bytes : List ℕ) (place : ℕ) : Type 0 where
  pub inside : place < length bytes
  pub line : line_in is_first bytes place ≡ true
  pub filled : ends_line (get_or bytes place 0) ≡ false

-- a record is known to begin at the first place, and none between it and the second one
pub record IsBeforeIn (is_first : Bool) (bytes : List ℕ) (first second : ℕ) : Type 0 where
  pub below : first < second
  pub begins : BeginsIn is_first bytes first
  pub alone : (place : ℕ) → first < place → place < second → BeginsIn is_first bytes place → ⊥

-- the last record that is known to begin before a place
abbrev pub IsLastIn : (is_first : Bool) → List ℕ → Option ℕ → ℕ → Type 0
IsLastIn is_first bytes None place =
    (before : ℕ) → before < place → BeginsIn is_first bytes before → ⊥
IsLastIn is_first bytes (Some before) place = IsBeforeIn is_first bytes before place

-- the records at two places have the same name, whatever stands behind the bytes
abbrev pub HasName : (is_last : Bool) → List ℕ → (before place : ℕ) → Type 0
HasName is_last bytes before place =
    (more : List ℕ) → Follows is_last more
    → name_of (drop before bytes ++ more) ≡ name_of (drop place bytes ++ more)

-- the records at two places have different names, whatever stands behind the bytes
abbrev pub HasOtherName : (is_last : Bool) → List ℕ → (before place : ℕ) → Type 0
HasOtherName is_last bytes before place =
    (more : List ℕ) → Follows is_last more
    → name_of (drop before bytes ++ more) ≢ name_of (drop place bytes ++ more)

-- the trace of the last record goes on at a place
abbrev pub GoesOn : (is_last : Bool) → List ℕ → Option ℕ → ℕ → Type 0
GoesOn is_last bytes None place = ⊥
GoesOn is_last bytes (Some before) place = HasName is_last bytes before place

-- the trace of the last record does not go on at a place
abbrev pub IsOver : (is_first is_last : Bool) → List ℕ → Option ℕ → ℕ → Type 0
IsOver is_first is_last bytes None place = is_first ≡ true
IsOver is_first is_last bytes (Some before) place = HasOtherName is_last bytes before place

-- each record from a place up to another one goes on with the trace of the record before it
abbrev pub AllGoOn : (is_first is_last : Bool) → List ℕ → (from to : ℕ) → Type 0
AllGoOn is_first is_last bytes from to =
    (place : ℕ) → from ≤ place → place < to → BeginsIn is_first bytes place
    → (before : ℕ) × IsBeforeIn is_first bytes before place × HasName is_last bytes before place
