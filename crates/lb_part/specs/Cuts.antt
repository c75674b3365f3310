-- The places where traces begin in a text without quotes.
-- Source: this project's rule.
use Rattle.std.specs.Prelude.{◌≡◌, ◌≢◌, ℕ, zero, suc, ◌<◌, ◌≤◌, Bool, true, false, ◌==◌, ◌||◌}
use Rattle.std.specs.Prelude.{if◌then◌else◌, List, [], ◌∷◌, drop, get_or, length}

-- a carriage return or a line feed
abbrev pub ends_line : ℕ → Bool
ends_line b = (b == 13) || (b == 10)

-- a comma, or the end of a line
abbrev pub ends_cell : ℕ → Bool
ends_cell b = (b == 44) || ends_line b

-- the bytes before the end of the first cell
unfoldable pub name_of : List ℕ → List ℕ
name_of [] = []
name_of (b ∷ rest) = if ends_cell b then [] else b ∷ name_of rest

-- whether a line begins at a place
abbrev pub at_line : List ℕ → ℕ → Bool
at_line text zero = true
at_line text (suc before) = ends_line (get_or text before 0)

-- a record begins at a place: a line that is not empty
pub record Begins (text : List ℕ) (place : ℕ) : Type 0 where
  pub inside : place < length text
  pub line : at_line text place ≡ true
  pub filled : ends_line (get_or text place 0) ≡ false

-- a record begins at the first place, and none between it and the second one
pub record IsBefore (text : List ℕ) (first second : ℕ) : Type 0 where
  pub below : first < second
  pub begins : Begins text first
  pub alone : (place : ℕ) → first < place → place < second → Begins text place → ⊥

-- a trace begins at a place: a record that has another name than the record before it
pub record StartsTrace (text : List ℕ) (place : ℕ) : Type 0 where
  pub begins : Begins text place
  pub apart : (before : ℕ) → IsBefore text before place
      → name_of (drop before text) ≢ name_of (drop place text)

-- a text can be cut where a trace begins, and at its begin and its end
pub data IsBreak (text : List ℕ) (place : ℕ) : Type 0 where
  first : place ≡ 0 → IsBreak text place
  last : place ≡ length text → IsBreak text place
  trace : StartsTrace text place → IsBreak text place

-- `place` is the first place, at `from` or behind it, where a text can be cut
pub record IsCut (text : List ℕ) (from place : ℕ) : Type 0 where
  pub behind : from ≤ place
  pub break : IsBreak text place
  pub nearest : (other : ℕ) → from ≤ other → other < place → IsBreak text other → ⊥
