-- Lines at the front of a text that are those of whole traces.
-- This file says what the code finds in a text; no definition of the language stands on it.
use Rattle.std.specs.Prelude.{ℕ, ◌≡◌, ◌≢◌, ◌-◌, ◌<◌, ◌≤◌, true, false, List, [], ◌∷◌, ◌++◌}
use Rattle.std.specs.Prelude.{drop, get_or, take}
use Rattle.lb_trace.specs.Plain.{ends_line, plain_records}
use Rattle.lb_trace.specs.Spelling.{Record}

-- only ends of lines stand before `place`
abbrev pub IsBlankBefore : List ℕ → ℕ → Type 0
IsBlankBefore text place =
    (i : ℕ) → i < place → ends_line (get_or text i 0) ≡ true

-- the last line that begins before `place` and is not empty begins at `start`: its bytes stand up
-- to `past`, and only ends of lines from there up to `place`
pub record IsLineBefore (text : List ℕ) (place start : ℕ) : Type 0 where
  pub past : ℕ
  pub some : start < past
  pub within : past ≤ place
  pub inside : (i : ℕ) → start ≤ i → i < past → ends_line (get_or text i 0) ≡ false
  pub blank : (i : ℕ) → past ≤ i → i < place → ends_line (get_or text i 0) ≡ true
  pub begun : 0 < start → ends_line (get_or text (start - 1) 0) ≡ true

-- a text is cut where a trace ends: the last record before the cut has another name than the first
-- one behind it
pub record EndsTrace (text : List ℕ) (cut : ℕ) : Type 0 where
  pub front : List Record
  pub last : Record
  pub next : Record
  pub rest : List Record
  pub before : plain_records (take cut text) ≡ front ++ last ∷ []
  pub behind : plain_records (drop cut text) ≡ next ∷ rest
  pub other : get_or next 0 [] ≢ get_or last 0 []
