-- Cells that are numbers of at most eight bytes, found many at once.
-- This file says what the code finds in a text; no definition of the language stands on it.
use Rattle.std.specs.Prelude.{ℕ, ◌≡◌, ◌+◌, ◌-◌, ◌<◌, ◌≤◌, ◌==◌, ◌⊎◌, Bool, true, false}
use Rattle.std.specs.Prelude.{if◌then◌else◌, List, [], ◌∷◌, ◌++◌, All, drop, get_or, length, map}
use Rattle.std.specs.Prelude.{take, ℤ, Some}
use Rattle.std.specs.Char.{is_ascii_digit}
use Rattle.std.specs.Int.{bit_at}
use Rattle.lb_syntax.specs.declared.tree.Kind.{Kind}
use Rattle.lb_syntax.specs.declared.tree.Kind.TheVariants.{Int}
use Rattle.lb_trace.specs.declared.header.Column.{Column}
use Rattle.lb_trace.specs.Fronts.{bytes_of}
use Rattle.lb_trace.specs.Lines.{after_line, record_of}
use Rattle.lb_trace.specs.Plain.{ends_line}
use Rattle.lb_trace.specs.PlainRows.{BeginsWith, onto, plain_row}
use Rattle.lb_trace.specs.Scan.{ends_cell}
use Rattle.lb_trace.specs.WordValues.{value_in}

-- the first four columns hold integers
abbrev pub AreIntegers : List Column → Type 0
AreIntegers [] = ⊥
AreIntegers (a ∷ []) = ⊥
AreIntegers (a ∷ b ∷ []) = ⊥
AreIntegers (a ∷ b ∷ c ∷ []) = ⊥
AreIntegers (a ∷ b ∷ c ∷ d ∷ more) =
    (a.kind ≡ Int) × (b.kind ≡ Int) × (c.kind ≡ Int) × (d.kind ≡ Int)

-- the byte at `i` is one of a number: a digit, or a minus sign before a digit and after no digit
abbrev pub IsInside : List ℕ → ℕ → Type 0
IsInside text i =
    (is_ascii_digit (get_or text i 0) ≡ true)
    ⊎ ((get_or text i 0 ≡ 45) × (0 < i → is_ascii_digit (get_or text (i - 1) 0) ≡ false)
    × (is_ascii_digit (get_or text (i + 1) 0) ≡ true))

-- the place of the first digit of the number that stands at `start`
abbrev pub digits_from : List ℕ → ℕ → ℕ
digits_from text start = if get_or text start 0 == 45 then start + 1 else start

-- a number of at most eight bytes stands in `text` from `start` up to `end`
pub record IsNumberIn (text : List ℕ) (start end : ℕ) : Type 0 where
  pub short : end ≤ start + 8
  pub some : digits_from text start < end
  pub digits :
      (i : ℕ) → digits_from text start ≤ i → i < end → is_ascii_digit (get_or text i 0) ≡ true

-- `place` is that of the lowest bit set in `bits`, and `others` are the bits above it
pub record IsLowest (bits place others : ℕ) : Type 0 where
  pub set : bit_at bits place ≡ 1
  pub below : (i : ℕ) → i < place → bit_at bits i ≡ 0
  pub gone : (i : ℕ) → i ≤ place → bit_at others i ≡ 0
  pub kept : (i : ℕ) → place < i → bit_at others i ≡ bit_at bits i

-- bit `i` of `ends` is set where a number, or no number, ends at byte `i`; only bits from place
-- `start` on are set
pub record AreEnds (text : List ℕ) (ends start : ℕ) : Type 0 where
  pub inside : (i : ℕ) → start ≤ i → i < 31 → bit_at ends i ≡ 0 → IsInside text i
  pub past : (i : ℕ) → 31 < i → bit_at ends i ≡ 0
  pub gone : (i : ℕ) → i < start → bit_at ends i ≡ 0

-- no byte of a word is above the digit 9
abbrev pub IsSmall : ℕ → Type 0
IsSmall word = All (λ b. b - 48 < 10) (bytes_of word)

-- the bytes from `start` up to `end` are those of `word`; they spell its value as a cell of a kind,
-- if a cell ends at `end`
pub record IsShortCell (kind : Kind) (text : List ℕ) (start word end : ℕ) : Type 0 where
  pub within : end < 32
  pub small : IsSmall word
  pub begins :
      ends_cell (get_or text end 0) ≡ true →
      BeginsWith kind (drop start text) (value_in word) (drop (end + 1) text)
      (ends_line (get_or text end 0))

-- a cell of a kind stands from `start` up to `end`, the value of `word`; `is_last`: whether it ends
-- its record
pub record IsCellIn (kind : Kind) (text : List ℕ) (start word end : ℕ) (is_last : Bool) : Type 0 where
  pub within : end < 32
  pub small : IsSmall word
  pub begins : BeginsWith kind (drop start text) (value_in word) (drop (end + 1) text) is_last

-- the first record of `text` has the values of the columns, and `rest` follows it
abbrev pub IsWhole : List Column → List ℕ → List ℤ → List ℕ → Type 0
IsWhole columns text values rest =
    ((row : List ℤ) → onto row (plain_row columns (record_of text)) ≡ Some (row ++ values))
    × (rest ≡ after_line text)

-- the first record of `text` has one to four cells, the values of the first of `words`; it ends at
-- `end`
pub record AreLastWords (columns : List Column) (text words : List ℕ) (end : ℕ) : Type 0 where
  pub few : length columns ≤ 4
  pub within : end < 32
  pub small : All IsSmall words
  pub whole : IsWhole columns text (take (length columns) (map value_in words)) (drop (end + 1) text)
