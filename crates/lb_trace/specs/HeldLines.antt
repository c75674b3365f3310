-- Rows of records as they are held in memory: integers, and Booleans as the bits of a word.
-- This file says what the code finds in a text; no definition of the language stands on it.
use Rattle.std.specs.Prelude.{ℕ, suc, ◌≡◌, ◌==◌, ◌^◌, ◌<◌, ◌≤◌, Bool as Truth, List, [], ◌∷◌}
use Rattle.std.specs.Prelude.{Some, ℤ, pos, drop, length, map, take}
use Rattle.std.specs.Int.{bit_at}
use Rattle.std.specs.List.{range_with_len}
use Rattle.lb_syntax.specs.declared.tree.Kind.{Kind}
use Rattle.lb_syntax.specs.declared.tree.Kind.TheVariants.{Int, Bool}
use Rattle.lb_traces.specs.Packed.{row_held, truth_cell}
use Rattle.lb_trace.specs.declared.header.Column.{Column}
use Rattle.lb_trace.specs.Lines.{EndsRecord, after_line, record_of}
use Rattle.lb_trace.specs.PlainRows.{onto, plain_row}

-- the kinds of some columns
abbrev pub kinds_in : List Column → List Kind
kinds_in columns = map (λ column. column.kind) columns

-- how many of some kinds are of integers; and below, of Booleans
abbrev pub integers_in : List Kind → ℕ
integers_in [] = 0
integers_in (Int ∷ kinds) = suc (integers_in kinds)
integers_in (Bool ∷ kinds) = integers_in kinds

abbrev pub booleans_in : List Kind → ℕ
booleans_in [] = 0
booleans_in (Int ∷ kinds) = booleans_in kinds
booleans_in (Bool ∷ kinds) = suc (booleans_in kinds)

-- the row of some kinds whose integers are `numbers` and whose Booleans are `truths`
abbrev pub row_of_parts : List Kind → List ℤ → List Truth → List ℤ
row_of_parts [] numbers truths = []
row_of_parts (Int ∷ kinds) [] truths = pos 0 ∷ row_of_parts kinds [] truths
row_of_parts (Int ∷ kinds) (n ∷ numbers) truths = n ∷ row_of_parts kinds numbers truths
row_of_parts (Bool ∷ kinds) numbers [] = pos 0 ∷ row_of_parts kinds numbers []
row_of_parts (Bool ∷ kinds) numbers (t ∷ truths) = truth_cell t ∷ row_of_parts kinds numbers truths

-- the `n` lowest bits of a word
abbrev pub bits_of : ℕ → ℕ → List Truth
bits_of n word = map (λ b. bit_at word b == 1) (range_with_len 0 n)

-- the first `i` columns have `at` integers, which stand in `numbers`, and `truths` Booleans, at most
-- 64, the bits of `bits`
pub record AreParts (columns : List Column) (numbers : List ℤ) (i at truths bits : ℕ) : Type 0 where
  pub within : i ≤ length columns
  pub integers : at ≡ integers_in (kinds_in (take i columns))
  pub booleans : truths ≡ booleans_in (kinds_in (take i columns))
  pub few : at ≤ i
  pub most : truths ≤ 64
  pub small : bits < 2 ^ truths

-- the row of `AreParts`
abbrev pub front_row : List Column → List ℤ → (i at truths bits : ℕ) → List ℤ
front_row columns numbers i at truths bits =
    row_of_parts (kinds_in (take i columns)) (take at numbers) (bits_of truths bits)

-- the first `i` cells of the record of `text` have been read; `rest` is the text after them
pub record IsFront (columns : List Column) (text : List ℕ) (numbers : List ℤ)
    (i at truths bits : ℕ) (rest : List ℕ) : Type 0 where
  pub parts : AreParts columns numbers i at truths bits
  pub cells :
      plain_row columns (record_of text)
      ≡ onto (front_row columns numbers i at truths bits)
      (plain_row (drop i columns) (record_of rest))
  pub after : after_line text ≡ after_line rest

-- the record of `text` spells the row whose integers are `numbers` and whose Booleans are the bits
-- of `word`; it ends before place `past`
pub record IsHeldLine (columns : List Column) (text : List ℕ) (numbers : List ℤ) (word past : ℕ)
    : Type 0 where
  pub integers : length numbers ≡ integers_in (kinds_in columns)
  pub few : booleans_in (kinds_in columns) ≤ 64
  pub small : word < 2 ^ booleans_in (kinds_in columns)
  pub spelled :
      plain_row columns (record_of text) ≡ Some (row_held (kinds_in columns) numbers (word ∷ []))
  pub ends : EndsRecord text past
