-- Cells that are Booleans of one digit, as the bits of a number.
-- This file says what the code finds in a text; no definition of the language stands on it.
use Rattle.std.specs.Prelude.{ℕ, Bool, true, ◌≡◌, ◌+◌, ◌*◌, ◌^◌, ◌<◌, ◌≤◌, ◌==◌, ◌||◌, ◌&&◌}
use Rattle.std.specs.Prelude.{List, map, length, get_or, Some}
use Rattle.std.specs.Int.{bit_at}
use Rattle.std.specs.List.{All, range_with_len}
use lib.Lanes.{mask_l}
use Rattle.lb_syntax.specs.declared.tree.Kind.TheVariants.{Bool as Bool_kind}
use Rattle.lb_static.specs.Signature.{Elements}
use Rattle.lb_traces.specs.BitRows.{AreTruths, row_of_bits}
use Rattle.lb_trace.specs.declared.header.Column.{Column}
use Rattle.lb_trace.specs.Lines.{record_of}
use Rattle.lb_trace.specs.PlainRows.{AreInOrder, plain_row}

-- a digit 1 stands at a place
abbrev pub is_one : List ℕ → ℕ → Bool
is_one text i = get_or text i 0 == 49

-- a digit 0 or 1
abbrev pub is_digit : List ℕ → ℕ → Bool
is_digit text i = (get_or text i 0 == 48) || (get_or text i 0 == 49)

-- a comma stands after a place
abbrev pub is_inner : List ℕ → ℕ → Bool
is_inner text i = get_or text (i + 1) 0 == 44

-- the first sixteen pairs of bytes, as bits: 1 where a pair is a digit 0 or 1 and a comma
unfoldable pub truths_in : List ℕ → ℕ
truths_in text =
    mask_l (map (λ k. is_digit text (2 * k) && is_inner text (2 * k)) (range_with_len 0 16))

-- the first sixteen pairs of bytes, as bits: 1 where a pair is a digit 1 and a comma
unfoldable pub ones_in : List ℕ → ℕ
ones_in text =
    mask_l (map (λ k. is_one text (2 * k) && is_inner text (2 * k)) (range_with_len 0 16))

-- the first `count` cells of `text` are digits 0 and 1, each before a comma; `bits` are the digits
pub record HasBits (text : List ℕ) (count bits : ℕ) : Type 0 where
  pub within : 2 * count ≤ length text
  pub digits : (k : ℕ) → k < count → is_digit text (2 * k) ≡ true
  pub inner : (k : ℕ) → k < count → is_inner text (2 * k) ≡ true
  pub bits_are : (k : ℕ) → k < count → (bit_at bits k == 1) ≡ is_one text (2 * k)
  pub small : bits < 2 ^ count

-- `count` columns, all of Booleans
pub record AreTruthColumns (count : ℕ) (columns : List Column) : Type 0 where
  pub as_many : length columns ≡ count
  pub booleans : All (λ column. column.kind ≡ Bool_kind) columns

-- the record of `text` spells the row of the `count` lowest bits of `bits`
abbrev pub SpellsBits : List ℕ → ℕ → ℕ → Type 0
SpellsBits text count bits =
    (columns : List Column) → AreTruthColumns count columns
    → plain_row columns (record_of text) ≡ Some (row_of_bits count bits)

-- columns that stand in the order of a signature of Booleans alone
pub record AreTruthTable (elements : Elements) (columns : List Column) (count : ℕ) : Type 0 where
  pub elements_are : AreTruths elements
  pub as_many : length elements ≡ count
  pub columns_are : AreTruthColumns count columns
  pub order : AreInOrder 0 columns
