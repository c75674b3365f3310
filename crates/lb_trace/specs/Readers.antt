-- The state of a reader of a text: the records that it has given.
-- Source: the csv crate's specification of a reader.
use Rattle.std.specs.Prelude.{ℕ, ◌≡◌, Bool as Truth, true, false, List, [], ◌∷◌, ◌++◌, Option, Some}
use Rattle.std.specs.Borrow.{Bor}
use Rattle.csv.specs.declared.parser.State.TheVariants as st
use Rattle.csv.specs.declared.reader.Reader.{Reader}
use Rattle.csv.specs.declared.reader.Trim.TheVariants as trim
use Rattle.csv.specs.Reading.{Reached, Ready, default_config, source_of, strip_bom}
use Rattle.lb_trace.specs.Spelling.{Record, records_of}

-- a reader of bytes in memory, and the bytes that are left
abbrev pub TextReader : Type 0
TextReader = Reader (Bor (List ℕ))

abbrev pub left : Bor (List ℕ) → Option (List ℕ)
left s = Some s.now

-- a reader with csv's defaults that has given these records of a text
pub record Reaches (text : List ℕ) (records : List Record) (reader : TextReader) : Type 0 where
  pub plain : reader.trim ≡ trim.None
  pub ready : Ready reader
  pub config : reader.config ≡ default_config
  pub rest : List ℕ
  pub source : source_of left reader ≡ Some rest
  pub reached : Reached default_config st.StartRecord (strip_bom text) records reader.state rest

-- a reader that had given `records` has given `fields` as one more, or there is no more
abbrev pub Goes : List ℕ → List Record → TextReader → Record → Truth → Type 0
Goes text records reader fields true = Reaches text (records ++ fields ∷ []) reader
Goes text records reader fields false = records_of text ≡ records
