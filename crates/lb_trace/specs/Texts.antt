-- The front of a text that is not read to its end yet.
-- This file says what the code finds in a text; no definition of the language stands on it.
use Rattle.std.specs.Prelude.{ℕ, ◌≡◌, ◌<◌, [], ◌∷◌, ◌++◌, false, true, List, length}
use Rattle.csv.specs.Reading.{default_config, records, strip_bom}
use Rattle.csv.specs.Records.{fields_of}
use Rattle.lb_static.specs.Signature.{Elements}
use Rattle.lb_trace.specs.declared.table.ColumnTable.{ColumnTable}
use Rattle.lb_trace.specs.Plain.{has_quote, plain_records}
use Rattle.lb_trace.specs.Spelling.{Record, is_header}

-- a text without quotes has the header of a table and no other record
pub record IsHead (elements : Elements) (table : ColumnTable) (text : List ℕ) : Type 0 where
  pub headed : is_header elements (fields_of table.header) ≡ true
  pub long : 2 < length text
  pub plain : has_quote (strip_bom text) ≡ false
  pub only : plain_records (strip_bom text) ≡ fields_of table.header ∷ []

-- a text has these records, whatever follows it
pub record IsFront (text : List ℕ) (rows : List Record) : Type 0 where
  pub gives : (rest : List ℕ)
      → records default_config (text ++ rest) ≡ rows ++ records default_config rest
