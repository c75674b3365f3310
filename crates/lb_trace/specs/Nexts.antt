-- The name of a record, and a record of the last trace.
-- This file says what the code finds in a text; no definition of the language stands on it.
use Rattle.std.specs.Prelude.{ℕ, Bool, true, ◌≡◌, List, ◌∷◌}
use Rattle.lb_traces.specs.Traces.{Traces}
use Rattle.lb_trace.specs.Lines.{after_line, record_of}
use Rattle.lb_trace.specs.Refusals.{is_last}
use Rattle.lb_trace.specs.Scan.{after_cell, cell_of, is_last_cell}

-- the first cell of `text` is `name`; `rest` follows it, and `last` says whether it ends its record
pub record IsNamed (name text bytes rest : List ℕ) (last : Bool) : Type 0 where
  pub name_is : bytes ≡ name
  pub bytes_are : bytes ≡ cell_of text
  pub rest_is : rest ≡ after_cell text
  pub last_is : last ≡ is_last_cell text

-- the record of `text` is the cell `name`, and then the cells of the record of `rest`
pub record HasName (text name rest : List ℕ) : Type 0 where
  pub first : record_of text ≡ name ∷ record_of rest
  pub line : after_line text ≡ after_line rest

-- `HasName` with the name of the last trace
pub record IsNext (traces : Traces) (text name rest : List ℕ) : Type 0 where
  pub has : HasName text name rest
  pub same : is_last name traces ≡ true
