-- A part of a text that is read by itself, piece by piece.
-- This file says what data of the program mean; no definition of the language stands on it.
use Rattle.std.specs.Prelude.{ℕ, ◌≡◌, ◌==◌, false, List, ◌++◌, length, Ok}
use Rattle.lb_static.specs.Signature.{Elements}
use Rattle.lb_traces.specs.Traces.{Traces}
use Rattle.lb_trace.specs.Plain.{plain_records}
use Rattle.lb_trace.specs.Refusals.{with_records}
use Rattle.lb_trace.specs.Scan.{begun_records}
use Rattle.lb_trace.specs.Spelling.{Record}

-- the records of `text` up to `rest` have been read behind the traces `before`, which gave `after`
pub record ReadsUpTo (elements : Elements) (columns : Record) (before after : Traces)
    (text rest : List ℕ)
    : Type 0 where
  pub done : List Record
  pub read : with_records elements columns before done ≡ Ok after
  pub cut : plain_records text ≡ done ++ plain_records rest

-- `ReadsUpTo` where `rest` begins with a record
pub record StopsAt (elements : Elements) (columns : Record) (before after : Traces)
    (text rest : List ℕ)
    : Type 0 where
  pub done : List Record
  pub read : with_records elements columns before done ≡ Ok after
  pub cut : plain_records text ≡ done ++ begun_records rest
  pub some : (length rest == 0) ≡ false
