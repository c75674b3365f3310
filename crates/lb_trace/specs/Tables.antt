-- The table of a header.
-- This file says what the code finds in a text; no definition of the language stands on it.
use Rattle.std.specs.Prelude.{Bool as Truth, false, ◌≡◌, IfSome, IsTrue, List, [], ◌∷◌, length, map}
use Rattle.std.specs.List.{AllZip}
use Rattle.csv.specs.Records.{fields_of}
use Rattle.lb_static.specs.Signature.{Elements}
use Rattle.lb_traces.specs.Traces.{Recording}
use Rattle.lb_trace.specs.declared.recorder.Recorder.{Recorder}
use Rattle.lb_trace.specs.declared.table.ColumnTable.{ColumnTable}
use Rattle.lb_trace.specs.Groups.{AllGroups}
use Rattle.lb_trace.specs.Mirrors.{column_of, knows}
use Rattle.lb_trace.specs.PlainRows.{AreInOrder, ArePlaced}
use Rattle.lb_trace.specs.TruthBits.{AreTruthTable}
use Rattle.lb_trace.specs.Spelling.{Record, SpellsInstant, after_first, instants, is_header}

-- the columns that the header of a table names
abbrev pub columns_in : ColumnTable → Record
columns_in table = after_first (fields_of table.header)

-- a table has the columns that its header names, for the elements of a signature
pub record IsColumnTable (elements : Elements) (table : ColumnTable) : Type 0 where
  pub columns : table.columns.items ≡ map (column_of (columns_in table)) elements
  pub count : table.count ≡ length (columns_in table)
  pub order : IsTrue table.in_order
      → (length table.columns.items ≡ table.count) × AreInOrder 0 table.columns.items
  pub placed : IsTrue table.is_placed
      → (length table.placed.items ≡ table.count) × ArePlaced table.placed.items table.columns.items
  pub truths : IsTrue table.are_truths
      → AreTruthTable elements table.columns.items table.count
  pub groups : IfSome table.groups (λ gs. AllGroups gs.items table.columns.items)

-- whether some records begin with a header
abbrev pub has_header : Elements → List Record → Truth
has_header elements [] = false
has_header elements (header ∷ rows) = is_header elements header

-- `read` has the traces that `records`, which follow `table`, spell by themselves
abbrev pub IsReadOf : Elements → ColumnTable → List Record → Recording → Type 0
IsReadOf elements table records read =
    (read.signature ≡ elements)
    × AllZip (SpellsInstant elements (columns_in table)) records (instants read.traces)

-- `IsReadOf` for the traces of a recorder, which knows their names
abbrev pub IsReadBy : Elements → ColumnTable → List Record → Recorder → Type 0
IsReadBy elements table records recorder =
    IsReadOf elements table records recorder.rows × knows recorder.names recorder.rows.traces
