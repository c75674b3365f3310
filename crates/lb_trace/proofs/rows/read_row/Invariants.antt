use Rattle.std.proofs.Common.{◌≡◌, ◌++◌, drop}
use Rattle.std.specs.Option.{option_map}
use Rattle.csv.specs.Records.{fields_of}
use Rattle.lb_trace.specs.Spelling.{after_first}
use Rattle.lb_trace.specs.Mirrors.{row_by}
use Rattle.lb_trace.proofs.rows.read_row.Given as goal

abbrev pub invariant-loop-column : goal.invariant-loop-column
invariant-loop-column l =
    row_by l.columns (after_first (fields_of l.entry))
    ≡ option_map (λ rest. l.row.items ++ rest)
    (row_by (drop l.column-index l.columns) (after_first (fields_of l.entry)))
