use Rattle.std.proofs.Common.{◌≡◌, ◌==◌, map, take, true}
use Rattle.std.specs.List.{count_by, list_all}
use Rattle.std.specs.Str.{bytes_eq}
use Rattle.csv.specs.Records.{fields_of}
use Rattle.lb_static.specs.Signature.{names_of}
use Rattle.lb_trace.specs.Mirrors.{column_of}
use Rattle.lb_trace.specs.Spelling.{after_first}
use Rattle.lb_trace.proofs.header.columns_of.Given as goal

abbrev pub invariant-loop-i : goal.invariant-loop-i
invariant-loop-i l = record {
  once : list_all (λ name. count_by (bytes_eq name) (after_first (fields_of l.header)) == 1)
      (take l.i (names_of l.signature)) ≡ true;
  table : l.columns.items ≡ map (column_of (after_first (fields_of l.header)))
      (take l.i l.signature);
}
