use Rattle.std.proofs.Common.{◌≡◌, ◌≤◌, take}
use Rattle.std.specs.List.{count_by}
use Rattle.std.specs.Str.{bytes_eq}
use Rattle.csv.specs.Records.{fields_of}
use Rattle.lb_trace.specs.Spelling.{after_first}
use Rattle.lb_trace.proofs.header.count.Given as goal

abbrev pub invariant-loop-i : goal.invariant-loop-i
invariant-loop-i l = record {
  counted : l.count ≡ count_by (bytes_eq l.name) (take l.i (after_first (fields_of l.header)));
  few : l.count ≤ l.i;
}
