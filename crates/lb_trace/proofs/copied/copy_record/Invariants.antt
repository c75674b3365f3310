use Rattle.std.proofs.Common.{◌≡◌, ◌++◌, [], length}
use Rattle.csv.specs.Records.{fields_of, partial_of}
use Rattle.lb_trace.specs.Lines.{after_line, record_of}
use Rattle.lb_trace.proofs.copied.copy_record.Given as goal

abbrev pub invariant-cells : goal.invariant-cells
invariant-cells l = record {
  cells : record_of l.text ≡ fields_of l.entry ++ record_of l.rest;
  begun : partial_of l.entry ≡ [];
  after : after_line l.text ≡ after_line l.rest;
}

abbrev pub decreases-cells : goal.decreases-cells
decreases-cells l = length l.rest
