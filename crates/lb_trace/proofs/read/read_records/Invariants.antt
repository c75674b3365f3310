use Rattle.std.proofs.Common.{◌≡◌}
use Rattle.csv.specs.Records.{fields_of}
use Rattle.lb_trace.specs.Mirrors.{knows}
use Rattle.lb_trace.proofs.Readings.{Progress}
use Rattle.lb_trace.proofs.read.read_records.Given as goal

abbrev pub invariant-loop-number : goal.invariant-loop-number
invariant-loop-number l = record {
  progress : Progress l.fn.signature l.fn.text (fields_of l.initial.record) l.recorder.rows.traces
      l.reader l.number;
  follows : l.recorder.rows.signature ≡ l.fn.signature;
  known : knows l.recorder.names l.recorder.rows.traces;
}
