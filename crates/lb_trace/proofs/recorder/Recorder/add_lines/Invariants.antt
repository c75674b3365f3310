use Rattle.std.proofs.Common.{◌≡◌, ◌+◌}
use Rattle.lb_traces.specs.Traces.{instants_of}
use Rattle.lb_trace.specs.Mirrors.{knows}
use Rattle.lb_trace.specs.Plain.{plain_records}
use Rattle.lb_trace.specs.Refusals.{with_records}
use Rattle.lb_trace.specs.Tables.{columns_in}
use Rattle.lb_trace.proofs.recorder.Recorder.add_lines.Given as goal

abbrev pub invariant-loop-number : goal.invariant-loop-number
invariant-loop-number l = record {
  read : with_records l.initial.self.rows.signature (columns_in l.table) l.initial.self.rows.traces
      (plain_records l.text)
      ≡ with_records l.initial.self.rows.signature (columns_in l.table) l.self.rows.traces
      (plain_records l.rest);
  counted : l.number ≡ instants_of l.self.rows.traces + 1;
  follows : l.self.rows.signature ≡ l.initial.self.rows.signature;
  known : knows l.self.names l.self.rows.traces;
}
