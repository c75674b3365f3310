use Rattle.std.proofs.Common.{◌≡◌, ◌+◌}
use Rattle.lb_traces.specs.Traces.{instants_of}
use Rattle.lb_trace.specs.Mirrors.{knows}
use Rattle.lb_trace.specs.Rounds.{ReadsUpTo}
use Rattle.lb_trace.specs.Tables.{columns_in}
use Rattle.lb_trace.proofs.recorder.Recorder.add_until.Given as goal

abbrev pub invariant-records : goal.invariant-records
invariant-records l = record {
  reads : ReadsUpTo l.initial.self.rows.signature (columns_in l.table) l.initial.self.rows.traces
      l.self.rows.traces l.text l.rest;
  counted : l.number ≡ instants_of l.self.rows.traces + 1;
  follows : l.self.rows.signature ≡ l.initial.self.rows.signature;
  known : knows l.self.names l.self.rows.traces;
}
