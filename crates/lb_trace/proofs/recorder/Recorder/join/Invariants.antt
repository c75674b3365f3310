use Rattle.std.proofs.Common.{◌≡◌, ◌++◌, take}
use Rattle.lb_trace.specs.Mirrors.{knows}
use Rattle.lb_trace.specs.Spelling.{instants}
use Rattle.lb_trace.proofs.recorder.Recorder.join.Given as goal

abbrev pub invariant-loop-k : goal.invariant-loop-k
invariant-loop-k l = record {
  added : instants l.self.rows.traces
      ≡ instants l.initial.self.rows.traces ++ instants (take l.k l.set.traces);
  follows : l.self.rows.signature ≡ l.initial.self.rows.signature;
  known : knows l.self.names l.self.rows.traces;
}
