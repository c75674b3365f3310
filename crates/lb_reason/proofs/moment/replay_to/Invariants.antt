use Rattle.std.proofs.Common.{◌≡◌, ◌≤◌, ◌-◌}
use Rattle.lb_history.specs.ReplayParts.{program_in, recording_in, trace_in, next_in}
use Rattle.lb_reason.proofs.moment.replay_to.Given as goal

abbrev pub invariant-instants : goal.invariant-instants
invariant-instants l = record {
  program : program_in l.replay ≡ l.ordered.program;
  recording : recording_in l.replay ≡ l.set;
  trace : trace_in l.replay ≡ l.trace;
  next : next_in l.replay ≤ l.instants;
}

abbrev pub decreases-instants : goal.decreases-instants
decreases-instants l = l.instants - next_in l.replay
