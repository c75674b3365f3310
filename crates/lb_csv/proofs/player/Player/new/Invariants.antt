use Rattle.std.proofs.Common.{◌≡◌, ◌≤◌, ◌-◌}
use Rattle.lb_history.specs.ReplayParts.{program_in, recording_in, trace_in, next_in}
use Rattle.lb_csv.proofs.player.Player.new.Given as goal

abbrev pub invariant-instants : goal.invariant-instants
invariant-instants l = record {
  program : program_in l.replay ≡ l.ordered.program;
  recording : recording_in l.replay ≡ l.set;
  trace : trace_in l.replay ≡ l.k;
  next : next_in l.replay ≤ l.first;
}

abbrev pub decreases-instants : goal.decreases-instants
decreases-instants l = l.first - next_in l.replay
