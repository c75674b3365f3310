use Rattle.lb_lanes.proofs.TwoRounds.{Doubled}
use Rattle.lb_lanes.proofs.transposes.two_rounds.Given as goal

abbrev pub invariant-loop-k : goal.invariant-loop-k
invariant-loop-k l = Doubled l.shift l.mask l.next_shift l.next_mask l.words l.out l.k
