use Rattle.std.proofs.Common.{◌≡◌, length}
use Rattle.lb_sim.specs.InputRows.{AreZero}
use Rattle.lb_sim.proofs.lane_bits.zeros.Given as goal

abbrev pub invariant-loop : goal.invariant-loop
invariant-loop l = record {
  count : length l.words.items ≡ l.counter;
  zero : AreZero l.words.items;
}
