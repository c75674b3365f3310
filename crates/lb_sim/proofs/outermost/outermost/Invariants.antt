use Rattle.std.proofs.Common.{◌<◌, ◌≤◌, length, All}
use Rattle.lb_sim.proofs.outermost.outermost.Given as goal

abbrev pub invariant-loop-i : goal.invariant-loop-i
invariant-loop-i l = record {
  first : All (λ a. a.0 < l.count) l.found.items;
  few : length l.found.items ≤ l.i;
}
