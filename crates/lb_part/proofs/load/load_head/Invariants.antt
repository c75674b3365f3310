use Rattle.std.proofs.Common.{◌<◌, ◌≤◌}
use Rattle.lb_part.proofs.load.load_head.Given as goal

abbrev pub invariant-loop : goal.invariant-loop
invariant-loop g l = record { within : l.to ≤ l.size; enough : l.to < l.size → 2 < l.to }
