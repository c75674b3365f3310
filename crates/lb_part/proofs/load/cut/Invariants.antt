use Rattle.std.proofs.Common.{◌<◌}
use Rattle.lb_part.proofs.load.cut.Given as goal

abbrev pub invariant-loop : goal.invariant-loop
invariant-loop g l = 0 < l.step
