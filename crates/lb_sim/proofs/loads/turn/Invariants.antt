use Rattle.std.proofs.Common.{◌*◌}
use Rattle.lb_sim.proofs.Loading.{Turned}
use Rattle.lb_sim.proofs.loads.turn.Given as goal

abbrev pub invariant-loop-g : goal.invariant-loop-g
invariant-loop-g l = Turned l.rows (l.d * l.width) l.fn.planes l.planes l.g
