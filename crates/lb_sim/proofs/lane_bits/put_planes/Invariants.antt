use Rattle.lb_sim.proofs.LaneBits.{Put}
use Rattle.lb_sim.proofs.lane_bits.put_planes.Given as goal

abbrev pub invariant-loop-c : goal.invariant-loop-c
invariant-loop-c l = Put 0 l.first l.words l.fn.planes l.planes l.c
