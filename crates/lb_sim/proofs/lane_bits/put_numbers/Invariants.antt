use Rattle.std.proofs.Common.{pos, get_or}
use Rattle.lb_sim.proofs.IntegerLoads.{LanesPut}
use Rattle.lb_sim.proofs.lane_bits.put_numbers.Given as goal

abbrev pub invariant-loop-k : goal.invariant-loop-k
invariant-loop-k l =
    LanesPut l.lane 1 (λ i w. get_or l.row w (pos 0)) l.places l.fn.words l.words l.k
