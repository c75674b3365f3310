use Rattle.lb_flat.specs.Within.{IsClock}
use Rattle.lb_sim.specs.Climbs.{IsWay}
use Rattle.lb_sim.proofs.ClockPlanes.{height_of}
use Rattle.lb_sim.proofs.clock_planes.climb_from.Given as goal

abbrev pub invariant-loop-rest : goal.invariant-loop-rest
invariant-loop-rest l = record {
  in_table : IsClock l.program.clocks.items l.rest;
  leads : IsWay l.program.clocks.items l.known l.fn.clock l.waiting.items l.rest;
}

abbrev pub decreases-loop-rest : goal.decreases-loop-rest
decreases-loop-rest l = height_of l.program.clocks.items l.rest
