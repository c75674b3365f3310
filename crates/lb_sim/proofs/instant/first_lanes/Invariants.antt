use Rattle.std.proofs.Common.{◌≤◌}
use Rattle.std.specs.Prelude.{nat_lt}
use Rattle.lb_lanes.specs.Planes.{IsPlaneOf}
use Rattle.lb_sim.proofs.instant.first_lanes.Given as goal

abbrev pub invariant-loop-lane : goal.invariant-loop-lane
invariant-loop-lane l = record {
  within : l.lane ≤ l.lanes;
  lanes_on : IsPlaneOf (λ i. nat_lt i l.lane) l.plane;
}
