use Rattle.std.specs.Prelude.{slice_index}
use Rattle.lb_lanes.specs.Planes.{on}
use Rattle.lb_sim.proofs.LaneParts.{LanesTakenOver}
use Rattle.lb_sim.proofs.instant.copy_lanes.Given as goal

abbrev pub invariant-loop-k : goal.invariant-loop-k
invariant-loop-k l =
    LanesTakenOver 0 on l.lanes.0 (λ k i. on (slice_index l.from k) i) l.fn.planes l.planes l.k
