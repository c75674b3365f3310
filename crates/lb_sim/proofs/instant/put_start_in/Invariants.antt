use Rattle.std.proofs.Common.{[], pos}
use Rattle.std.specs.Prelude.{slice_index_or}
use Rattle.lb_lanes.specs.Kernels.{lane_of}
use Rattle.lb_sim.proofs.LaneParts.{LanesTakenOver}
use Rattle.lb_sim.proofs.instant.put_start_in.Given as goal

abbrev pub invariant-loop-k : goal.invariant-loop-k
invariant-loop-k l =
    LanesTakenOver [] lane_of l.lanes.0 (λ k i. slice_index_or l.start k (pos 0)) l.fn.words l.words
    l.k
