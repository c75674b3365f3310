use Rattle.lb_sim.specs.BatchRuns.{flat_of, lane_in, steps_in, verdict_at}
use Rattle.lb_lanes.specs.Planes.{on}
use Rattle.lb_sim.proofs.LanePrograms.{program_ready}
use Rattle.lb_sim.proofs.Promised.{stands_for}
use Rattle.lb_sim.proofs.laws.lanes_stand_for_traces.Goals as goal

pub returns : goal.returns
returns c P r flat i X trace stands =
    let p = r.program.now in
    stands_for P (flat_of r) flat (program_ready p) p.kept.items (lane_in r i) X trace
    (verdict_at r i) (on r.active.0 i) (steps_in r i) stands.verdict_is stands.as_long
    stands.state
