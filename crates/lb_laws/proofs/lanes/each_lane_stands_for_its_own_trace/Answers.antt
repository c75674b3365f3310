use Rattle.lb_laws.proofs.LaneRuns.{stand_for_their_traces}
use Rattle.lb_laws.proofs.lanes.each_lane_stands_for_its_own_trace.Goals as goal

pub returns : goal.returns
returns c P first run n few fresh moves comes flat i below trace =
    stand_for_their_traces P first run n few fresh moves comes flat i below trace
