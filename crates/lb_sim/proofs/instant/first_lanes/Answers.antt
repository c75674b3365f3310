use Rattle.std.proofs.Common.{arith}
use Rattle.lb_sim.proofs.LaneParts.{lanes_none}
use Rattle.lb_sim.proofs.instant.first_lanes.Goals as goal

pub loop-lane-init : goal.loop-lane-init
loop-lane-init c = record { within = omega arith; lanes_on = lanes_none }
