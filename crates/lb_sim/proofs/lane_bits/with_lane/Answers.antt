use Rattle.lb_sim.proofs.LaneBits.{lane_more}
use Rattle.lb_sim.proofs.lane_bits.with_lane.Goals as goal

pub returns : goal.returns
returns c i h = lane_more c.args.plane c.args.lane i c.requires h
