use Rattle.lb_lanes.proofs.Widths.{lane_below}
use Rattle.lb_lanes.proofs.width.chunks_of.Goals as goal

pub returns-then-lanes-lt65536-clause-within : goal.returns-then-lanes-lt65536-clause-within
returns-then-lanes-lt65536-clause-within c i h =
    lane_below c.args.lanes 16 i c.if-lanes-lt65536.true

pub returns-then-lanes-lt4294967296-clause-within :
    goal.returns-then-lanes-lt4294967296-clause-within
returns-then-lanes-lt4294967296-clause-within c i h =
    lane_below c.args.lanes 32 i c.if-lanes-lt4294967296.true

pub returns-then-lanes-lt281474976710656-clause-within :
    goal.returns-then-lanes-lt281474976710656-clause-within
returns-then-lanes-lt281474976710656-clause-within c i h =
    lane_below c.args.lanes 48 i c.if-lanes-lt281474976710656.true
