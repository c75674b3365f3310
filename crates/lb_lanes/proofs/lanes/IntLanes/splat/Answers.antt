use Rattle.std.proofs.Common.{ap₂, ◌∙◌, rules}
use Rattle.lb_lanes.specs.Halves.{whole_of}
use Rattle.lb_lanes.proofs.Halves.{passed_whole, whole_lane}
use Rattle.lb_lanes.proofs.lanes.IntLanes.splat.Goals as goal

pub returns : goal.returns
returns c i h =
    let halves = c.halves-high.result in
    whole_lane c.splat.result c.splat-2.result i h
    ∙ ap₂ whole_of (c.splat.ensures i h) (c.splat-2.ensures i h)
    ∙ passed_whole halves.0 halves.1 c.args.value (search rules) (search rules) c.ranges.value
    c.halves-high.ensures
