use Rattle.std.proofs.Common.{rules}
use Rattle.lb_lanes.proofs.Halves.{passed_whole, set_whole}
use Rattle.lb_lanes.proofs.lanes.IntLanes.set.Goals as goal

pub returns : goal.returns
returns c =
    let a = c.self.inside in
    let halves = c.halves-high.result in
    set_whole a.high a.low c.set.new.self c.set-2.new.self c.args.self.now c.args.lane _ _
    c.args.value c.self.view_is
    (passed_whole halves.0 halves.1 c.args.value (search rules) (search rules) c.ranges.value
    c.halves-high.ensures)
    c.set.ensures c.set-2.ensures
