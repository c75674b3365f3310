use Rattle.lb_lanes.proofs.Halves.{blend_whole}
use Rattle.lb_lanes.proofs.lanes.IntLanes.commit.Goals as goal

pub returns : goal.returns
returns c =
    let a = c.new.inside in
    let b = c.self.inside in
    blend_whole c.args.mask.0 c.commit.new.self c.commit-2.new.self a.high a.low c.args.new.now
    b.high b.low c.args.self.now c.commit.ensures c.commit-2.ensures c.new.view_is c.self.view_is
