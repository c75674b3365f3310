use Rattle.std.proofs.Common.{arith}
use Rattle.lb_lanes.proofs.Halves.{blend_whole}
use Rattle.lb_lanes.proofs.lanes.IntLanes.set_blend.Goals as goal

pub returns : goal.returns
returns c =
    let a = c.a.inside in
    let b = c.b.inside in
    blend_whole c.args.mask.0 c.set_blend.new.self c.set_blend-2.new.self a.high a.low c.args.a.now
    b.high b.low c.args.b.now (λ i h. c.set_blend.ensures i (omega (arith, h, c.all.ensures)))
    (λ i h. c.set_blend-2.ensures i (omega (arith, h, c.all-2.ensures))) c.a.view_is c.b.view_is
