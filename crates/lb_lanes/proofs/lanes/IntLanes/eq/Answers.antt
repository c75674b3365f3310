use Rattle.std.proofs.Common.{◌<◌, arith, ◌&&◌, ap₂, ◌∙◌}
use Rattle.std.specs.Ordering.{int_eq}
use Rattle.lb_lanes.specs.Kernels.{lane_of, lanes_in}
use Rattle.lb_lanes.proofs.Halves.{equal_by, lane_is}
use Rattle.lb_lanes.proofs.Words.{fits_int}
use Rattle.lb_lanes.proofs.lanes.IntLanes.eq.Goals as goal

pub returns : goal.returns
returns c i h =
    let a = c.self.inside in
    let b = c.other.inside in
    let first : i < lanes_in c.all.result = omega (arith, h, c.all.ensures) in
    let second : i < lanes_in c.all-2.result = omega (arith, h, c.all-2.ensures) in
    c.and.ensures i h ∙ ap₂ (λ p q. p && q) (c.eq.ensures i first) (c.eq-2.ensures i second)
    ∙ equal_by (lane_of a.high i) (lane_of b.high i) (lane_of a.low i) (lane_of b.low i)
    (fits_int _ (c.are_ints.ensures i h)) (fits_int _ (c.are_ints-2.ensures i h))
    ∙ ap₂ int_eq (lane_is a.high a.low c.args.self.now c.self.view_is i h)
    (lane_is b.high b.low c.args.other.now c.other.view_is i h)
