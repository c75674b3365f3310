use Rattle.std.proofs.Common.{◌<◌, arith, not, ap, ◌∙◌}
use Rattle.std.specs.Ordering.{int_eq}
use Rattle.lb_lanes.specs.Kernels.{lane_of, lanes_in}
use Rattle.lb_lanes.specs.Operators.{is_int}
use Rattle.lb_lanes.proofs.Halves.{int_by, lane_is}
use Rattle.lb_lanes.proofs.Words.{fits_int}
use Rattle.lb_lanes.proofs.lanes.IntLanes.outside.Goals as goal

pub returns : goal.returns
returns c i h =
    let a = c.self.inside in
    let here : i < lanes_in c.all.result = omega (arith, h, c.all.ensures) in
    c.not.ensures i h
    ∙ ap not
    (c.eq.ensures i here ∙ ap (int_eq (lane_of a.high i)) (c.set_signs.ensures i h)
    ∙ int_by (lane_of a.high i) (lane_of a.low i) (fits_int _ (c.are_ints.ensures i h))
    ∙ ap is_int (lane_is a.high a.low c.args.self.now c.self.view_is i h))
