use Rattle.std.proofs.Common.{ap, sym, ◌∙◌}
use Rattle.lb_lanes.specs.Kernels.{lane_of}
use Rattle.lb_lanes.specs.Operators.{is_int}
use Rattle.lb_lanes.proofs.WordViews.{bits_are_ints}
use Rattle.lb_lanes.proofs.lane_words.LaneWord.are_ints.Goals as goal

pub returns : goal.returns
returns c i h = ap (λ l. is_int (lane_of l i)) (sym c.self.view_is)
    ∙ bits_are_ints c.self.inside.lanes i h
