use Rattle.std.proofs.Common.{◌==◌, cond, ap, ap₂, ◌∙◌, refl, w32}
use Rattle.lb_lanes.specs.Kernels.{lane_of}
use Rattle.lb_lanes.proofs.Views.{lane-set, word_of}
use Rattle.lb_lanes.proofs.lane_words.LaneWord.set.Goals as goal

pub returns : goal.returns
returns c i h =
    lane-set w32 refl c.self.inside.lanes c.args.lane i c.cast_unsigned.result c.self.told
    c.requires
    ∙ ap₂ (cond (i == c.args.lane))
    (word_of w32 c.cast_unsigned.result c.args.value c.ranges.value c.cast_unsigned.ensures)
    (ap (λ l. lane_of l i) c.self.view_is)
