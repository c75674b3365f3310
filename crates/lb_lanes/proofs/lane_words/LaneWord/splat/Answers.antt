use Rattle.std.proofs.Common.{◌∙◌, refl, w32}
use Rattle.lb_lanes.proofs.Views.{lane-splat, word_of}
use Rattle.lb_lanes.proofs.lane_words.LaneWord.splat.Goals as goal

pub returns : goal.returns
returns c i h = lane-splat w32 refl c.cast_unsigned.result i h
    ∙ word_of w32 c.cast_unsigned.result c.args.value c.ranges.value c.cast_unsigned.ensures
