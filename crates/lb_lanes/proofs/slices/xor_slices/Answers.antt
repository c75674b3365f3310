use Rattle.std.proofs.Common.{rules}
use Rattle.lb_lanes.proofs.slices.xor_slices.Goals as goal

pub returns : goal.returns
returns c = search rules
