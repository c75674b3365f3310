use Rattle.std.proofs.lemmas.Simd.{get_or-chunk}
use Rattle.lb_lanes.proofs.chunks.load8.Goals as goal

pub returns : goal.returns
returns c i h = get_or-chunk c.args.at 8 c.args.words.now i 0 h
