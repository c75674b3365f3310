use Rattle.std.proofs.lemmas.Simd.{get_or-chunk}
use Rattle.lb_lanes.proofs.word_chunks.load16.Goals as goal

pub returns : goal.returns
returns c i h = get_or-chunk c.args.at 16 c.args.words.now i 0 h
