use Rattle.std.proofs.Common.{arith}
use Rattle.std.proofs.lemmas.Simd.{get_or-put_chunk_at, get_or-put_chunk_below}
use Rattle.std.proofs.lemmas.Simd.{get_or-put_chunk_above}
use Rattle.lb_lanes.proofs.word_chunks.store16.Goals as goal

pub returns-clause-inside : goal.returns-clause-inside
returns-clause-inside c i h =
    get_or-put_chunk_at c.args.at c.args.words.now c.args.lanes i 0 (omega (arith, c.fits-lanes.0))
    (omega (arith, c.fits-lanes.0))

pub returns-clause-below : goal.returns-clause-below
returns-clause-below c k h = get_or-put_chunk_below c.args.at c.args.words.now c.args.lanes k 0 h

pub returns-clause-above : goal.returns-clause-above
returns-clause-above c k h =
    get_or-put_chunk_above c.args.at c.args.words.now c.args.lanes k 0
    (omega (arith, c.fits-lanes.0))
