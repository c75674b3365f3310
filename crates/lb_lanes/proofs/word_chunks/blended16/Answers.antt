use Rattle.std.proofs.Common.{List, Bool, get_or, cond, map, ap, ◌∙◌, ◌%◌, arith}
use Rattle.std.specs.List.{range_with_len}
use Rattle.std.proofs.lemmas.Simd.{get_or-sel_l}
use Rattle.lb_lanes.proofs.WordVectors.{word_mask, word_masks-on}
use Rattle.lb_lanes.proofs.word_chunks.blended16.Goals as goal

pub returns : goal.returns
returns c i h =
    let ms : List Bool = map (word_mask (c.args.mask % 4294967296)) (range_with_len 0 16) in
    get_or-sel_l ms c.args.a c.args.b i 0 h (omega (arith, c.fits-a.0)) (omega (arith, c.fits-b.0))
    ∙ ap (λ t. cond t (get_or c.args.a i 0) (get_or c.args.b i 0)) (word_masks-on c.args.mask i h)
