use Rattle.std.proofs.Common.{leb, get_or, replicate, ap, ◌∙◌}
use Rattle.lb_lanes.proofs.WordVectors.{word_fits, splat_long, splat_at, on-word_bitmask}
use Rattle.lb_lanes.proofs.WordVectors.{word_bitmask_bound, top_on}
use Rattle.lb_lanes.proofs.word_chunks.tops16.Goals as goal

pub returns-clause-lanes : goal.returns-clause-lanes
returns-clause-lanes c i h =
    on-word_bitmask leb (replicate 16 2147483648) c.args.x i (splat_long 2147483648) c.fits-x.0 h
    ∙ ap (λ n. leb n (get_or c.args.x i 0)) (splat_at 2147483648 i h)
    ∙ top_on (get_or c.args.x i 0) (word_fits c.args.x i c.fits-x h)

pub returns-clause-within : goal.returns-clause-within
returns-clause-within c =
    word_bitmask_bound leb (replicate 16 2147483648) c.args.x (splat_long 2147483648) c.fits-x.0
