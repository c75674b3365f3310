use Rattle.std.proofs.Common.{ap₂, ◌∙◌, leb}
use Rattle.lb_lanes.proofs.WordVectors.{word_fits, raised16, raised16_long, raised16_at}
use Rattle.lb_lanes.proofs.WordVectors.{on-word_bitmask, word_bitmask_bound, word_chosen}
use Rattle.lb_lanes.proofs.WordArithmetic.{word_at_most_is}
use Rattle.lb_lanes.proofs.word_tests.AtMostWordChoice.chosen16.Goals as goal

pub returns-clause-lanes : goal.returns-clause-lanes
returns-clause-lanes c i h =
    let x = c.args.x in
    let y = c.args.y in
    on-word_bitmask leb (raised16 x) (raised16 y) i (raised16_long x c.fits-x.0)
    (raised16_long y c.fits-y.0) h
    ∙ ap₂ leb (raised16_at x i c.fits-x.0 h) (raised16_at y i c.fits-y.0 h)
    ∙ word_at_most_is _ _ (word_fits x i c.fits-x h) (word_fits y i c.fits-y h)

pub returns-clause-within : goal.returns-clause-within
returns-clause-within c =
    word_bitmask_bound leb (raised16 c.args.x) (raised16 c.args.y)
    (raised16_long c.args.x c.fits-x.0) (raised16_long c.args.y c.fits-y.0)

pub returns-clause-value : goal.returns-clause-value
returns-clause-value c i h =
    let x = c.args.x in
    let y = c.args.y in
    word_chosen leb (raised16 x) (raised16 y) c.args.a c.args.b i (raised16_long x c.fits-x.0)
    (raised16_long y c.fits-y.0) c.fits-a.0 c.fits-b.0 h
