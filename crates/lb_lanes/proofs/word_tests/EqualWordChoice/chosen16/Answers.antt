use Rattle.std.proofs.Common.{nat_eq, ◌∙◌}
use Rattle.lb_lanes.proofs.WordVectors.{word_fits, on-word_bitmask, word_bitmask_bound, word_chosen}
use Rattle.lb_lanes.proofs.WordArithmetic.{word_equal_is}
use Rattle.lb_lanes.proofs.word_tests.EqualWordChoice.chosen16.Goals as goal

pub returns-clause-lanes : goal.returns-clause-lanes
returns-clause-lanes c i h =
    on-word_bitmask nat_eq c.args.x c.args.y i c.fits-x.0 c.fits-y.0 h
    ∙ word_equal_is _ _ (word_fits c.args.x i c.fits-x h) (word_fits c.args.y i c.fits-y h)

pub returns-clause-within : goal.returns-clause-within
returns-clause-within c = word_bitmask_bound nat_eq c.args.x c.args.y c.fits-x.0 c.fits-y.0

pub returns-clause-value : goal.returns-clause-value
returns-clause-value c i h =
    word_chosen nat_eq c.args.x c.args.y c.args.a c.args.b i c.fits-x.0 c.fits-y.0 c.fits-a.0
    c.fits-b.0 h
