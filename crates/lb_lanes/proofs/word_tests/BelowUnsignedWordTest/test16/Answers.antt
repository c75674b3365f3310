use Rattle.std.proofs.Common.{ap₂, sym, ◌∙◌, ltb, w32}
use Rattle.std.proofs.lemmas.Int.{of_z-to_z}
use Rattle.lb_lanes.proofs.WordVectors.{word_fits, on-word_bitmask, word_bitmask_bound}
use Rattle.lb_lanes.proofs.word_tests.BelowUnsignedWordTest.test16.Goals as goal

pub returns-clause-lanes : goal.returns-clause-lanes
returns-clause-lanes c i h =
    on-word_bitmask ltb c.args.x c.args.y i c.fits-x.0 c.fits-y.0 h
    ∙ ap₂ ltb (sym (of_z-to_z w32 _ (word_fits c.args.x i c.fits-x h)))
    (sym (of_z-to_z w32 _ (word_fits c.args.y i c.fits-y h)))

pub returns-clause-within : goal.returns-clause-within
returns-clause-within c = word_bitmask_bound ltb c.args.x c.args.y c.fits-x.0 c.fits-y.0
