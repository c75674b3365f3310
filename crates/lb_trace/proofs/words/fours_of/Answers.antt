use Rattle.std.proofs.Common.{refl}
use Rattle.lb_trace.proofs.WordLanes.{four_lanes, fours-lane, sums-small}
use Rattle.lb_trace.proofs.words.fours_of.Goals as goal

pub returns-clause-fours : goal.returns-clause-fours
returns-clause-fours c = λ j below. fours-lane c.args.pairs j c.requires.long c.requires.small below

pub returns-clause-small : goal.returns-clause-small
returns-clause-small c =
    sums-small 100 c.args.pairs (four_lanes c.args.pairs) 8 c.requires.long refl c.requires.small
    (λ j below. fours-lane c.args.pairs j c.requires.long c.requires.small below)
