use Rattle.std.proofs.Common.{refl}
use Rattle.lb_trace.proofs.WordLanes.{pair_lanes, pairs-lane, sums-small}
use Rattle.lb_trace.proofs.words.pairs_of.Goals as goal

pub returns-clause-pairs : goal.returns-clause-pairs
returns-clause-pairs c = λ j below. pairs-lane c.args.digits j c.requires.long c.requires.small below

pub returns-clause-small : goal.returns-clause-small
returns-clause-small c =
    sums-small 10 c.args.digits (pair_lanes c.args.digits) 16 c.requires.long refl c.requires.small
    (λ j below. pairs-lane c.args.digits j c.requires.long c.requires.small below)
