use Rattle.std.proofs.Common.{refl}
use Rattle.lb_trace.proofs.WordLanes.{eight_lanes, eights-lane, sums-small}
use Rattle.lb_trace.proofs.words.eights_of.Goals as goal

pub returns-clause-eights : goal.returns-clause-eights
returns-clause-eights c = λ j below. eights-lane c.args.fours j c.requires.long c.requires.small below

pub returns-clause-small : goal.returns-clause-small
returns-clause-small c =
    sums-small 10000 c.args.fours (eight_lanes c.args.fours) 4 c.requires.long refl c.requires.small
    (λ j below. eights-lane c.args.fours j c.requires.long c.requires.small below)
