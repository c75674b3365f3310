use Rattle.lb_trace.proofs.WordLanes.{turned-lane, turned-long, turned-small}
use Rattle.lb_trace.proofs.words.turned_of.Goals as goal

pub returns-clause-long : goal.returns-clause-long
returns-clause-long c = turned-long c.args.minus c.args.numbers c.requires.minus c.requires.long

pub returns-clause-lanes : goal.returns-clause-lanes
returns-clause-lanes c = λ j below.
    turned-lane c.args.minus c.args.numbers c.requires.minus c.requires.long j c.requires.small below

pub returns-clause-small : goal.returns-clause-small
returns-clause-small c =
    turned-small _ _ _
    (turned-long c.args.minus c.args.numbers c.requires.minus c.requires.long) c.requires.long
    c.requires.small
    (λ j below.
    turned-lane c.args.minus c.args.numbers c.requires.minus c.requires.long j c.requires.small below)
