-- Four values, as they are stored.
use Rattle.lb_trace.proofs.WordLanes.{values-are}
use Rattle.lb_trace.proofs.words.signed.Goals as goal

pub returns : goal.returns
returns c =
    values-are _ _ _ c.requires.minus
    c.requires.long c.turned_of-turned.ensures.long c.requires.small
    c.turned_of-turned.ensures.small c.turned_of-turned.ensures.lanes
