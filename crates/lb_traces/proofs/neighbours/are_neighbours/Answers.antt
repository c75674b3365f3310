use Rattle.lb_traces.proofs.SixteenLanes.{equal-from, neighbours-at}
use Rattle.lb_traces.proofs.neighbours.are_neighbours.Goals as goal

pub returns : goal.returns
returns c = λ all k below.
    neighbours-at _ _ _ c.requires c.type_inv.columns
    c.if-columns-first.false (equal-from _ 65535 all) below
