use Rattle.lb_sim.proofs.AheadLoads.{RowAhead}
use Rattle.lb_sim.proofs.ahead.put_row.Given as goal

abbrev pub invariant-loop-k : goal.invariant-loop-k
invariant-loop-k l = RowAhead l.row l.lane l.d l.places l.fn.room l.room l.k
