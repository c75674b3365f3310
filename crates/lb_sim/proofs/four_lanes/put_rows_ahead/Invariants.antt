use Rattle.lb_sim.specs.Loads.{four_at}
use Rattle.lb_sim.proofs.AheadLoads.{FourAhead}
use Rattle.lb_sim.proofs.four_lanes.put_rows_ahead.Given as goal

abbrev pub invariant-loop-k : goal.invariant-loop-k
invariant-loop-k g l =
    let row = g.R.IntegerRow.integers in
    FourAhead l.first l.instant (λ i w. four_at l.first (row l.a) (row l.b) (row l.c) (row l.d) w i)
    l.places l.fn.room l.room l.k
