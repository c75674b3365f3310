use Rattle.lb_sim.specs.Loads.{four_at}
use Rattle.lb_sim.proofs.IntegerLoads.{LanesPut}
use Rattle.lb_sim.proofs.four_lanes.put_rows.Given as goal

abbrev pub invariant-loop-k : goal.invariant-loop-k
invariant-loop-k g l =
    let row = g.R.IntegerRow.integers in
    LanesPut l.first 4 (λ i w. four_at l.first (row l.a) (row l.b) (row l.c) (row l.d) w i)
    l.places l.fn.words l.words l.k
