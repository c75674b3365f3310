use Rattle.lb_check.proofs.Words.{◌≡◌, drop, map, context_in, are_met, row_in}
use Rattle.lb_check.proofs.type_rules.have_types.Given as goal

abbrev pub invariant-loop-i : goal.invariant-loop-i
invariant-loop-i l =
    let row = row_in l.given in
    let types = map (context_in l.env).variable l.variables in
    are_met row types ≡ are_met (drop l.i row) (drop l.i types)
