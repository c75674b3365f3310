use Rattle.lb_expand.proofs.Words.{◌≡◌, drop, start_from, start_in}
use Rattle.lb_expand.proofs.expansion.whole_emission.start_in.Given as goal

abbrev pub invariant-loop-row : goal.invariant-loop-row
invariant-loop-row l =
    start_from l.reached l.table l.observer l.row (drop l.row l.table.instances.items)
    ≡ start_in l.reached l.table l.observer
