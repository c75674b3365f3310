use Rattle.lb_expand.proofs.Words.{◌≡◌, flat_map, take, kinds_in}
use Rattle.lb_expand.proofs.variable_kinds.variable_kinds.Given as goal

abbrev pub invariant-loop-row : goal.invariant-loop-row
invariant-loop-row l =
    l.kinds.items ≡ flat_map (kinds_in l.reached l.table) (take l.row-index l.row-items)
