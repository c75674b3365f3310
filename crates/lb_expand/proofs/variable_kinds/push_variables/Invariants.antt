use Rattle.lb_expand.proofs.Words.{◌≡◌, ◌++◌, flat_map, take, declared_kinds}
use Rattle.lb_expand.proofs.variable_kinds.push_variables.Given as goal

abbrev pub invariant-loop-variable : goal.invariant-loop-variable
invariant-loop-variable l =
    l.kinds.items
    ≡ l.fn.kinds.items
    ++ flat_map (declared_kinds l.statics) (take l.variable-index l.variables)
