use Rattle.lb_expand.proofs.Words.{◌≡◌, ◌++◌, flat_map, take, declared_when}
use Rattle.lb_expand.proofs.expansion.clock_uses.push_variables.Given as goal

abbrev pub invariant-loop-variable : goal.invariant-loop-variable
invariant-loop-variable l =
    l.names.items
    ≡ l.fn.names.items ++ flat_map declared_when (take l.variable-index l.variables)
