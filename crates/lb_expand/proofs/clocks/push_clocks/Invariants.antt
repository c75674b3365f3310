use Rattle.lb_expand.proofs.Words.{◌≡◌, ◌++◌, flat_map, range_with_len, variable_clocks}
use Rattle.lb_expand.proofs.clocks.push_clocks.Given as goal

abbrev pub invariant-loop-x : goal.invariant-loop-x
invariant-loop-x l =
    l.clocks.items
    ≡ l.fn.clocks.items
    ++ flat_map (variable_clocks l.layout.variables.items l.runs l.serving l.row.0 l.node)
    (range_with_len 0 l.x)
