use Rattle.lb_expand.proofs.Words.{◌≡◌, take, sources_of, table_serving}
use Rattle.lb_expand.proofs.clocks.table_serving.Given as goal

abbrev pub invariant-loop-row : goal.invariant-loop-row
invariant-loop-row l =
    l.serving.items
    ≡ table_serving (sources_of l.checked l.layout)
    (take l.row l.checked.elab.table.instances.items)
