use Rattle.lb_expand.proofs.Words.{◌≡◌, take, sources_of, table_runs}
use Rattle.lb_expand.proofs.clocks.table_runs.Given as goal

abbrev pub invariant-loop-row : goal.invariant-loop-row
invariant-loop-row l =
    l.runs.items
    ≡ table_runs (sources_of l.checked l.layout)
    (take l.row l.checked.elab.table.instances.items)
