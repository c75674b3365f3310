use Rattle.lb_expand.proofs.Words.{take, sum_by, sum_of, widths_in, Counts}
use Rattle.lb_static.specs.declared.table.Instance as row
use Rattle.lb_expand.proofs.table_size.all_variables.Given as goal

abbrev pub invariant-loop-row : goal.invariant-loop-row
invariant-loop-row l =
    Counts l.count
    (sum_by (λ (i : row.Instance). sum_of (widths_in l.reached l.table i))
    (take l.row-index l.row-items))
