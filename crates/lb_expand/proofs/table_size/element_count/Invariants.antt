use Rattle.lb_expand.proofs.Words.{take, sum_by, declared_width, Counts}
use Rattle.lb_expand.proofs.table_size.element_count.Given as goal

abbrev pub invariant-loop-variable : goal.invariant-loop-variable
invariant-loop-variable l =
    Counts l.count (sum_by (declared_width l.statics) (take l.variable-index l.variables))
