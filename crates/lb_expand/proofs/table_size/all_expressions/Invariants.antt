use Rattle.lb_expand.proofs.Words.{◌≡◌, None, take, sum_by, Counts, lent_size}
use Rattle.lb_static.specs.declared.table.Instance as row
use Rattle.lb_expand.proofs.table_size.all_expressions.Given as goal

abbrev pub invariant-loop-row : goal.invariant-loop-row
invariant-loop-row l =
    Counts l.count
    (sum_by (λ (i : row.Instance). lent_size l.checked.types i.specialization.0)
    (take l.row-index l.row-items))
    × (l.checked.types ≡ None → l.row-index ≡ 0)
