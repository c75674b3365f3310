use Rattle.lb_expand.proofs.Words.{◌≡◌, ◌+◌, ◌-◌, take, sum_by, lent_size}
use Rattle.lb_static.specs.declared.table.Instance as row
use Rattle.lb_expand.proofs.table_size.is_small.Given as goal

abbrev pub invariant-loop-row : goal.invariant-loop-row
invariant-loop-row l =
    l.left
    ≡ 65537 - (l.elements
    + sum_by (λ (i : row.Instance). lent_size l.checked.types i.specialization.0)
    (take l.row-index l.row-items))
