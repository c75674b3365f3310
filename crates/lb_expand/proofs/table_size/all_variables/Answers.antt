-- The variables of all rows are counted row by row.
use Rattle.lb_expand.proofs.Words.{Counts, List, ap, flat_map, subst, sum_of, sym, widths_in, ◌∙◌}
use Rattle.lb_expand.proofs.{numbering.StoredLayouts.sum_pieces, widths.TableSizes.all_counted}
use Rattle.lb_static.specs.declared.table.Instance as row
use Rattle.lb_expand.proofs.table_size.all_variables.Goals as goal

pub returns : goal.returns
returns c =
    let l = c.loop-row in
    let f = widths_in c.args.reached.now c.args.table.now in
    let rows = c.deref-row-items.result.now in
    let counted = all_counted (λ (i : row.Instance). sum_of (f i)) rows l.row-index l.count
    c.loop-row-test.false l.invariant in
    subst (Counts l.count)
    (sym (sum_pieces f rows)
    ∙ ap (λ (is : List row.Instance). sum_of (flat_map f is)) c.deref-row-items.ensures.value)
    counted
