-- The variables of a row are the variables of its node; a row without a node has none.
use Rattle.lb_expand.proofs.Words.{Counts, Declared, List, declared_width, map, subst, sum_of, sym}
use Rattle.lb_expand.proofs.{Words.{ℕ, ℤ}, numbering.RowVariables.{of_node, without_node}}
use Rattle.lb_expand.proofs.{numbering.StoredLayouts.sum_mapped, widths.TableSizes.nothing_counted}
use Rattle.lb_static.proofs.Lookups.{held, past}
use Rattle.lb_expand.proofs.table_size.row_variables.Goals as goal

abbrev widths : List ℤ → List Declared → List ℕ
widths statics vs = map (declared_width statics) vs

pub returns-in-None : goal.returns-in-None
returns-in-None c =
    let there = c.in-Some.ensures.lookup in
    subst (λ ws. Counts 0 (sum_of ws))
    (sym (without_node widths c.args.reached.now c.args.table.now c.args.row.now _
    (held c.deref.result.now _ _ c.in-Some.specialization.now c.deref.ensures.value there.3.0
    there.1) (past c.deref-2.result.now _ _ c.deref-2.ensures.value c.in-None.ensures.lookup.3)))
    nothing_counted

pub returns-in-Some-get : goal.returns-in-Some-get
returns-in-Some-get c =
    let there = c.in-Some.ensures.lookup in
    let at = c.in-Some-get.ensures.lookup in
    let same = of_node widths c.args.reached.now c.args.table.now c.args.row.now _ _ _ _
    (held c.deref.result.now _ _ c.in-Some.specialization.now c.deref.ensures.value there.3.0
    there.1)
    (held c.deref-2.result.now _ _ c.in-Some-get.node.now c.deref-2.ensures.value at.3.0 at.1)
    c.deref-in-Some-get.ensures.value c.deref-in-Some-get-2.ensures.value in
    let sums = sum_mapped (declared_width c.deref-in-Some-get.result.now)
    c.deref-in-Some-get-2.result.now in
    subst (λ ws. Counts c.element_count.result (sum_of ws)) same
    (subst (Counts c.element_count.result) (sym sums) c.element_count.ensures)
