-- Each pass subtracts the size of one row; the program is small exactly where something is left.
use Rattle.lb_expand.proofs.{Words.{ap, lent_size, ◌∙◌}, widths.TableSizes.{left_small, less_left}}
use Rattle.lb_static.specs.declared.table.Instance as row
use Rattle.lb_expand.proofs.table_size.is_small.Goals as goal

pub loop-row-preserved : goal.loop-row-preserved
loop-row-preserved c =
    let l = c.loop-row in
    less_left (λ (i : row.Instance). lent_size c.args.checked.now.types i.specialization.0)
    c.deref-row-items.result.now l.row-index _ c.args.elements l.left c.row_size.result
    c.saturating_sub-left-in-loop-row.result c.loop-row-test.true l.invariant c.row_size.ensures
    c.saturating_sub-left-in-loop-row.ensures

pub returns : goal.returns
returns c =
    let l = c.loop-row in
    left_small c.args.checked.now c.elab.ensures.lawful c.deref-row-items.result.now
    (c.deref-row-items.ensures.value
    ∙ ap (λ t. t.instances.items) (c.table.ensures.value ∙ ap (λ e. e.table) c.elab.ensures.value))
    c.args.elements l.left l.row-index c.requires c.loop-row-test.false l.invariant
