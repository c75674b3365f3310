-- The size that is reported is counted, or known to be too large.
use Rattle.lb_expand.proofs.Words.{◌∙◌, ap, ap₂, length, refl, subst, sym, element_total, Counts}
use Rattle.lb_expand.proofs.Words.{lent_size, term_total, Table}
use Rattle.lb_expand.proofs.widths.TableSizes.{both_over, variables_over}
use Rattle.lb_expand.proofs.table_size.size_fault.Goals as goal

pub returns-in-Some : goal.returns-in-Some
returns-in-Some c =
    let x = c.args.checked.now in
    let elab = c.elab-elab.ensures.value in
    let tables = c.table-table.ensures.value ∙ ap (λ e. e.table) elab in
    let totals = ap₂ element_total (c.reached.ensures.value ∙ ap (λ e. e.reached) elab) tables in
    let terms = ap (λ (t : Table). term_total t (lent_size x.types)) tables in
    let over = both_over x c.elab-elab.ensures.lawful c.requires c.all_variables-variables.result
    c.in-Some.expressions c.saturating_add.result
    (subst (Counts c.all_variables-variables.result) totals c.all_variables-variables.ensures)
    (subst (Counts c.in-Some.expressions) terms c.in-Some.ensures.count)
    (λ none. ap (λ (t : Table). length t.instances.items) (sym tables)
    ∙ c.in-Some.ensures.found none)
    c.saturating_add.ensures in
    record { limit = refl; over = over.0; least = over.1 }

pub returns-in-None : goal.returns-in-None
returns-in-None c =
    let x = c.args.checked.now in
    let elab = c.elab-elab.ensures.value in
    let totals = ap₂ element_total (c.reached.ensures.value ∙ ap (λ e. e.reached) elab)
    (c.table-table.ensures.value ∙ ap (λ e. e.table) elab) in
    let over = variables_over x c.elab-elab.ensures.lawful c.requires
    c.all_variables-variables.result c.max.result
    (subst (Counts c.all_variables-variables.result) totals c.all_variables-variables.ensures)
    c.max.ensures in
    record { limit = refl; over = over.0; least = over.1 }
