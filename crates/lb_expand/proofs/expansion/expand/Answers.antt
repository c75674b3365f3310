-- A program that the layout finds too large is not small; a small one has its expansion.
use Rattle.lb_expand.proofs.Words.{◌<◌, ◌∙◌, Err, ap, ap₂, subst, subst₂, elaborated_program}
use Rattle.lb_expand.proofs.Words.{element_total, IsLayoutOf, Reached, Table}
use Rattle.lb_expand.proofs.widths.TableSizes.{too_many}
use Rattle.lb_expand.proofs.expansion.expand.Goals as goal

pub size_fault-requires : goal.size_fault-requires
size_fault-requires c =
    let x = c.args.checked.now.elab in
    let elab = c.elab-elab.ensures in
    let same = ap₂ element_total (c.reached.ensures.value ∙ ap (λ e. e.reached) elab.value)
    (c.table.ensures.value ∙ ap (λ e. e.table) elab.value) in
    let over = c.in-Err-Large.ensures.large (ap (λ e. Err e) c.in-Err-Large.field-0-is) in
    too_many (elaborated_program x) x.reached x.table elab.lawful.elaborated.reached
    elab.lawful.elaborated.table (subst (λ n. 65536 < n) same over)

pub is_small-requires : goal.is_small-requires
is_small-requires c =
    let elab = c.elab-elab.ensures.value in
    c.in-Ok.ensures.count
    ∙ ap₂ element_total (c.reached.ensures.value ∙ ap (λ e. e.reached) elab)
    (c.table.ensures.value ∙ ap (λ e. e.table) elab)

pub flat_program-requires-clause-layout : goal.flat_program-requires-clause-layout
flat_program-requires-clause-layout c =
    let elab = c.elab-elab.ensures.value in
    let laid = c.in-Ok.ensures in
    subst₂ (λ (r : Reached) (t : Table). IsLayoutOf r t c.in-Ok.layout)
    (c.reached.ensures.value ∙ ap (λ e. e.reached) elab)
    (c.table.ensures.value ∙ ap (λ e. e.table) elab) (record {
      numbers = laid.numbers;
      variables = laid.variables;
      count = laid.count;
      few = laid.few;
    })

pub returns-in-Err-Large : goal.returns-in-Err-Large
returns-in-Err-Large c =
    let x = c.args.checked.now.elab in
    let elab = c.elab-elab.ensures in
    let same = ap₂ element_total (c.reached.ensures.value ∙ ap (λ e. e.reached) elab.value)
    (c.table.ensures.value ∙ ap (λ e. e.table) elab.value) in
    let over = c.in-Err-Large.ensures.large (ap (λ e. Err e) c.in-Err-Large.field-0-is) in (
      too_many (elaborated_program x) x.reached x.table elab.lawful.elaborated.reached
          elab.lawful.elaborated.table (subst (λ n. 65536 < n) same over),
      c.size_fault.ensures,
    )
