-- Each pass adds what serves for the variables of one row.
use Rattle.lb_expand.proofs.Words.{◌≡◌, ◌++◌, ◌<◌, length, get_or, ap, ◌∙◌, subst, Table}
use Rattle.lb_expand.proofs.Words.{sources_of, row_serving, table_serving, ◌≤◌, arith, take_all}
use Rattle.lb_expand.proofs.clock_tables.AddedClocks.{next_added}
use Rattle.lb_static.specs.declared.table.Instance as row
use Rattle.lb_expand.proofs.clocks.table_serving.Goals as goal

pub loop-row-preserved : goal.loop-row-preserved
loop-row-preserved c =
    let l = c.loop-row in
    let from = sources_of c.args.checked.now c.args.layout.now in
    let t = c.args.checked.now.elab.table in
    let i = c.index.result.now in
    let same : c.table-table.result.now ≡ t =
    c.table-table.ensures.value ∙ ap (λ e. e.table) c.elab.ensures.value in
    let within : l.row < length c.table-table.result.now.instances.items =
    omega (arith, c.loop-row-test.true, l.auto.row-end, c.len-row-end.ensures) in
    let lt = subst (λ (t : Table). l.row < length t.instances.items) same within in
    let is = c.index.ensures ∙ ap (λ (t : Table). get_or t.instances.items l.row i) same in
    next_added (λ j i before. row_serving from j i.origin before) t.instances.items l.row i
    l.serving.items c.push_serving.new.serving.items lt l.invariant
    (c.in_ok-push_serving.ensures
    ∙ ap (λ (z : row.Instance). l.serving.items ++ row_serving from l.row z.origin l.serving.items)
    is)

pub returns : goal.returns
returns c =
    let l = c.loop-row in
    let t = c.args.checked.now.elab.table in
    let same : c.table-table.result.now ≡ t =
    c.table-table.ensures.value ∙ ap (λ e. e.table) c.elab.ensures.value in
    let above : length c.table-table.result.now.instances.items ≤ l.row =
    omega (arith, c.loop-row-test.false, l.auto.row-end, c.len-row-end.ensures) in
    l.invariant
    ∙ ap (table_serving (sources_of c.args.checked.now c.args.layout.now))
    (take_all l.row t.instances.items
    (subst (λ (t : Table). length t.instances.items ≤ l.row) same above))
