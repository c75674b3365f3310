-- Each pass adds the clocks of one row.
use Rattle.lb_expand.proofs.Words.{ap, arith, length, listed, node_clocks, ◌++◌, ◌<◌, ◌∙◌}
use Rattle.lb_expand.{proofs.clock_tables.AddedClocks.next_added, specs.TableClocks.row_clocks}
use Rattle.lb_static.specs.declared.table.Instance as row
use Rattle.lb_expand.proofs.clocks.table_clocks.Goals as goal

pub loop-row-preserved : goal.loop-row-preserved
loop-row-preserved c =
    let l = c.loop-row in
    let r = c.args.reached.now in
    let t = c.args.table.now in
    let vars = c.args.layout.now.variables.items in
    let runs = c.args.runs.now in
    let serving = c.args.serving.now in
    let lt : l.row < length c.args.table.now.instances.items =
    omega (arith, c.loop-row-test.true, l.auto.row-end, c.len-row-end.ensures) in
    next_added (λ j i before. row_clocks r t vars runs serving j i) t.instances.items l.row
    c.index.result.now l.clocks.items c.push_row.new.clocks.items lt l.invariant
    (c.in_ok-push_row.ensures
    ∙ ap (λ o. l.clocks.items ++ listed (node_clocks vars runs serving l.row) o)
    c.node_at-node.ensures
    ∙ ap (λ (z : row.Instance). l.clocks.items ++ row_clocks r t vars runs serving l.row z)
    c.index.ensures)
