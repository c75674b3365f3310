use Rattle.std.proofs.Common.{List, subst, sym}
use Rattle.lb_trace.specs.PlainRows.{ArePlaced}
use Rattle.lb_trace.specs.declared.header.Column.{Column}
use Rattle.lb_trace.proofs.PlacedRows.{ordered_line, placed_line}
use Rattle.lb_trace.proofs.placed_rows.read_cells.Goals as goal

pub returns-then-table : goal.returns-then-table
returns-then-table c =
    ordered_line c.read_line.result c.args.table.now.columns.items c.deref.result.now
    c.args.table.now.count c.args.text.now c.read_line.new.row.items c.deref.ensures.value
    (c.requires.order c.if-table.true) c.read_line.ensures

pub read_placed-requires : goal.read_placed-requires
read_placed-requires c =
    let placed = c.deref-then-table-2 in
    let columns = c.deref-then-table-2-2 in
    subst (λ (ps : List Column). ArePlaced ps columns.result.now) (sym placed.ensures.value)
    (subst (ArePlaced c.args.table.now.placed.items) (sym columns.ensures.value)
    (c.requires.placed c.if-table-2.true).1)

pub returns-then-table-2 : goal.returns-then-table-2
returns-then-table-2 c =
    let placed = c.deref-then-table-2 in
    let columns = c.deref-then-table-2-2 in
    placed_line c.read_placed.result c.args.table.now.columns.items columns.result.now
    placed.result.now c.args.table.now.placed.items c.args.table.now.count c.args.text.now
    c.read_placed.new.row.items columns.ensures.value placed.ensures.value
    (c.requires.placed c.if-table-2.true).0 c.read_placed.ensures
