use Rattle.std.proofs.Common.{◌++◌, sym, ap, ◌∙◌}
use Rattle.lb_trace.proofs.CopiedCells.{shorter-rest, cells-last, cells-more, line-last, line-more}
use Rattle.lb_trace.proofs.copied.copy_record.Goals as goal

pub returns-then-cell-clause-cells : goal.returns-then-cell-clause-cells
returns-then-cell-clause-cells c =
    sym (c.cells.invariant.cells
    ∙ cells-last _ _ _ _ _ _ _ c.next_cell-cell.ensures.cells
    c.if-cell.true (ap (λ partial. partial ++ c.next_cell-cell.result.bytes.now)
    c.cells.invariant.begun)
    c.in_ok-push_field.ensures.fields)

pub returns-then-cell-clause-after : goal.returns-then-cell-clause-after
returns-then-cell-clause-after c =
    sym (c.cells.invariant.after
    ∙ line-last c.cells.rest.now _ _ c.next_cell-cell.ensures.after c.if-cell.true)

pub cells-preserved : goal.cells-preserved
cells-preserved c = record {
  cells = c.cells.invariant.cells
      ∙ cells-more _ _ _ _ _ _ _ c.next_cell-cell.ensures.cells
      c.if-cell.false (ap (λ partial. partial ++ c.next_cell-cell.result.bytes.now)
      c.cells.invariant.begun)
      c.in_ok-push_field.ensures.fields;
  begun = c.in_ok-push_field.ensures.partial;
  after = c.cells.invariant.after
      ∙ line-more c.cells.rest.now _ _ c.next_cell-cell.ensures.after c.if-cell.false;
}

pub cells-smaller : goal.cells-smaller
cells-smaller c =
    shorter-rest c.cells.rest.now _ _ c.next_cell-cell.ensures.rest c.next_cell-cell.ensures.last
    c.if-cell.false
