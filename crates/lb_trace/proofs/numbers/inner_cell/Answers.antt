use Rattle.lb_trace.proofs.ShortCells.{inner-cell}
use Rattle.lb_trace.proofs.numbers.inner_cell.Goals as goal

pub returns-clause-cell : goal.returns-clause-cell
returns-clause-cell c =
    inner-cell _ _ _ _ _ c.in_ok-cell.ensures.cell c.if-text-cell-ne44.false
