use Rattle.std.proofs.Common.{◌∙◌, sym}
use Rattle.lb_trace.proofs.ShortCells.{last-cell}
use Rattle.lb_trace.proofs.numbers.last_cell.Goals as goal

pub returns-clause-cell : goal.returns-clause-cell
returns-clause-cell c =
    last-cell _ _ _ _ _
    c.in_ok-cell.ensures.cell (sym c.ends_line.ensures ∙ c.if-not-ends_line.false)
