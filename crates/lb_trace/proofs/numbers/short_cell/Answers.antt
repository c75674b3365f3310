use Rattle.lb_trace.proofs.ShortCells.{next-end, short-cell}
use Rattle.lb_trace.proofs.numbers.short_cell.Goals as goal

pub returns-clause-cell : goal.returns-clause-cell
returns-clause-cell c =
    let short = c.is_short.ensures c.if-not-is_short.false in
    short-cell _ _ _ _ _ _ c.requires.long
    (next-end _ _ _ _ _ c.requires.ends c.in_ok-next.ensures) short.0 short.1
    (c.is_of.ensures c.if-not-is_of.false) c.word_of.ensures

pub returns-clause-others : goal.returns-clause-others
returns-clause-others c =
    let next =
    next-end _ _ _ _ _ c.requires.ends c.in_ok-next.ensures in
    next.others
