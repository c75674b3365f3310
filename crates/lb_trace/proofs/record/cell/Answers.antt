-- Cell `i` is field `i + 1` of the record, if there is one.
use Rattle.std.proofs.Common.{arith, sym, ◌∙◌}
use Rattle.lb_trace.proofs.Fields.{cell-some, cell-none}
use Rattle.lb_trace.proofs.record.cell.Goals as goal

pub returns-in-Some : goal.returns-in-Some
returns-in-Some c =
    cell-some _ _ _ _
    (omega (arith, c.saturating_add.ensures, c.in-Some.ensures.place)) (sym c.in-Some.ensures.value)

pub returns-in-None : goal.returns-in-None
returns-in-None c =
    c.as_slice.ensures ∙ cell-none _ _ _
    (omega (arith, c.saturating_add.ensures)) (sym c.in-None.ensures.value)
