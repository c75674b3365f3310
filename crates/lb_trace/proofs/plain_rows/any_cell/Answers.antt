use Rattle.std.proofs.Common.{rules}
use Rattle.lb_trace.proofs.SmallNumbers.{begins-stored}
use Rattle.lb_trace.proofs.PlainValues.{begins-from}
use Rattle.lb_trace.proofs.plain_rows.any_cell.Goals as goal

pub returns : goal.returns
returns c =
    let e = c.next_cell-cell.ensures in
    let cell = c.next_cell-cell.result in
    begins-stored _ _ _ _ _ (search rules)
    (begins-from _ _ _ _ _ _ e.bytes c.in-Some-cell_value.ensures e.rest e.last)
