use Rattle.std.proofs.Common.{take}
use Rattle.lb_trace.specs.PlainRows.{AreInOrder}
use Rattle.lb_trace.proofs.table.are_in_order.Given as goal

abbrev pub invariant-loop-i : goal.invariant-loop-i
invariant-loop-i l = AreInOrder 0 (take l.i l.table)
