use Rattle.std.proofs.Common.{◌≤◌, length}
use Rattle.lb_trace.proofs.table.in_text_order.Given as goal

abbrev pub invariant-loop-at : goal.invariant-loop-at
invariant-loop-at l = length l.placed.items ≤ l.at
