use Rattle.std.proofs.Common.{take}
use Rattle.lb_trace.specs.PlainRows.{ArePlaced}
use Rattle.lb_trace.proofs.table.are_placed.Given as goal

abbrev pub invariant-loop-column : goal.invariant-loop-column
invariant-loop-column l = ArePlaced l.placed (take l.column-index l.table)
