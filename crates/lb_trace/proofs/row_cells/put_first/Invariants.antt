use Rattle.std.proofs.Common.{◌≡◌, length, take}
use Rattle.lb_trace.proofs.row_cells.put_first.Given as goal

abbrev pub invariant-loop-i : goal.invariant-loop-i
invariant-loop-i l = record {
  front : take l.i l.cells ≡ take l.i l.values;
  long : length l.cells ≡ length l.initial.cells;
}
