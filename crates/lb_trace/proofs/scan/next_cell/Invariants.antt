use Rattle.lb_trace.proofs.FirstCells.{Walked}
use Rattle.lb_trace.proofs.scan.next_cell.Given as goal

abbrev pub invariant-loop-i : goal.invariant-loop-i
invariant-loop-i l = Walked l.text l.i
