use Rattle.lb_trace.proofs.FrontLines.{InLine}
use Rattle.lb_trace.proofs.front_line.first_line.Given as goal

abbrev pub invariant-loop-i : goal.invariant-loop-i
invariant-loop-i l = InLine l.text l.i
