use Rattle.lb_sim.proofs.ReadElements.{MarksClocks, MarksOperands}
use Rattle.lb_sim.proofs.read_inputs.mark_reads.Given as goal

abbrev pub invariant-loop-i : goal.invariant-loop-i
invariant-loop-i l = MarksClocks l.program l.marks l.i

abbrev pub invariant-loop-i-2 : goal.invariant-loop-i-2
invariant-loop-i-2 l = MarksOperands l.program l.marks l.i
