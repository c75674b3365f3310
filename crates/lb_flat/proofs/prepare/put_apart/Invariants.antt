use Rattle.lb_flat.proofs.runs.Steps.{AreApart}
use Rattle.lb_flat.proofs.prepare.put_apart.Given as goal

abbrev pub invariant-loop-i : goal.invariant-loop-i
invariant-loop-i l =
    AreApart l.size l.clocks l.equations l.i l.inputs.items l.steps.items l.memories.items
