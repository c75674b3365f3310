use Rattle.lb_sim.proofs.ReadElements.{LoadsBelow}
use Rattle.lb_sim.proofs.read_inputs.read_inputs.Given as goal

abbrev pub invariant-loop-i : goal.invariant-loop-i
invariant-loop-i l =
    LoadsBelow l.program l.inputs l.read.items l.found.numbers.items l.found.truths l.i
