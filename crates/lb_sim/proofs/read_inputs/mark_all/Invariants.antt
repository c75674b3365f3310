use Rattle.std.proofs.Common.{take}
use Rattle.lb_flat.specs.Programs.{numbers_of}
use Rattle.lb_sim.specs.ReadInputs.{AreMarkedToo}
use Rattle.lb_sim.proofs.read_inputs.mark_all.Given as goal

abbrev pub invariant-loop-i : goal.invariant-loop-i
invariant-loop-i l = AreMarkedToo l.fn.marks l.marks (take l.i (numbers_of l.elements))
