use Rattle.std.proofs.Common.{take}
use Rattle.lb_flat.specs.Programs.{numbers_of}
use Rattle.lb_sim.proofs.MarkedElements.{AreMarked}
use Rattle.lb_sim.proofs.marks.marked_elements.Given as goal

abbrev pub invariant-loop-i : goal.invariant-loop-i
invariant-loop-i l = AreMarked (numbers_of (take l.i l.elements)) l.marks.items l.size
