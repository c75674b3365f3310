use Rattle.lb_flat.specs.Programs.{program_of}
use Rattle.lb_sim.proofs.Allotments.{FillsConstants}
use Rattle.lb_sim.proofs.memories.fill_constants.Given as goal

abbrev pub invariant-loop-i : goal.invariant-loop-i
invariant-loop-i l =
    FillsConstants (program_of l.program) l.fn.preset l.preset l.table l.i
