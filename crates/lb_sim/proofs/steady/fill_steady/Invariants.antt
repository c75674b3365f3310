use Rattle.std.proofs.Common.{length}
use Rattle.lb_flat.specs.Programs.{program_of}
use Rattle.lb_sim.proofs.SteadyTables.{IsSteadying}
use Rattle.lb_sim.proofs.steady.fill_steady.Given as goal

abbrev pub invariant-loop-i : goal.invariant-loop-i
invariant-loop-i l =
    IsSteadying (program_of l.program) l.known.memory_plane (length l.known.preset.planes.items)
    (length l.known.preset.words.items) l.known.kept.items l.table l.clear.items l.set.items l.i
