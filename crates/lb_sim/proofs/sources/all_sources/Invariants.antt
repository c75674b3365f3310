use Rattle.std.proofs.Common.{◌*◌}
use Rattle.lb_flat.specs.Programs.{program_of}
use Rattle.lb_machine.specs.Correct.{AddsAtMost}
use Rattle.lb_sim.proofs.CommitLoop.{IsCommitting}
use Rattle.lb_sim.proofs.sources.all_sources.Given as goal

abbrev pub invariant-loop-i : goal.invariant-loop-i
invariant-loop-i l = record {
  committing : IsCommitting (program_of l.program) l.places l.allotted.kept.items l.held
      l.allotted.memory_plane l.allotted.memory_word l.initial.code l.code l.planes.items
      l.words.items l.i;
  few : AddsAtMost l.initial.code l.code (9 * l.i);
}
