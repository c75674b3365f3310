use Rattle.std.proofs.Common.{◌+◌, ◌*◌, ◌≤◌, length}
use Rattle.lb_sim.specs.Climbs.{unknown_count}
use Rattle.lb_sim.proofs.Placing.{IsPlacing}
use Rattle.lb_sim.proofs.emit_all.emit_each.Given as goal

abbrev pub invariant-loop-i : goal.invariant-loop-i
invariant-loop-i l = record {
  placing : IsPlacing l.program l.fn.code l.code l.inputs l.constants l.kept l.places l.known l.i;
  few : l.code.planes + l.code.words + 10 * unknown_count l.known
      ≤ l.fn.code.planes + l.fn.code.words + 10 * length l.program.clocks.items + 16 * l.i;
}
