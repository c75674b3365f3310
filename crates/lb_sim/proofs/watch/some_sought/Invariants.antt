use Rattle.std.proofs.Common.{◌*◌, drop}
use Rattle.lb_machine.specs.Correct.{AddsAtMost}
use Rattle.lb_sim.specs.Watching.{AreWithin, is_sought}
use Rattle.lb_sim.proofs.MarkedElements.{marked_from}
use Rattle.lb_sim.proofs.Watching.{IsWatching}
use Rattle.lb_sim.proofs.watch.some_sought.Given as goal

abbrev pub invariant-loop-i : goal.invariant-loop-i
invariant-loop-i l = record {
  watching : IsWatching (is_sought l.sought) l.fn.code l.code l.places
      (marked_from 0 l.wanted.items) (marked_from l.i (drop l.i l.wanted.items)) l.fn.above
      l.plane;
  marked : AreWithin l.code l.marked l.plane;
  few : AddsAtMost l.fn.code l.code (12 * l.i);
}
