use Rattle.std.proofs.Common.{◌-◌, ◌*◌}
use Rattle.std.specs.List.{range_with_len}
use Rattle.lb_check.specs.Verdicts.{is_bad}
use Rattle.lb_machine.specs.Correct.{AddsAtMost}
use Rattle.lb_sim.specs.Watching.{AreWithin}
use Rattle.lb_sim.proofs.Watching.{IsWatching}
use Rattle.lb_sim.proofs.watch.first_bad.Given as goal

abbrev pub invariant-loop-i : goal.invariant-loop-i
invariant-loop-i l = record {
  watching : IsWatching is_bad l.fn.code l.code l.places (range_with_len 0 l.count)
      (range_with_len l.i (l.count - l.i)) l.fn.above l.plane;
  marked : AreWithin l.code l.marked l.plane;
  few : AddsAtMost l.fn.code l.code (4 * l.i);
}
