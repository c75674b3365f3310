use Rattle.std.proofs.Common.{◌≡◌, drop, length}
use Rattle.lb_trace.specs.Groups.{AllGroups}
use Rattle.lb_trace.specs.HeldLines.{IsFront}
use Rattle.lb_trace.proofs.held_rows.held_line.Given as goal

abbrev pub invariant-loop-j : goal.invariant-loop-j
invariant-loop-j l = record {
  front : IsFront l.columns l.text l.numbers l.front.i l.front.at l.front.truths l.front.bits
      l.front.rest.now;
  groups : AllGroups (drop l.j l.groups) (drop l.front.i l.columns);
  long : length l.numbers ≡ length l.columns;
}
