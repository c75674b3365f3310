use Rattle.std.proofs.Common.{◌≡◌, map, take}
use Rattle.lb_flat.specs.Programs.{numbers_of}
use Rattle.lb_flat.specs.Run.{cell}
use Rattle.lb_reason.specs.Moments.{row_now}
use Rattle.lb_reason.specs.Reasons.{cells_in, elements_in}
use Rattle.lb_reason.proofs.finding.steps_from.Given as goal

abbrev pub invariant-loop-i : goal.invariant-loop-i
invariant-loop-i l = record {
  elements : elements_in l.steps.items ≡ numbers_of (take l.i l.elements.items);
  cells : cells_in l.steps.items ≡ map (cell (row_now l.moment)) (elements_in l.steps.items);
}
