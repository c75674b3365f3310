use Rattle.lb_flat.proofs.{Words.{[], equation_of}, runs.Steps.IsFilling}
use Rattle.lb_flat.proofs.instant.compute.Given as goal

abbrev pub invariant-loop-i : goal.invariant-loop-i
invariant-loop-i l = IsFilling (equation_of l.clocks) [] l.row l.fn.row l.steps l.i
