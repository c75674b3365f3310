use Rattle.std.proofs.Common.{[], get_or}
use Rattle.lb_flat.specs.Inputs.{inputs_of}
use Rattle.lb_flat.specs.Values.{equation_of}
use Rattle.lb_flat.proofs.runs.Steps.{IsFilling}
use Rattle.lb_history.proofs.instant.compute.Given as goal

abbrev pub invariant-loop-i : goal.invariant-loop-i
invariant-loop-i l =
    IsFilling (equation_of l.clocks) (get_or (inputs_of l.at.set.now l.at.k) l.at.t []) l.row
    l.fn.row l.equations l.i
