use Rattle.lb_flat.proofs.{Words.{[], get_or, inputs_of, place_equation}, runs.Steps.IsFilling}
use Rattle.lb_flat.proofs.recorded.read_row.Given as goal

abbrev pub invariant-loop-i : goal.invariant-loop-i
invariant-loop-i l =
    IsFilling place_equation (get_or (inputs_of l.set l.k) l.t []) l.row l.fn.row l.inputs l.i
