use Rattle.lb_flat.proofs.{Words.program_of, runs.Evaluating.IsEvaluating}
use Rattle.lb_flat.proofs.evaluate.run.Given as goal

abbrev pub invariant-loop-t : goal.invariant-loop-t
invariant-loop-t g l =
    IsEvaluating (program_of l.program) (g.I.Instants.rows l.trace) l.program.clocks.items
    l.inputs l.memories l.steps l.row l.t
