use Rattle.lb_check.proofs.Words.{◌<◌, length, LeadsTo}
use Rattle.lb_check.proofs.clock.depth_of.Given as goal

abbrev pub invariant-loop-steps : goal.invariant-loop-steps
invariant-loop-steps l =
    (l.variable < length l.variables) × LeadsTo l.variables l.steps l.fn.first l.variable
