use Rattle.lb_static.specs.StaticValues.{natural}
use Rattle.lb_static.proofs.Options.{IsSoFar}
use Rattle.lb_static.proofs.data_type.naturals.Given as goal

abbrev pub invariant-loop-value : goal.invariant-loop-value
invariant-loop-value l = IsSoFar natural l.numbers.items l.values l.value-index
