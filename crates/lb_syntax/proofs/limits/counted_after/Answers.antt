use Rattle.std.proofs.Common.{arith}
use Rattle.std.proofs.lemmas.Grind.{common_steps}
use Rattle.lb_syntax.proofs.limits.counted_after.Goals as goal

pub returns-else-counted-le-MAX_COUNTED-clause-value :
    goal.returns-else-counted-le-MAX_COUNTED-clause-value
returns-else-counted-le-MAX_COUNTED-clause-value c = grind (arith, common_steps)
