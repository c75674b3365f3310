use Rattle.lb_check.proofs.{Words.arith, typing.TypeRows.outermost}
use Rattle.lb_check.proofs.array_types.array_of.Goals as goal

pub returns : goal.returns
returns c = grind (arith, outermost)
