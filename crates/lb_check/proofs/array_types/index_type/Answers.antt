use Rattle.lb_check.proofs.{Words.arith, typing.TypeRows.outermost}
use Rattle.lb_check.proofs.array_types.index_type.Goals as goal

pub returns-then-index-size : goal.returns-then-index-size
returns-then-index-size c = grind (arith, outermost)
