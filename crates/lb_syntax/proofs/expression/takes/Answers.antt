use Rattle.std.proofs.Common.{arith}
use Rattle.std.proofs.lemmas.Grind.{common_steps}
use Rattle.lb_syntax.specs.Reading.{takes}
use Rattle.lb_syntax.proofs.expression.takes.Goals as goal

pub returns-then-row-level : goal.returns-then-row-level
unfolding takes
returns-then-row-level c = grind (arith, common_steps)

pub returns-else-row-level : goal.returns-else-row-level
unfolding takes
returns-else-row-level c = grind (arith, common_steps)
