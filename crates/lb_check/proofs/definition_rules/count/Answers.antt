use Rattle.lb_check.proofs.Words.{arith}
use Rattle.{std.proofs.lemmas.Grind.common_steps, lb_check.proofs.definitions.Defining.count_next}
use Rattle.lb_check.proofs.definition_rules.count.Goals as goal

pub loop-x-preserved : goal.loop-x-preserved
loop-x-preserved c = grind (arith, common_steps, count_next)
