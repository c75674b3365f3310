use Rattle.lb_check.proofs.Words.{rules}
use Rattle.lb_check.proofs.operand_types.when_truth.Goals as goal

pub returns-else-is_truth : goal.returns-else-is_truth
returns-else-is_truth c = search rules
