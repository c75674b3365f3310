use Rattle.lb_worked.proofs.WorkedLevels.{are_levels}
use Rattle.lb_worked.proofs.levels.levels.Goals as goal

pub returns : goal.returns
returns c = are_levels
