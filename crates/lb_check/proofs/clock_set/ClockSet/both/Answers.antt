use Rattle.lb_check.proofs.Words.{rules}
use Rattle.lb_check.proofs.clock_set.ClockSet.both.Goals as goal

pub returns-then-is_same : goal.returns-then-is_same
returns-then-is_same c = search rules

pub returns-else-is_same : goal.returns-else-is_same
returns-else-is_same c = search rules
