use Rattle.lb_check.proofs.Words.{rules}
use Rattle.lb_check.proofs.term_clock.row_clock_set.Goals as goal

pub returns-in_default-callee : goal.returns-in_default-callee
returns-in_default-callee c = search rules
