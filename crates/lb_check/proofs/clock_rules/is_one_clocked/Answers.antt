use Rattle.lb_check.proofs.Words.{rules}
use Rattle.lb_check.proofs.clock_rules.is_one_clocked.Goals as goal

pub returns-then-accepts_clock : goal.returns-then-accepts_clock
returns-then-accepts_clock c = search rules
