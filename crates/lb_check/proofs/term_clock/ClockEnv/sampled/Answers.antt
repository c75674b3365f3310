use Rattle.lb_check.proofs.Words.{rules}
use Rattle.lb_check.proofs.term_clock.ClockEnv.sampled.Goals as goal

pub returns-then-accepts_clock : goal.returns-then-accepts_clock
returns-then-accepts_clock c = search rules
