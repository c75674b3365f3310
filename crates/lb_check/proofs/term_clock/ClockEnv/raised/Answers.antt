use Rattle.lb_check.proofs.Words.{rules, context_of}
use Rattle.lb_check.proofs.term_clock.ClockEnv.raised.Goals as goal

pub returns-in-Some : goal.returns-in-Some
unfolding context_of
returns-in-Some c = search rules
