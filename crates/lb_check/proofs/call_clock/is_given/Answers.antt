use Rattle.lb_check.proofs.Words.{rules}
use Rattle.lb_check.proofs.call_clock.is_given.Goals as goal

pub returns-else-place-inputs : goal.returns-else-place-inputs
returns-else-place-inputs c = search rules
