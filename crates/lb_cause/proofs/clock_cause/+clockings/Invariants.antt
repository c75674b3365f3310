use Rattle.lb_check.proofs.Words.{◌+◌, ◌*◌, size-Term}
use Rattle.lb_cause.proofs.clock_cause.+clockings.Given as goal

abbrev pub decreases-clocked_operands : goal.decreases-clocked_operands
decreases-clocked_operands l = 2 * size-Term l.site.term.now

abbrev pub decreases-clocked_term : goal.decreases-clocked_term
decreases-clocked_term l = 2 * size-Term l.site.term.now + 1
