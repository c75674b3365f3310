use Rattle.lb_check.proofs.Words.{◌+◌, ◌*◌, size-Term}
use Rattle.lb_cause.proofs.type_cause.+typings.Given as goal

abbrev pub decreases-typed_operands : goal.decreases-typed_operands
decreases-typed_operands l = 2 * size-Term l.site.term.now

abbrev pub decreases-typed_term : goal.decreases-typed_term
decreases-typed_term l = 2 * size-Term l.site.term.now + 1
