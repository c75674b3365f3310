use Rattle.lb_check.proofs.Words.{size-Term}
use Rattle.lb_cause.proofs.definition_cause.+memory_of.Given as goal

abbrev pub decreases-memory_of : goal.decreases-memory_of
decreases-memory_of l = size-Term l.site.term.now
