use Rattle.lb_check.proofs.Words.{◌≡◌, drop}
use Rattle.lb_check.specs.TermClocks as mirror
use Rattle.lb_check.proofs.clock_set.together.Given as goal

abbrev pub invariant-loop-operand : goal.invariant-loop-operand
invariant-loop-operand l =
    mirror.together l.operands ≡ mirror.both l.clock_set
    (mirror.together (drop l.operand-index l.operands))
