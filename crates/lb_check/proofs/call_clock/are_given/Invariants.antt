use Rattle.lb_check.proofs.Words.{◌≡◌, drop, list_all}
use Rattle.lb_check.specs.TermClocks as mirror
use Rattle.lb_check.proofs.call_clock.are_given.Given as goal

abbrev pub invariant-loop-variable : goal.invariant-loop-variable
invariant-loop-variable l =
    mirror.are_given l.callee l.operands
    ≡ list_all (λ v. mirror.is_given l.callee.inputs l.operands v.clock)
    (drop l.variable-index l.variable-items)
