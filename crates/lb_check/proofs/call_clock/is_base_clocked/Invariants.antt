use Rattle.lb_check.proofs.Words.{◌≡◌, drop, not, is_some, list_all}
use Rattle.lb_check.specs.TermClocks as mirror
use Rattle.lb_check.proofs.call_clock.is_base_clocked.Given as goal

abbrev pub invariant-loop-variable : goal.invariant-loop-variable
invariant-loop-variable l =
    mirror.is_base_clocked l.node ≡ list_all (λ v. not (is_some v.clock))
    (drop l.variable-index l.variable-items)
