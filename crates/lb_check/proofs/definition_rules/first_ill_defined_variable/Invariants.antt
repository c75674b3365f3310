use Rattle.lb_check.proofs.Words.{◌≡◌, ◌<◌, ℕ}
use Rattle.lb_check.specs.NodeDefinitions as mirror
use Rattle.lb_check.proofs.definition_rules.first_ill_defined_variable.Given as goal

abbrev pub invariant-loop-i : goal.invariant-loop-i
invariant-loop-i l =
    (k : ℕ) → k < l.i → mirror.count_statements k l.body ≡ mirror.wanted_count l.inputs k
