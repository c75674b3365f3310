use Rattle.lb_check.{proofs.Words.{VariableId, drop, list_all, ◌≡◌}, specs.StoredClocks.context_in}
use Rattle.lb_check.specs.TermClocks as mirror
use Rattle.lb_check.proofs.clock_rules.are_on.Given as goal

abbrev pub invariant-loop-left : goal.invariant-loop-left
invariant-loop-left l =
    let on = λ (x : VariableId). mirror.is_same l.clock ((context_in l.env).variable x) in
    list_all on l.lefts ≡ list_all on (drop l.left-index l.lefts)
