use Rattle.lb_check.proofs.Words.{◌≡◌, ◌-◌, take, sum_by, TermType}
use Rattle.lb_check.proofs.found_types.NodeTypes.size.Given as goal

abbrev pub invariant-loop-term : goal.invariant-loop-term
invariant-loop-term l =
    l.left ≡ 65537 - sum_by (λ (t : TermType). t.elements) (take l.term-index l.term-items)
