use Rattle.lb_check.{proofs.Words.{drop, ◌++◌, ◌≡◌}, specs.StoredClocks.context_in}
use Rattle.lb_check.specs.TermClocks as mirror
use Rattle.lb_check.proofs.call_clock.left_operands.Given as goal

abbrev pub invariant-loop-left : goal.invariant-loop-left
invariant-loop-left l =
    let ctx = context_in l.env in
    mirror.left_clock_sets ctx l.lefts
    ≡ mirror.clock_sets l.results.items ++ mirror.left_clock_sets ctx (drop l.left-index l.lefts)
