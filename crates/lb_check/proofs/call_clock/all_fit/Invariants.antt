use Rattle.lb_check.proofs.Words.{◌≡◌, drop, clocks_of, given_in}
use Rattle.lb_check.specs.TermClocks as mirror
use Rattle.lb_check.proofs.call_clock.all_fit.Given as goal

abbrev pub invariant-loop-i : goal.invariant-loop-i
invariant-loop-i l =
    let fit = mirror.all_fit l.base (given_in l.given) in
    fit (clocks_of l.parameters) (mirror.clock_sets l.operands)
    ≡ fit (clocks_of (drop l.i l.parameters)) (mirror.clock_sets (drop l.i l.operands))
