use Rattle.lb_check.proofs.Words.{◌≡◌, drop, clocks_of}
use Rattle.lb_check.specs.TermClocks as mirror
use Rattle.lb_check.proofs.call_clock.base_of.Given as goal

abbrev pub invariant-loop-i : goal.invariant-loop-i
invariant-loop-i l =
    mirror.base_of (clocks_of l.parameters) (mirror.clock_sets l.operands)
    ≡ mirror.base_of (clocks_of (drop l.i l.parameters)) (mirror.clock_sets (drop l.i l.operands))
