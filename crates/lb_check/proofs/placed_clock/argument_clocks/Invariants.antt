use Rattle.lb_check.proofs.Words.{◌≡◌, ◌++◌, map, drop, either_or, Variable, given_in, Some}
use Rattle.lb_check.specs.TermClocks as mirror
use Rattle.lb_check.proofs.placed_clock.argument_clocks.Given as goal

abbrev pub invariant-loop-input : goal.invariant-loop-input
invariant-loop-input l =
    let f = λ (v : Variable).
    either_or (mirror.expected (Some l.base) (given_in l.given) v.clock) l.base in
    map f l.input-items ≡ l.clocks.items ++ map f (drop l.input-index l.input-items)
