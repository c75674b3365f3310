use Rattle.lb_check.proofs.Words.{◌≡◌, ◌++◌, ◌-◌, length, ResolvedNode, given_from, given_in}
use Rattle.lb_check.specs.PlacedClocks.{AreAwaited}
use Rattle.lb_check.proofs.given_variables.given_where.Given as goal

abbrev pub invariant-loop-place : goal.invariant-loop-place
invariant-loop-place l =
    (n : ResolvedNode) → AreAwaited n l.awaited →
    given_from n (given_in l.given) 0 (length l.awaited)
    ≡ l.pairs.items ++ given_from n (given_in l.given) l.place (length l.awaited - l.place)
