use Rattle.lb_check.proofs.Words.{ℕ, ◌<◌, AreDepths, IsKnown}
use Rattle.lb_check.proofs.clock.first_in_circle.Given as goal

abbrev pub invariant-loop-variable : goal.invariant-loop-variable
invariant-loop-variable l =
    AreDepths l.variables l.depths.items × ((x : ℕ) → x < l.variable → IsKnown l.depths.items x)
