use Rattle.lb_check.proofs.Words.{◌≡◌, ◌<◌, ℕ, false, drop, get_or, length, ◌||◌}
use Rattle.lb_check.proofs.clocking.GivenVariables.{is_waited}
use Rattle.lb_check.proofs.given_variables.awaited_parameters.Given as goal

abbrev pub invariant-loop-variable : goal.invariant-loop-variable
invariant-loop-variable l =
    (length l.awaited.items ≡ length l.parameters)
    × ((i : ℕ) → i < length l.awaited.items → is_waited i l.parameters
    ≡ (is_waited i (drop l.variable-index l.parameters) || get_or l.awaited.items i false))
