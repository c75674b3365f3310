use Rattle.lb_expand.proofs.Words.{◌≡◌, length}
use Rattle.lb_expand.proofs.cycle_places.Places.cycle.Given as goal

abbrev pub invariant-loop-element : goal.invariant-loop-element
invariant-loop-element l = length l.places.items ≡ l.element-index
