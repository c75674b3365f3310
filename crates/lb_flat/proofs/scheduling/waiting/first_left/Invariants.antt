use Rattle.lb_flat.proofs.Words.{◌≡◌, drop, first_left, numbers_of}
use Rattle.lb_flat.proofs.scheduling.waiting.first_left.Given as goal

abbrev pub invariant-loop-a : goal.invariant-loop-a
invariant-loop-a l =
    first_left l.done (numbers_of (drop l.a-index l.elements))
    ≡ first_left l.done (numbers_of l.elements)
