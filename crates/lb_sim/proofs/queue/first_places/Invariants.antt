use Rattle.std.proofs.Common.{◌≡◌, ℕ, ◌<◌, length, get_or}
use Rattle.lb_sim.proofs.queue.first_places.Given as goal

abbrev pub invariant-loop-i : goal.invariant-loop-i
invariant-loop-i l =
    (length l.places ≡ 64) × ((j : ℕ) → j < l.i → get_or l.places j 0 ≡ j)
