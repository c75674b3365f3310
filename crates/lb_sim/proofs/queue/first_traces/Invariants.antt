use Rattle.std.proofs.Common.{◌≡◌, ℕ, ◌<◌, length, get_or}
use Rattle.lb_sim.proofs.queue.first_traces.Given as goal

abbrev pub invariant-loop-i : goal.invariant-loop-i
invariant-loop-i l =
    (length l.traces ≡ 64)
    × ((j : ℕ) → j < l.i → get_or l.traces j 0 < length l.queue.set.now.traces)
    × ((j : ℕ) → j < l.i → j < length l.queue.members.now
    → get_or l.traces j 0 ≡ get_or l.queue.members.now j 0)
