use Rattle.std.proofs.Common.{◌<◌, ℕ, length, get_or}
use Rattle.lb_core_tests.proofs.batches.are_members.Given as goal

abbrev pub invariant-loop-i : goal.invariant-loop-i
invariant-loop-i l = (k : ℕ) → k < l.i → (d : ℕ) → get_or l.numbers k d < length l.set.traces
