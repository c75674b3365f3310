use Rattle.std.proofs.Common.{ℕ, ◌≡◌, ◌+◌, ◌<◌, get_or}
use Rattle.lb_traces.proofs.row_columns.together_in.Given as goal

abbrev pub invariant-loop-k : goal.invariant-loop-k
invariant-loop-k l = (j : ℕ) → j < l.k → get_or l.columns j 0 ≡ get_or l.columns 0 0 + j
