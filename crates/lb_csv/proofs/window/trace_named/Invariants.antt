use Rattle.std.proofs.Common.{ℕ, ◌<◌, ◌≢◌}
use Rattle.lb_traces.specs.Traces.{trace_at}
use Rattle.lb_csv.proofs.window.trace_named.Given as goal

abbrev pub invariant-loop-k : goal.invariant-loop-k
invariant-loop-k l = (j : ℕ) → j < l.k → (trace_at l.set.traces j).0 ≢ l.name
