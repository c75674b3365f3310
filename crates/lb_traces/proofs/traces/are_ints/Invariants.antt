use Rattle.std.proofs.Common.{ℕ, ℤ, ◌<◌, get_or}
use Rattle.lb_traces.specs.Traces.{IsInt}
use Rattle.lb_traces.proofs.traces.are_ints.Given as goal

abbrev pub invariant-loop-v : goal.invariant-loop-v
invariant-loop-v l = (k : ℕ) (d : ℤ) → k < l.v-index → IsInt (get_or l.numbers k d)
