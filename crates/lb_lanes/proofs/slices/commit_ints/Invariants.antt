use Rattle.std.proofs.Common.{◌≡◌, ℕ, ◌<◌, ◌≤◌, get_or, []}
use Rattle.lb_lanes.specs.Correct.{IsBlend}
use Rattle.lb_lanes.proofs.slices.commit_ints.Given as goal

abbrev pub invariant-loop-k : goal.invariant-loop-k
invariant-loop-k l = record {
  done : (j : ℕ) → j < l.k
      → IsBlend l.mask.0 (get_or l.new j []) (get_or l.initial.old j []) (get_or l.old j []);
  rest : (j : ℕ) → l.k ≤ j → get_or l.old j [] ≡ get_or l.initial.old j [];
}
