use Rattle.std.proofs.Common.{◌≡◌, ◌<◌, ℕ, get_or, length, pos}
use Rattle.lb_traces.proofs.narrow_numbers.cells_of.Given as goal

abbrev pub invariant-loop-i : goal.invariant-loop-i
invariant-loop-i l = record {
  same : (k : ℕ) → k < l.i → get_or l.cells k (pos 0) ≡ get_or l.numbers k (pos 0);
  long : length l.cells ≡ 64;
}
