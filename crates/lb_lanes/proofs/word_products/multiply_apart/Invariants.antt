use Rattle.std.proofs.Common.{◌≡◌, ℕ, ◌<◌, ◌≤◌, ◌==◌, ◌*ℤ◌, get_or, true}
use Rattle.lb_lanes.specs.Kernels.{bits_lane}
use Rattle.lb_lanes.specs.Operators.{is_int}
use Rattle.lb_lanes.proofs.word_products.multiply_apart.Given as goal

abbrev pub invariant-loop-i : goal.invariant-loop-i
invariant-loop-i l = record {
  values : (i : ℕ) → i < l.i
      → is_int (bits_lane l.initial.lanes i *ℤ bits_lane l.by i) ≡ true
      → bits_lane l.lanes i ≡ bits_lane l.initial.lanes i *ℤ bits_lane l.by i;
  beyond : (i : ℕ) → i < l.i
      → (get_or l.beyond i 0 == 0) ≡ is_int (bits_lane l.initial.lanes i *ℤ bits_lane l.by i);
  rest : (i : ℕ) → l.i ≤ i → get_or l.lanes i 0 ≡ get_or l.initial.lanes i 0;
}
