use Rattle.std.proofs.Common.{◌≡◌, ℕ, ◌<◌, ◌*ℤ◌}
use Rattle.lb_lanes.specs.Kernels.{bits_lane}
use Rattle.lb_lanes.proofs.word_products.multiply_wide.Given as goal

abbrev pub invariant-loop-i : goal.invariant-loop-i
invariant-loop-i l =
    l.look ≡ 0 → (i : ℕ) → i < l.i
    → bits_lane l.out i ≡ bits_lane l.a i *ℤ bits_lane l.b i
