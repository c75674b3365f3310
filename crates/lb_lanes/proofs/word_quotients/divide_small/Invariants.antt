use Rattle.std.proofs.Common.{◌≡◌, ℕ, ◌<◌, ◌==◌, true, pos, cond, get_or}
use Rattle.lb_lanes.specs.Kernels.{bits_lane}
use Rattle.lb_lanes.specs.Operators.{can_divide}
use Rattle.lb_lanes.proofs.word_quotients.divide_small.Given as goal

abbrev pub invariant-loop-i : goal.invariant-loop-i
invariant-loop-i g l = record {
  sure : l.union ≡ 0 → (i : ℕ) → i < l.i → get_or l.doubts i 0 ≡ 0;
  divisible : (i : ℕ) → i < l.i → (get_or l.doubts i 0 == 0) ≡ true
      → can_divide (bits_lane l.a i) (bits_lane l.b i) ≡ true;
  values : (i : ℕ) → i < l.i → bits_lane l.out i ≡ cond (get_or l.doubts i 0 == 0)
      (g.K.Division.divided (bits_lane l.a i) (bits_lane l.b i)) (pos 0);
}
