-- At most 18 digits spell a number of 64 bits.
use Rattle.std.proofs.Common.{arith, ℕ, ◌<◌, ◌≤◌, ◌^◌}
use Rattle.std.proofs.Math.Nat.{pow-le-pow_right}
use Rattle.lb_trace.proofs.cells.natural_of.Goals as goal

below : (n i : ℕ) → n < 10 ^ i → i < 18 → n < 10 ^ 17
below n i small at =
    let some : 0 < 10 = omega arith in
    let place : i ≤ 17 = omega arith in
    let power : 10 ^ i ≤ 10 ^ 17 = pow-le-pow_right some place in omega arith

pub overflow_mul-n : goal.overflow_mul-n
overflow_mul-n c = omega (
  arith,
  below c.loop-digit.n c.loop-digit.digit-index c.loop-digit.invariant.small
      (omega arith),
)

pub overflow_add-n : goal.overflow_add-n
overflow_add-n c = omega (
  arith,
  c.from.ensures,
  below c.loop-digit.n c.loop-digit.digit-index
      c.loop-digit.invariant.small (omega arith),
)
