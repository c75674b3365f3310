-- Division by a multiplication: a reciprocal of a divisor in whole numbers.
use Rattle.std.specs.Prelude.{ℕ, ◌+◌, ◌*◌, ◌<◌, ◌≤◌, ◌^◌, Bool, true, false, ℤ, pos, negsuc}

-- `factor / 2 ^ shift` is `1 / d` rounded up, closely enough for each number up to 2 ^ 31
pub record IsReciprocal (d factor shift : ℕ) : Type 0 where
  pub divisor : 0 < d
  pub below : factor * d < 2 ^ shift + d
  pub reaches : 2 ^ shift ≤ factor * d
  pub close : 2147483648 * d ≤ 2 ^ shift
  pub short : shift < 64

-- whether an integer is below 0
abbrev pub is_below_zero : ℤ → Bool
is_below_zero (pos n) = false
is_below_zero (negsuc n) = true
