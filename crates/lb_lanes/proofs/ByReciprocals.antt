-- A product with a reciprocal, shifted down, is the quotient.
use Rattle.std.proofs.Common.{◌≡◌, ℕ, suc, ◌+◌, ◌-◌, ◌*◌, ◌/◌, ◌%◌, ◌^◌, ◌<◌, ◌≤◌, ◌⊎◌, inl, inr}
use Rattle.std.proofs.Common.{ap, arith}
use Rattle.std.proofs.Math.Nat.{mul-le-mul_left, div-mul-le_self, div-eq_of_lt-le}
use Rattle.std.proofs.lemmas.Nat.{mul-le, div-add-mod', mod_below, pow-add, pow_pos, div_below}
use Rattle.std.proofs.lemmas.Bool.{cases_lt}
use Rattle.lb_lanes.specs.Reciprocals.{IsReciprocal}

-- with p for 2 ^ shift, q for the quotient and r for the remainder
low : (d factor p n q : ℕ) → p ≤ factor * d → q * d ≤ n → q * p ≤ n * factor
low d factor p n q reaches le =
    let above = mul-le (q * d) factor n factor le (omega arith) in
    omega (arith, mul-le-mul_left q reaches, above)

none_beyond : (d factor p n q r : ℕ) → factor * d < p + d → 2147483648 * d ≤ p → 0 < d
    → n ≤ 2147483648 → q * d + r ≡ n → r < d → (q + 1) * p ≤ n * factor → ⊥
none_beyond d factor p n q r below close positive small is rest beyond =
    let whole : d * ((q + 1) * p) ≤ d * (n * factor) = mul-le-mul_left d beyond in
    let each : n * suc (factor * d) ≤ n * (p + d) = mul-le-mul_left n below in
    let top : d * n ≤ d * 2147483648 = mul-le-mul_left d small in
    let part : p * suc r ≤ p * d = mul-le-mul_left p rest in
    let split : (q * d + r) * p ≡ n * p = ap (λ k. k * p) is in
    let zero_n : n ≡ 0 = omega (arith, whole, each, top, part, split, close) in
    let no_part : n * factor ≡ 0 * factor = ap (λ k. k * factor) zero_n in
    omega (arith, beyond, no_part, close, positive)

high : (d factor p n q r : ℕ) → factor * d < p + d → 2147483648 * d ≤ p → 0 < d
    → n ≤ 2147483648 → q * d + r ≡ n → r < d → n * factor < (q + 1) * p
high d factor p n q r below close positive small is rest =
    by (cases_lt (n * factor) ((q + 1) * p))
  where
    by : (n * factor < (q + 1) * p) ⊎ ((q + 1) * p ≤ n * factor) → n * factor < (q + 1) * p
    by (inl lt) = lt
    by (inr le) =
        absurd (none_beyond d factor p n q r below close positive small is rest le)

pub quotient_by : (d factor shift n : ℕ) → IsReciprocal d factor shift → n ≤ 2147483648
    → (n * factor) / 2 ^ shift ≡ n / d
quotient_by d factor shift n r small =
    let is = div-add-mod' n d in
    let rest = mod_below n d r.divisor in
    div-eq_of_lt-le (2 ^ shift)
    (low d factor (2 ^ shift) n (n / d) r.reaches (div-mul-le_self n d))
    (high d factor (2 ^ shift) n (n / d) (n % d) r.below r.close r.divisor small is rest)

-- the multiplier and the shift that the code forms are a reciprocal of the divisor
pub reciprocal_of : (d l : ℕ) → 2 ^ l < d → d < 2 * 2 ^ l → l < 32
    → IsReciprocal d ((2 ^ (32 + l) - 1) / d + 1) (32 + l)
reciprocal_of d l least most short =
    let top : 2 ^ (32 + l) ≡ 4294967296 * 2 ^ l = pow-add 2 32 l in
    let p = 2 ^ (32 + l) in
    let some : 0 < p = pow_pos (32 + l) in
    let m = p - 1 in
    let is = div-add-mod' m d in
    let positive : 0 < d = omega (arith, least) in
    let rest = mod_below m d positive in
    record {
      divisor = positive;
      below = omega (arith, div-mul-le_self m d, some);
      reaches = omega (arith, is, rest, some);
      close = omega (arith, top, most);
      short = omega (arith, short);
    }

pub factor_fits : (d l : ℕ) → 2 ^ l < d → d ≤ 2147483648
    → (2 ^ (32 + l) - 1) / d + 1 < 4294967296
factor_fits d l least bound =
    let top : 2 ^ (32 + l) ≡ 4294967296 * 2 ^ l = pow-add 2 32 l in
    let less : (2 ^ (32 + l) - 1) / d < 4294967295
    = div_below (2 ^ (32 + l) - 1) d 4294967295 (omega (arith, least))
    (omega (arith, top, least, bound, pow_pos (32 + l))) in
    omega (arith, less)
