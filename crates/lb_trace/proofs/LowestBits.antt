-- The lowest bit of a number that is set.
use Rattle.std.proofs.Common.{ℕ, zero, suc, ◌≡◌, ◌-◌, ◌/◌, ◌%◌, ◌^◌, ◌<◌, ◌≤◌, min, sym}
use Rattle.std.proofs.Common.{ap, ap₂, ◌∙◌, arith}
use Rattle.std.proofs.lemmas.Nat.Bits.{bit_at-suc, bit_at-trailing_zeros, bit_at_and}
use Rattle.std.proofs.lemmas.Nat.Bits.{bit_at_lowest}
use Rattle.std.specs.Int.{bit_at, w64}
use lib.Bits.{bit_and}
use lib.Count.{count_trailing_zeros}
use Rattle.lb_trace.specs.Numbers.{IsLowest}

min-self : (x : ℕ) → min x x ≡ x
min-self x = omega arith

-- a number without its lowest bit has no bit up to the place of that bit
pub lowest-gone : (n t i : ℕ) → bit_at n t ≡ 1 → ((k : ℕ) → k < t → bit_at n k ≡ 0) → i ≤ t
    → bit_at (bit_and n (n - 1)) i ≡ 0
lowest-gone n zero zero set below le =
    let odd : n % 2 ≡ 1 = sym (bit_at_lowest n) ∙ set in
    let less : bit_at (n - 1) 0 ≡ 0 = bit_at_lowest (n - 1) ∙ omega (arith, odd) in
    bit_at_and n (n - 1) 0 ∙ omega (arith, less)
lowest-gone n zero (suc i) set below le = absurd (omega (arith, le))
lowest-gone n (suc t) zero set below le =
    let none : bit_at n 0 ≡ 0 = below 0 (omega arith) in
    bit_at_and n (n - 1) 0 ∙ omega (arith, none)
lowest-gone n (suc t) (suc i) set below le =
    let even : n % 2 ≡ 0 = sym (bit_at_lowest n) ∙ below 0 (omega arith) in
    let half : (n - 1) / 2 ≡ n / 2 - 1 = omega (arith, even) in
    bit_at_and n (n - 1) (suc i)
    ∙ ap₂ min (bit_at-suc n i) (bit_at-suc (n - 1) i ∙ ap (λ m. bit_at m i) half)
    ∙ sym (bit_at_and (n / 2) (n / 2 - 1) i)
    ∙ lowest-gone (n / 2) t i (sym (bit_at-suc n t) ∙ set)
    (λ k l. sym (bit_at-suc n k) ∙ below (suc k) (omega (arith, l))) (omega (arith, le))

-- a number without its lowest bit has all bits above that bit
pub lowest-kept : (n t i : ℕ) → bit_at n t ≡ 1 → ((k : ℕ) → k < t → bit_at n k ≡ 0) → t < i
    → bit_at (bit_and n (n - 1)) i ≡ bit_at n i
lowest-kept n zero zero set below above = absurd (omega (arith, above))
lowest-kept n zero (suc i) set below above =
    let odd : n % 2 ≡ 1 = sym (bit_at_lowest n) ∙ set in
    let half : (n - 1) / 2 ≡ n / 2 = omega (arith, odd) in
    bit_at_and n (n - 1) (suc i)
    ∙ ap₂ min (bit_at-suc n i) (bit_at-suc (n - 1) i ∙ ap (λ m. bit_at m i) half)
    ∙ min-self (bit_at (n / 2) i) ∙ sym (bit_at-suc n i)
lowest-kept n (suc t) zero set below above = absurd (omega (arith, above))
lowest-kept n (suc t) (suc i) set below above =
    let even : n % 2 ≡ 0 = sym (bit_at_lowest n) ∙ below 0 (omega arith) in
    let half : (n - 1) / 2 ≡ n / 2 - 1 = omega (arith, even) in
    bit_at_and n (n - 1) (suc i)
    ∙ ap₂ min (bit_at-suc n i) (bit_at-suc (n - 1) i ∙ ap (λ m. bit_at m i) half)
    ∙ sym (bit_at_and (n / 2) (n / 2 - 1) i)
    ∙ lowest-kept (n / 2) t i (sym (bit_at-suc n t) ∙ set)
    (λ k l. sym (bit_at-suc n k) ∙ below (suc k) (omega (arith, l))) (omega (arith, above))
    ∙ sym (bit_at-suc n i)

-- the zeros at the low end give the lowest bit, and `bits` and `bits - 1` have the others in common
pub lowest : (bits : ℕ) → 0 < bits → bits < 2 ^ 64
    → IsLowest bits (count_trailing_zeros 64 bits) (bit_and bits (bits - 1))
lowest bits some fits =
    let found = bit_at-trailing_zeros w64 bits some fits in
    record {
      set = found.1;
      below = found.2;
      gone = λ i le. lowest-gone _ _ _ found.1 found.2 le;
      kept = λ i above. lowest-kept _ _ _ found.1 found.2 above;
    }
