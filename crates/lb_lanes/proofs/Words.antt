-- One word as the integer of its bits, through each operation.
use Rattle.std.proofs.Common.{◌≡◌, ℕ, ◌<◌, ◌≤◌, ◌+◌, ◌%◌, ◌^◌, Bool, true, false, not, ℤ, pos}
use Rattle.std.proofs.Common.{negsuc, ◌-ℤ◌, neg_ℤ, ◌/◌, ◌-◌, suc, nat_eq}
use Rattle.std.proofs.Common.{refl, sym, ap, ◌∙◌, arith, w32, w64, leb, ltb, leb→le, SFits, to_z}
use Rattle.std.proofs.Math.Bool.{and-true}
use Rattle.std.specs.Int.Signed.{nat_abs-le}
use Rattle.std.specs.Int.RustNames.{unsigned_abs}
use mir.Val.{sel}
use Rattle.std.proofs.lemmas.Int.{ints}
use Rattle.std.proofs.lemmas.Float.{T_from_true}
use Rattle.lb_lanes.specs.Operators.{is_int}

below : (n : ℕ) → leb n 2147483647 ≡ true → n < 2147483648
below n e = let h = leb→le n 2147483647 (T_from_true (leb n 2147483647) e) in omega (arith, h)

-- an integer in the range of `int` fits 32 bits
pub fits_int : (v : ℤ) → is_int v ≡ true → SFits w32 v
unfolding is_int
fits_int (pos n) e = record { sfits = below n e }
fits_int (negsuc n) e = record { sfits = below n (sym (and-true (leb n 2147483647)) ∙ e) }

-- an integer that fits 32 bits is in the range of `int`
pub int_fits : (v : ℤ) → SFits w32 v → is_int v ≡ true
unfolding is_int
int_fits (pos n) f = let h = f.sfits in grind arith
int_fits (negsuc n) f = let h = f.sfits in grind arith

pub abs_int : (v : ℤ) → SFits w32 v → unsigned_abs v ≤ 2147483648
abs_int v f = nat_abs-le v f.sfits

pub zero_minus : (a : ℤ) → pos 0 -ℤ a ≡ neg_ℤ a
zero_minus a = omega (arith, ints)

-- the test of a word for the range of `int`
abbrev pub outside_word : ℕ → Bool
outside_word n = not (nat_eq ((n + 2147483648) % 18446744073709551616 / 4294967296) 0)

in_low : (n : ℕ) → n < 2 ^ 64 → ltb n 9223372036854775808 ≡ true
    → nat_eq ((n + 2147483648) % 18446744073709551616 / 4294967296) 0 ≡ leb n 2147483647
in_low n h e = grind arith

in_high : (n : ℕ) → n < 2 ^ 64 → ltb n 9223372036854775808 ≡ false
    → nat_eq ((n + 2147483648) % 18446744073709551616 / 4294967296) 0
    ≡ leb (18446744073709551616 - suc n) 2147483647
in_high n h e = grind arith

by_half : (n : ℕ) → n < 2 ^ 64 → (b : Bool) → ltb n 9223372036854775808 ≡ b
    → nat_eq ((n + 2147483648) % 18446744073709551616 / 4294967296) 0
    ≡ is_int (sel b (pos n) (negsuc (18446744073709551616 - suc n)))
unfolding is_int
by_half n h true e = in_low n h e
by_half n h false e = in_high n h e ∙ sym (and-true (leb (18446744073709551616 - suc n) 2147483647))

pub outside_is : (n : ℕ) → n < 2 ^ 64 → outside_word n ≡ not (is_int (to_z w64 n))
outside_is n h = ap not (by_half n h (ltb n 9223372036854775808) refl)
