-- Quotients and remainders of words of 32 bits as integers.
use Rattle.std.proofs.Common.{◌≡◌, ℕ, zero, suc, ◌+◌, ◌-◌, ◌*◌, ◌/◌, ◌%◌, ◌^◌, ◌<◌, ◌≤◌, Bool, true}
use Rattle.std.proofs.Common.{false}
use Rattle.std.proofs.Common.{ℤ, pos, negsuc, neg_ℤ, ◌+ℤ◌, ◌-ℤ◌, ◌*ℤ◌, refl, ap}
use Rattle.std.proofs.Common.{◌∙◌, arith, w32, SFits, to_z}
use Rattle.std.specs.Int.{int_wrap}
use Rattle.std.specs.Int.RustNames.{int_div, int_rem, unsigned_abs}
use Rattle.std.proofs.lemmas.Int.{ints, to_z_pos, wrapping_sub-bits, wrapping_mul-bits}
use Rattle.std.proofs.lemmas.Int.{int_wrap-sub_right, int_wrap_fits, quot-rem, rem_below}
use Rattle.std.proofs.lemmas.Int.{fits_signed_from_abs}
use Rattle.std.proofs.Math.Facts.{to_z-neg}
use Rattle.lb_lanes.specs.Operators.{can_divide}
use Rattle.lb_lanes.specs.Planes.{differ}
use Rattle.lb_lanes.specs.Reciprocals.{is_below_zero}
use Rattle.lb_lanes.proofs.Checks.{passed, passed_is}
use Rattle.lb_lanes.proofs.WordViews.{word_is_int}
use Rattle.lb_lanes.proofs.Words.{fits_int, abs_int}

-- a quotient by its sign and its size
pub signed_by : Bool → ℕ → ℤ
signed_by true n = neg_ℤ (pos n)
signed_by false n = pos n

pub quotient_signed : (v d : ℤ)
    → int_div v d
    ≡ signed_by (differ (is_below_zero v) (is_below_zero d)) (unsigned_abs v / unsigned_abs d)
unfolding signed_by
quotient_signed (pos a) (pos b) = refl
quotient_signed (pos a) (negsuc b) = refl
quotient_signed (negsuc a) (pos b) = refl
quotient_signed (negsuc a) (negsuc b) = refl

negated : (n : ℕ) → n ≤ 2147483648
    → to_z w32 ((0 + (4294967296 - n)) % 4294967296) ≡ neg_ℤ (pos n)
negated zero h = refl
negated (suc k) h =
    let same : (0 + (4294967296 - suc k)) % 4294967296 ≡ 4294967296 - suc k = omega arith in
    ap (to_z w32) same ∙ to_z-neg w32 k h

-- the negated word of a size that fits is the negative integer
pub word_negated : (n : ℕ) → n ≤ 2147483648
    → to_z w32 ((0 + (4294967296 - n)) % 4294967296) ≡ signed_by true n
unfolding signed_by
word_negated n h = negated n h

pub word_same : (n : ℕ) → SFits w32 (signed_by false n) → to_z w32 n ≡ signed_by false n
unfolding signed_by
word_same n f = to_z_pos w32 n f.sfits

-- the remainder, computed from the quotient
minus_of : (p r a : ℤ) → p +ℤ r ≡ a → a -ℤ p ≡ r
minus_of p r a e = omega (arith, ints, e)

rem_fits : (a d : ℤ) → 0 < unsigned_abs d → unsigned_abs d ≤ 2147483648 → SFits w32 (int_rem a d)
rem_fits a d positive small =
    fits_signed_from_abs w32 (int_rem a d) (omega (arith, rem_below a d positive, small))

pub remainder_word : (x q d : ℕ) → x < 2 ^ 32 → q < 2 ^ 32 → d < 2 ^ 32
    → 0 < unsigned_abs (to_z w32 d) → unsigned_abs (to_z w32 d) ≤ 2147483648
    → to_z w32 q ≡ int_div (to_z w32 x) (to_z w32 d)
    → to_z w32 ((x + (4294967296 - (q * d) % 4294967296)) % 4294967296)
    ≡ int_rem (to_z w32 x) (to_z w32 d)
remainder_word x q d hx hq hd positive small is =
    let a = to_z w32 x in
    let b = to_z w32 d in
    let w = (q * d) % 4294967296 in
    let hw : w < 2 ^ 32 = omega arith in
    wrapping_sub-bits w32 x w hx hw
    ∙ ap (λ v. int_wrap w32 (a -ℤ v)) (wrapping_mul-bits w32 q d hq hd)
    ∙ int_wrap-sub_right w32 a (to_z w32 q *ℤ b)
    ∙ ap (λ v. int_wrap w32 (a -ℤ (v *ℤ b))) is
    ∙ ap (int_wrap w32) (minus_of (int_div a b *ℤ b) (int_rem a b) a (quot-rem a b))
    ∙ int_wrap_fits w32 (int_rem a b) (rem_fits a b positive small)

-- the size of a divisor is not 0, where the two can be divided
pub abs_positive : (a d : ℤ) → can_divide a d ≡ true → 0 < unsigned_abs d
unfolding can_divide
abs_positive a (pos zero) e = cc
abs_positive a (pos (suc n)) e = omega arith
abs_positive a (negsuc n) e = omega arith

pub abs_small : (d : ℕ) → unsigned_abs (to_z w32 d) ≤ 2147483648
abs_small d = abs_int _ (fits_int _ (word_is_int d))

-- the size of a word's integer, after the casts
pub abs_of : (x n : ℕ) (v : ℤ) → SFits w32 v → v ≡ to_z w32 x → n ≡ unsigned_abs (passed v)
    → n ≡ unsigned_abs (to_z w32 x)
abs_of x n v f e is = is ∙ ap unsigned_abs (passed_is v (to_z w32 x) f e)
