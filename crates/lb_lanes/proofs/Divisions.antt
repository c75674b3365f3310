-- A quotient of two integers of 32 bits that can be divided fits 32 bits.
use Rattle.std.proofs.Common.{◌≡◌, ℕ, zero, suc, ◌<◌, ◌≤◌, ◌*◌, ◌/◌, ◌-◌, Bool, true, false, not}
use Rattle.std.proofs.Common.{◌&&◌, ℤ, pos, negsuc, neg_ℤ, refl, sym, ap₂, arith, w32, SFits, to_z}
use Rattle.std.proofs.Common.{of_z, subst, ◌⊎◌, inl, inr, cond}
use Rattle.std.proofs.Math.Nat.{div-le_self, div-mul-le_self, mul-le-mul_left, eq-or-lt_of_le}
use Rattle.std.specs.Int.RustNames.{int_div}
use Rattle.std.specs.Int.Signed.{mag}
use Rattle.std.specs.Ordering.{int_eq}
use Rattle.std.proofs.lemmas.Int.{to_z-of_z}
use Rattle.lb_lanes.specs.Operators.{can_divide}

mag-neg : (n : ℕ) → mag (neg_ℤ (pos n)) ≡ n - 1
mag-neg zero = refl
mag-neg (suc n) = omega arith

-- a quotient by 2 or more is less than the bound
halved : (a m : ℕ) → a ≤ 2147483648 → a / suc (suc m) < 2147483648
halved a m h =
    let whole = div-mul-le_self a (suc (suc m)) in
    let twice : a / suc (suc m) * 2 ≤ a / suc (suc m) * suc (suc m) =
    mul-le-mul_left (a / suc (suc m)) (omega arith) in
    omega (arith, whole, twice)

-- the least integer is not divided by -1
above_least : (a : ℕ) → a < 2147483648 → can_divide (negsuc a) (negsuc 0) ≡ true
    → suc a < 2147483648
unfolding can_divide
above_least a h e = by (eq-or-lt_of_le (omega arith))
  where
    by : (a ≡ 2147483647) ⊎ (a < 2147483647) → suc a < 2147483648
    by (inl same) = let f = subst (λ n. can_divide (negsuc n) (negsuc 0) ≡ true) same e in cc f
    by (inr lt) = omega arith

-- the quotient of two integers that can be divided fits 32 bits
pub quotient_fits : (a d : ℤ) → SFits w32 a → can_divide a d ≡ true → SFits w32 (int_div a d)
unfolding can_divide
quotient_fits (pos a) (pos b) f e = record { sfits = omega (arith, div-le_self a b, f.sfits) }
quotient_fits (pos a) (negsuc b) f e =
    record { sfits = omega (arith, mag-neg (a / suc b), div-le_self a (suc b), f.sfits) }
quotient_fits (negsuc a) (pos b) f e =
    record { sfits = omega (arith, mag-neg (suc a / b), div-le_self (suc a) b, f.sfits) }
quotient_fits (negsuc a) (negsuc zero) f e =
    record { sfits = omega (arith, div-le_self (suc a) 1, above_least a f.sfits e) }
quotient_fits (negsuc a) (negsuc (suc b)) f e =
    record { sfits = halved (suc a) b (omega (arith, f.sfits)) }

-- the word of a divisor is not 0, and the quotient of words fits 32 bits
pub divisor : (a d : ℤ) → SFits w32 d → can_divide a d ≡ true → 0 < of_z w32 d
unfolding can_divide
divisor a (pos zero) g e = cc
divisor a (pos (suc n)) g e = omega arith
divisor a (negsuc n) g e = omega (arith, g.sfits)

pub quotient_fits_words : (a d : ℤ) → SFits w32 a → SFits w32 d → can_divide a d ≡ true
    → SFits w32 (int_div (to_z w32 (of_z w32 a)) (to_z w32 (of_z w32 d)))
quotient_fits_words a d f g e =
    subst (SFits w32) (sym (ap₂ int_div (to_z-of_z w32 a f) (to_z-of_z w32 d g)))
    (quotient_fits a d f e)

one_divides : (a : ℤ) → can_divide a (pos 1) ≡ true
unfolding can_divide
one_divides a = by (int_eq a (negsuc 2147483647))
  where
    by : (b : Bool) → not (b && false) ≡ true
    by true = refl
    by false = refl

pub stand_in-can_divide : (t : Bool) (a b : ℤ) → (t ≡ true → can_divide a b ≡ true)
    → can_divide a (cond t b (pos 1)) ≡ true
stand_in-can_divide true a b h = h refl
stand_in-can_divide false a b h = one_divides a

pub stand_in-divided : (f : ℤ → ℤ → ℤ) (t : Bool) (a b : ℤ)
    → cond t (f a (cond t b (pos 1))) (pos 0) ≡ cond t (f a b) (pos 0)
stand_in-divided f true a b = refl
stand_in-divided f false a b = refl
