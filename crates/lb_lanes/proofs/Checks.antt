-- Signed numbers through calls, and divisors that divide each integer.
use Rattle.std.proofs.Common.{◌≡◌, Bool, true, false, not, ◌&&◌, ℤ, pos, negsuc, refl, ap₂, ◌∙◌}
use Rattle.std.proofs.Common.{w32}
use Rattle.std.proofs.Common.{SFits, to_z, of_z}
use Rattle.std.specs.Cmp.{signed_Decides}
use Rattle.std.specs.Ordering.{int_eq}
use Rattle.std.proofs.lemmas.Int.{to_z-of_z}
use Rattle.lb_lanes.specs.Operators.{can_divide}

-- a signed number, after the casts of a call
abbrev pub passed : ℤ → ℤ
passed v = to_z w32 (of_z w32 v)

pub passed_is : (v z : ℤ) → SFits w32 v → v ≡ z → passed v ≡ z
passed_is v z f e = to_z-of_z w32 v f ∙ e

not_and_false : (b : Bool) → not (b && false) ≡ true
not_and_false true = refl
not_and_false false = refl

-- each integer can be divided by a divisor that is not 0 and not -1
pub can_divide_by : (a d : ℤ) → int_eq d (pos 0) ≡ false → int_eq d (negsuc 0) ≡ false
    → can_divide a d ≡ true
unfolding can_divide
can_divide_by a d p q =
    ap₂ (λ u v. not u && not (int_eq a (negsuc 2147483647) && v)) p q
    ∙ not_and_false (int_eq a (negsuc 2147483647))

pub int_same : (x y : ℤ) → int_eq x y ≡ true → x ≡ y
int_same x y e = (signed_Decides x y).0 e
