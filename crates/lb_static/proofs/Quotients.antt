-- Quotients and remainders of static values, which a word of 64 bits holds as they are.
use Rattle.std.proofs.Common.{◌≡◌, ◌<◌, ◌≤◌, ◌/◌, ◌%◌, ℕ, zero, suc, refl, ap, sym, ◌∙◌, subst}
use Rattle.std.proofs.Common.{arith}
use Rattle.std.proofs.Common.{rules}
use Rattle.std.proofs.lemmas.Int.{to_z-of_z}
use Rattle.std.specs.Prelude.{not, Some, true}
use Rattle.std.specs.Ordering.{int_eq}
use Rattle.std.proofs.lemmas.Bool.{and_parts}
use Rattle.std.proofs.lemmas.Bool.Decides.{nat_tests}
use Rattle.lb_syntax.specs.Lists.{where_true}
use Rattle.lb_syntax.specs.declared.tree.BinaryOperator.{BinaryOperator}
use Rattle.lb_syntax.specs.declared.tree.BinaryOperator.TheVariants.{Divide}
use Rattle.lb_static.specs.Arithmetic.{arithmetic, is_divisible}
use Rattle.lb_static.specs.StaticRange.{IsWithinWord}
use lib.IntN.{ℤ, pos, negsuc, nat_abs, neg_ℤ}
use lib.Signed.{quot_z, rem_z}
use mir.Syntax.{Width, w32, w64}
use mir.Val.{SFits, of_z, to_z}
use native.Mathlib.Nat.{div-le_self, mod-le, lt_of_le_of_lt}

abs-neg : (n : ℕ) → nat_abs (neg_ℤ (pos n)) ≡ n
abs-neg zero = refl
abs-neg (suc n) = refl

quotient_below : (a b : ℤ) → nat_abs (quot_z a b) ≤ nat_abs a
quotient_below (pos a) (pos b) = div-le_self a b
quotient_below (pos a) (negsuc b) = rw (abs-neg (a / suc b)) (div-le_self a (suc b))
quotient_below (negsuc a) (pos b) = rw (abs-neg (suc a / b)) (div-le_self (suc a) b)
quotient_below (negsuc a) (negsuc b) = div-le_self (suc a) (suc b)

remainder_below : (a b : ℤ) → nat_abs (rem_z a b) ≤ nat_abs a
remainder_below (pos a) b = mod-le a (nat_abs b)
remainder_below (negsuc a) b =
    rw (abs-neg (suc a % nat_abs b)) (mod-le (suc a) (nat_abs b))

fits : (a : ℤ) → IsWithinWord a → SFits w64 a
fits (pos a) within = record { sfits = omega arith }
fits (negsuc a) within = record { sfits = omega arith }

-- the value as the code computes it, with each number held in a word
computed : (w : Width) (op : ℤ → ℤ → ℤ) (a b : ℤ) → SFits w a → SFits w b → SFits w (op a b)
    → to_z w (of_z w (op (to_z w (of_z w a)) (to_z w (of_z w b)))) ≡ op a b
computed w op a b left right result =
    ap (λ x. to_z w (of_z w (op x (to_z w (of_z w b))))) (to_z-of_z w a left)
    ∙ ap (λ y. to_z w (of_z w (op a y))) (to_z-of_z w b right)
    ∙ to_z-of_z w (op a b) result

pub quotient_within : (a b : ℤ) → IsWithinWord a → IsWithinWord b
    → IsWithinWord (to_z w64 (of_z w64 (quot_z (to_z w64 (of_z w64 a)) (to_z w64 (of_z w64 b)))))
quotient_within a b left right =
    let result = lt_of_le_of_lt (quotient_below a b) left in
    subst IsWithinWord (sym (computed w64 quot_z a b (fits a left) (fits b right)
    (fits (quot_z a b) result))) result

pub remainder_within : (a b : ℤ) → IsWithinWord a → IsWithinWord b
    → IsWithinWord (to_z w64 (of_z w64 (rem_z (to_z w64 (of_z w64 a)) (to_z w64 (of_z w64 b)))))
remainder_within a b left right =
    let result = lt_of_le_of_lt (remainder_below a b) left in
    subst IsWithinWord (sym (computed w64 rem_z a b (fits a left) (fits b right)
    (fits (rem_z a b) result))) result

not_zero : (b : ℤ) → IsWithinWord b → not (int_eq b (pos 0)) ≡ true → 0 < of_z w64 b
not_zero (pos b) within e = grind (arith, nat_tests)
not_zero (negsuc b) within e = omega arith

-- a number that divides another is no zero, and the quotient fits
pub divides : (a b : ℤ) → IsWithinWord a → IsWithinWord b
    → is_divisible (to_z w64 (of_z w64 a)) (to_z w64 (of_z w64 b)) ≡ true
    → (0 < of_z w64 b)
    × SFits w64 (quot_z (to_z w64 (of_z w64 a)) (to_z w64 (of_z w64 b)))
divides a b left right e =
    let x = to_z-of_z w64 a (fits a left) in
    let y = to_z-of_z w64 b (fits b right) in
    let tests = and_parts (not (int_eq (to_z w64 (of_z w64 b)) (pos 0))) _ e in
    let result = lt_of_le_of_lt (quotient_below a b) left in (
      not_zero b right (sym (ap (λ z. not (int_eq z (pos 0))) y) ∙ tests.0),
      subst (λ z. SFits w64 (quot_z z (to_z w64 (of_z w64 b)))) (sym x)
          (subst (λ z. SFits w64 (quot_z a z)) (sym y) (fits (quot_z a b) result)),
    )

quotient_of : (w : Width) (op : BinaryOperator) (a b : ℤ) → op ≡ Divide → SFits w a → SFits w b
    → SFits w (quot_z a b) → is_divisible (to_z w (of_z w a)) (to_z w (of_z w b)) ≡ true
    → Some (to_z w (of_z w (quot_z (to_z w (of_z w a)) (to_z w (of_z w b))))) ≡ arithmetic op a b
quotient_of w op a b is left right result e =
    let divisible = sym (ap (λ z. is_divisible z (to_z w (of_z w b))) (to_z-of_z w a left)
    ∙ ap (is_divisible a) (to_z-of_z w b right)) ∙ e in
    ap (λ z. Some z) (computed w quot_z a b left right result)
    ∙ sym (ap (λ o. arithmetic o a b) is ∙ ap (λ d. where_true d (quot_z a b)) divisible)

pub quotient_is : (op : BinaryOperator) (a b : ℤ) → op ≡ Divide → IsWithinWord a
    → IsWithinWord b → is_divisible (to_z w64 (of_z w64 a)) (to_z w64 (of_z w64 b)) ≡ true
    → Some (to_z w64 (of_z w64 (quot_z (to_z w64 (of_z w64 a)) (to_z w64 (of_z w64 b)))))
    ≡ arithmetic op a b
quotient_is op a b is left right e =
    quotient_of w64 op a b is (fits a left) (fits b right)
    (fits (quot_z a b) (lt_of_le_of_lt (quotient_below a b) left)) e

-- ## Values of `int`

pub int_divides : (a b : ℤ) → SFits w32 a → SFits w32 b
    → is_divisible (to_z w32 (of_z w32 a)) (to_z w32 (of_z w32 b)) ≡ true
    → (0 < of_z w32 b)
    × SFits w32 (quot_z (to_z w32 (of_z w32 a)) (to_z w32 (of_z w32 b)))
int_divides a b left right e = search rules

pub int_quotient : (op : BinaryOperator) (a b : ℤ) → op ≡ Divide → SFits w32 a → SFits w32 b
    → is_divisible (to_z w32 (of_z w32 a)) (to_z w32 (of_z w32 b)) ≡ true
    → Some (to_z w32 (of_z w32 (quot_z (to_z w32 (of_z w32 a)) (to_z w32 (of_z w32 b)))))
    ≡ arithmetic op a b
int_quotient op a b is left right e =
    let result = (int_divides a b left right e).1 in
    let x = to_z-of_z w32 a left in
    let y = to_z-of_z w32 b right in
    quotient_of w32 op a b is left right
    (subst (λ z. SFits w32 (quot_z a z)) y
    (subst (λ z. SFits w32 (quot_z z (to_z w32 (of_z w32 b)))) x result)) e
