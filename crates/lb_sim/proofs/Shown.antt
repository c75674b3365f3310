-- Each operation of the language on scalars that are shown by planes and a value.
use Rattle.std.proofs.Common.{◌≡◌, Bool, true, false, ℤ, pos, Option, Some, None, cond, refl, ap}
use Rattle.std.proofs.Common.{ap₂, ◌∙◌}
use Rattle.lb_syntax.specs.declared.tree.BinaryOperator.TheVariants.{Plus, Minus, Times, Divide}
use Rattle.lb_syntax.specs.declared.tree.BinaryOperator.TheVariants.{Modulo}
use Rattle.lb_syntax.specs.declared.tree.UnaryOperator.TheVariants.{Negate}
use Rattle.lb_syntax.specs.Lists.{where_true}
use Rattle.lb_static.specs.Arithmetic.{arithmetic, negated, is_int as in_range}
use Rattle.lb_check.specs.Scalars.{Scalar, Integer, chosen, or_fault, two_integers, one_scalar}
use Rattle.lb_lanes.specs.Operators.{is_int, can_divide, sum_of, difference_of, product_of}
use Rattle.lb_lanes.specs.Operators.{quotient_of, remainder_of, result_of}
use Rattle.lb_lanes.specs.declared.int_operator.IntOperator.{IntOperator}
use Rattle.lb_lanes.specs.declared.int_operator.IntOperator.TheVariants.{Add, Sub, Mul, Div, Rem}
use Rattle.lb_lanes.proofs.Words.{zero_minus}
use Rattle.lb_sim.specs.Showing.{shown, operator_of}

-- ## Integers

lawful_is : (b : Bool) (v : ℤ) → cond b (Some v) None ≡ where_true b v
lawful_is true v = refl
lawful_is false v = refl

-- the operators of the lanes are those of the language
pub sum_is : (a b : ℤ) → sum_of a b ≡ arithmetic Plus a b
unfolding is_int
sum_is a b = lawful_is _ _

pub difference_is : (a b : ℤ) → difference_of a b ≡ arithmetic Minus a b
unfolding is_int
difference_is a b = lawful_is _ _

pub product_is : (a b : ℤ) → product_of a b ≡ arithmetic Times a b
unfolding is_int
product_is a b = lawful_is _ _

pub quotient_is : (a b : ℤ) → quotient_of a b ≡ arithmetic Divide a b
unfolding can_divide
quotient_is a b = lawful_is _ _

pub remainder_is : (a b : ℤ) → remainder_of a b ≡ arithmetic Modulo a b
unfolding can_divide
remainder_is a b = lawful_is _ _

pub operator_is : (op : IntOperator) (a b : ℤ) →
    or_fault (result_of op a b) ≡ two_integers (operator_of op) a b
operator_is Add a b = ap or_fault (sum_is a b)
operator_is Sub a b = ap or_fault (difference_is a b)
operator_is Mul a b = ap or_fault (product_is a b)
operator_is Div a b = ap or_fault (quotient_is a b)
operator_is Rem a b = ap or_fault (remainder_is a b)

pub negated_is : (a : ℤ) → difference_of (pos 0) a ≡ negated a
negated_is a = difference_is (pos 0) a ∙ ap (λ z. where_true (in_range z) z) (zero_minus a)

negate_cases : (r : Option ℤ) (x : ℤ) (b n : Bool) → r ≡ negated x →
    shown b n (or_fault r) ≡ one_scalar Negate (shown b n (Integer x))
negate_cases r x true n e = refl
negate_cases r x false true e = refl
negate_cases r x false false e = ap or_fault e

pub negate_shown : (x : ℤ) (b n : Bool) →
    shown b n (or_fault (difference_of (pos 0) x)) ≡ one_scalar Negate (shown b n (Integer x))
negate_shown x b n = negate_cases (difference_of (pos 0) x) x b n (negated_is x)

-- ## Choices

-- the operands of a choice count only where the condition is no fault
pub chosen_within :
    (bc nc : Bool) (c x y v w : Scalar) → (bc ≡ false → v ≡ x) → (bc ≡ false → w ≡ y) →
    chosen (shown bc nc c) v w ≡ chosen (shown bc nc c) x y
chosen_within true nc c x y v w e f = refl
chosen_within false nc c x y v w e f = ap₂ (chosen (shown false nc c)) (e refl) (f refl)
