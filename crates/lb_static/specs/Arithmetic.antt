-- The arithmetic of `int`, which static expressions and the run share.
-- Source: Lustre V6 reference manual, arithmetic operators. The range and the faults are this
-- project's rule.
use Rattle.std.specs.Prelude.{Bool, not, ◌&&◌, ℤ, pos, negsuc, ◌+ℤ◌, ◌-ℤ◌, ◌*ℤ◌, neg_ℤ, int_le}
use Rattle.std.specs.Prelude.{int_div, int_rem, Option, None}
use Rattle.std.specs.Ordering.{int_eq}
use Rattle.lb_syntax.specs.Lists.{where_true}
use Rattle.lb_syntax.specs.declared.tree.BinaryOperator.{BinaryOperator}
use Rattle.lb_syntax.specs.declared.tree.BinaryOperator.TheVariants.{Plus, Minus, Times, Divide}
use Rattle.lb_syntax.specs.declared.tree.BinaryOperator.TheVariants.{Modulo}

-- the least and the greatest value of `int`
abbrev pub least_int : ℤ
least_int = negsuc 2147483647

abbrev pub greatest_int : ℤ
greatest_int = pos 2147483647

abbrev pub is_int : ℤ → Bool
is_int z = int_le least_int z && int_le z greatest_int

-- an exact result `z`, or none where it is outside the range of `int`
abbrev pub lawful : ℤ → Option ℤ
lawful z = where_true (is_int z) z

-- whether there is a quotient: the divisor is not zero, and the quotient is no more than the
-- greatest value
abbrev pub is_divisible : ℤ → ℤ → Bool
is_divisible a b = not (int_eq b (pos 0)) && not (int_eq a least_int && int_eq b (negsuc 0))

-- the value of an operator of arithmetic, or none where it faults; a quotient is cut off toward
-- zero, and a remainder has the sign of the dividend
abbrev pub arithmetic : BinaryOperator → ℤ → ℤ → Option ℤ
arithmetic Plus a b = lawful (a +ℤ b)
arithmetic Minus a b = lawful (a -ℤ b)
arithmetic Times a b = lawful (a *ℤ b)
arithmetic Divide a b = where_true (is_divisible a b) (int_div a b)
arithmetic Modulo a b = where_true (is_divisible a b) (int_rem a b)
arithmetic _ a b = None

-- the value of unary minus, or none where it faults
abbrev pub negated : ℤ → Option ℤ
negated a = lawful (neg_ℤ a)
