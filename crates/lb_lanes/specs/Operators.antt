-- The operators on integers as tables: no value where the operator has a fault.
-- Which operators there are, and that `div` truncates toward zero: the Lustre V6 reference manual,
-- on data operators. The range of `int`, and what is a fault: this project's rule.
use Rattle.std.specs.Prelude.{Bool, not, ◌&&◌, Option, Some, None, ℤ, pos, negsuc, ◌+ℤ◌, ◌-ℤ◌, ◌*ℤ◌}
use Rattle.std.specs.Prelude.{neg_ℤ, int_le, int_div, int_rem, if◌then◌else◌}
use Rattle.std.specs.Ordering.{int_eq}
use Rattle.lb_lanes.specs.declared.int_operator.IntOperator.{IntOperator}
use Rattle.lb_lanes.specs.declared.int_operator.IntOperator.TheVariants.{Add, Sub, Mul, Div, Rem}

-- the range of `int`: -2147483648 to 2147483647
unfoldable pub is_int : ℤ → Bool
is_int v = int_le (negsuc 2147483647) v && int_le v (pos 2147483647)

-- the exact result, where it is in the range of `int`
abbrev pub lawful : ℤ → Option ℤ
lawful v = if is_int v then Some v else None

-- `a + b`
abbrev pub sum_of : ℤ → ℤ → Option ℤ
sum_of a b = lawful (a +ℤ b)

-- `a - b`
abbrev pub difference_of : ℤ → ℤ → Option ℤ
difference_of a b = lawful (a -ℤ b)

-- `a * b`
abbrev pub product_of : ℤ → ℤ → Option ℤ
product_of a b = lawful (a *ℤ b)

-- `- a`
abbrev pub negation_of : ℤ → Option ℤ
negation_of a = lawful (neg_ℤ a)

-- whether a quotient and a remainder of the two exist: the divisor is not 0, and they are not the
-- least integer and -1
unfoldable pub can_divide : ℤ → ℤ → Bool
can_divide a b = not (int_eq b (pos 0)) && not (int_eq a (negsuc 2147483647) && int_eq b (negsuc 0))

-- a division, where the two can be divided
abbrev pub divided_by : (ℤ → ℤ → ℤ) → ℤ → ℤ → Option ℤ
divided_by division a b = if can_divide a b then Some (division a b) else None

-- `a div b`, which truncates toward zero
abbrev pub quotient_of : ℤ → ℤ → Option ℤ
quotient_of a b = divided_by int_div a b

-- `a mod b`, which is a - b * (a div b)
abbrev pub remainder_of : ℤ → ℤ → Option ℤ
remainder_of a b = divided_by int_rem a b

-- the operator of this name
abbrev pub result_of : IntOperator → ℤ → ℤ → Option ℤ
result_of Add a b = sum_of a b
result_of Sub a b = difference_of a b
result_of Mul a b = product_of a b
result_of Div a b = quotient_of a b
result_of Rem a b = remainder_of a b
