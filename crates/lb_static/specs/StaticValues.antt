-- The whole number that a static expression stands for.
-- Source: Lustre V6 reference manual, constants and static expressions. That an operator's fault
-- leaves no value is this project's rule.
use Rattle.std.specs.Prelude.{ℕ, zero, suc, ℤ, pos, negsuc, Option, Some, None, List, find}
use Rattle.std.specs.Str.{bytes_eq}
use Rattle.lb_syntax.specs.Lists.{◌>>=◌}
use Rattle.lb_syntax.specs.Tree.{Name, Static, Whole, Named, Negated, Combined, Grouped, Constant}
use Rattle.lb_static.specs.Arithmetic.{arithmetic, negated}

-- the first item with the name `x`
abbrev pub named : {A : Type 0} → (A → Name) → Name → List A → Option A
named name_of x xs = find (λ a. bytes_eq (name_of a) x) xs

-- the value of a static expression under the values of names
abbrev pub value_under : (Name → Option ℤ) → Static → Option ℤ
value_under given (Whole n) = Some (pos n)
value_under given (Named x) = given x
value_under given (Grouped s) = value_under given s
value_under given (Negated s) = value_under given s >>= negated
value_under given (Combined op s t) =
    value_under given s >>= λ a. value_under given t >>= λ b. arithmetic op a b

-- the value of a named constant, where a chain of constants that name one another is at most `n`
-- long; a constant that needs itself has none, however great `n` is
abbrev pub constant_value : List Constant → ℕ → Name → Option ℤ
constant_value constants zero x = None
constant_value constants (suc n) x =
    named (λ c. c.name) x constants >>= λ c. value_under (constant_value constants n) c.value

-- a whole number that is not negative
abbrev pub natural : ℤ → Option ℕ
natural (pos n) = Some n
natural (negsuc n) = None
