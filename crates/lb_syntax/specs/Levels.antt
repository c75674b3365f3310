-- The levels of the forms, which decide where a tree may stand as an operand.
-- Source: the operators are those of the Lustre V6 reference manual (expressions). The levels,
-- `->` and `fby` on one of them, and the rule of the right edge are this project's rule.
use Rattle.std.specs.Prelude.{ℕ, ◌+◌, ◌≤◌, min, Option, Some, None}
pub use Rattle.lb_syntax.specs.declared.level.Form.{Form}
use Rattle.lb_syntax.specs.declared.level.Form.TheVariants as form
pub use Rattle.lb_syntax.specs.declared.level.Row.{Row}
use Rattle.lb_syntax.specs.declared.token.Mark.{Mark}
use Rattle.lb_syntax.specs.declared.token.Mark.TheVariants as m
use Rattle.lb_syntax.specs.declared.tree.BinaryOperator.TheVariants as operator
use Rattle.lb_syntax.specs.Tree.{BinaryOperator, UnaryOperator, Not, Negate, Static, Negated, Combined}
use Rattle.lb_syntax.specs.Tree.{Expr, Unary, Binary, If, Arrow, Fby, Pre, Current, When, Replicate}
use Rattle.lb_syntax.specs.Tree.{Index, Slice, Join}

-- ---- the table

-- The rows of forms that group to the left (`a - b - c` is `(a - b) - c`), to the right, and to no
-- side. The operand on the side to which a form groups may have the level of the form itself.
abbrev pub to_left : ℕ → Row
to_left k = record { level = k; left = k; right = k + 1 }

abbrev pub to_right : ℕ → Row
to_right k = record { level = k; left = k + 1; right = k }

abbrev pub to_none : ℕ → Row
to_none k = record { level = k; left = k + 1; right = k + 1 }

-- the rows of the infix and postfix forms
abbrev pub row_of : Form → Row
row_of form.Join = to_left 1
row_of form.Arrow = to_right 3
row_of form.Fby = to_right 3
row_of (form.Data operator.Implies) = to_right 4
row_of (form.Data operator.Or) = to_left 5
row_of (form.Data operator.Xor) = to_left 5
row_of (form.Data operator.And) = to_left 6
row_of (form.Data operator.Equal) = to_none 7
row_of (form.Data operator.Unequal) = to_none 7
row_of (form.Data operator.Less) = to_none 7
row_of (form.Data operator.AtMost) = to_none 7
row_of (form.Data operator.Greater) = to_none 7
row_of (form.Data operator.AtLeast) = to_none 7
row_of (form.Data operator.Plus) = to_left 9
row_of (form.Data operator.Minus) = to_left 9
row_of (form.Data operator.Times) = to_left 10
row_of (form.Data operator.Divide) = to_left 10
row_of (form.Data operator.Modulo) = to_left 10
row_of form.When = to_left 11
row_of form.Replicate = to_left 13
row_of form.Element = to_left 13

-- the levels of the prefix forms: `if`, the operators with one operand, `pre` and `current`
abbrev pub choice_level : ℕ
choice_level = 2

abbrev pub unary_level : UnaryOperator → ℕ
unary_level Not = 8
unary_level Negate = 12

abbrev pub memory_level : ℕ
memory_level = 12

-- the level of a tree that is none of these forms: `17`, `x`, `(e)`, `f(e)`
abbrev pub atom_level : ℕ
atom_level = 14

-- ---- the marks of the table

-- the operator of static expressions that a mark stands for
abbrev pub arithmetic_of : Mark → Option BinaryOperator
arithmetic_of m.Plus = Some operator.Plus
arithmetic_of m.Minus = Some operator.Minus
arithmetic_of m.Star = Some operator.Times
arithmetic_of m.Slash = Some operator.Divide
arithmetic_of m.Div = Some operator.Divide
arithmetic_of m.Mod = Some operator.Modulo
arithmetic_of _ = None

abbrev pub data_form : Option BinaryOperator → Option Form
data_form (Some op) = Some (form.Data op)
data_form None = None

-- the infix or postfix form that a mark stands for, where it follows an operand
abbrev pub form_of : Mark → Option Form
form_of m.Bar = Some form.Join
form_of m.Arrow = Some form.Arrow
form_of m.Fby = Some form.Fby
form_of m.Implies = Some (form.Data operator.Implies)
form_of m.Or = Some (form.Data operator.Or)
form_of m.Xor = Some (form.Data operator.Xor)
form_of m.And = Some (form.Data operator.And)
form_of m.Equal = Some (form.Data operator.Equal)
form_of m.Unequal = Some (form.Data operator.Unequal)
form_of m.Less = Some (form.Data operator.Less)
form_of m.AtMost = Some (form.Data operator.AtMost)
form_of m.Greater = Some (form.Data operator.Greater)
form_of m.AtLeast = Some (form.Data operator.AtLeast)
form_of m.When = Some form.When
form_of m.Caret = Some form.Replicate
form_of m.OpenBracket = Some form.Element
form_of mark = data_form (arithmetic_of mark)

-- ---- trees as operands

abbrev pub level : Expr → ℕ
level (Binary op a b) = (row_of (form.Data op)).level
level (Arrow a b) = (row_of form.Arrow).level
level (Fby a b) = (row_of form.Fby).level
level (Join a b) = (row_of form.Join).level
level (When e x sign) = (row_of form.When).level
level (Replicate e n) = (row_of form.Replicate).level
level (Index e i) = (row_of form.Element).level
level (Slice e i j) = (row_of form.Element).level
level (If c a b) = choice_level
level (Unary op a) = unary_level op
level (Pre a) = memory_level
level (Current a) = memory_level
level _ = atom_level

-- The right edge of a tree is the tree itself and, where it is an infix or prefix form, the right
-- edge of its last operand. `edge` is the least level of a prefix form there, and 14 without one:
-- 8 of `a + not b`, the level of `not`.
abbrev pub edge : Expr → ℕ
edge (Binary op a b) = edge b
edge (Arrow a b) = edge b
edge (Fby a b) = edge b
edge (Join a b) = edge b
edge (If c a b) = min choice_level (edge b)
edge (Unary op a) = min (unary_level op) (edge a)
edge (Pre a) = min memory_level (edge a)
edge (Current a) = min memory_level (edge a)
edge _ = atom_level

-- `e` may be the left operand of a form: its level is high enough, and no prefix form of a lower
-- level than the form's stands on its right edge, since that would take the form into its own
-- operand: `a + not b + c` is `a + not (b + c)`
pub record IsLeft (row : Row) (e : Expr) : Type 0 where
  pub high : row.left ≤ level e
  pub clear : row.level ≤ edge e

-- `e` may be the last operand of a form: it has at least level `least`, or is a prefix form
abbrev pub IsLast : ℕ → Expr → Type 0
IsLast least (If c a b) = Unit {0}
IsLast least (Unary op a) = Unit {0}
IsLast least (Pre a) = Unit {0}
IsLast least (Current a) = Unit {0}
IsLast least e = least ≤ level e

-- the level of a static expression; its one prefix form, `- s`, has a level above its infix forms,
-- so it may stand wherever one of them may
abbrev pub static_level : Static → ℕ
static_level (Combined op a b) = (row_of (form.Data op)).level
static_level (Negated s) = unary_level Negate
static_level _ = atom_level
