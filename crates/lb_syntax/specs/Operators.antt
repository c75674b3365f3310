-- The classes of the data operators with two operands, and the words and symbols that spell them.
-- Source: the operators are those of the Lustre V6 reference manual (expressions); the classes are
-- this project's rule.
use Rattle.std.specs.Prelude.{◌≡◌, Bool, true, false, Option, Some}
use Rattle.lb_syntax.specs.declared.level.Form.{Form}
use Rattle.lb_syntax.specs.declared.level.Form.TheVariants as form
use Rattle.lb_syntax.specs.declared.token.Mark.{Mark}
use Rattle.lb_syntax.specs.declared.token.Token.TheVariants as token
use Rattle.lb_syntax.specs.declared.tree.BinaryOperator.{BinaryOperator}
use Rattle.lb_syntax.specs.declared.tree.BinaryOperator.TheVariants as operator
use Rattle.lb_syntax.specs.declared.tree.OperatorClass.{OperatorClass}
use Rattle.lb_syntax.specs.declared.tree.OperatorClass.TheVariants.{Logical, Equality, Order}
use Rattle.lb_syntax.specs.declared.tree.OperatorClass.TheVariants.{Arithmetic}
use Rattle.lb_syntax.specs.Levels.{form_of}
use Rattle.lb_syntax.specs.Limits.{is_counted}
use Rattle.lb_syntax.specs.Lists.{◌>>=◌, holds, or_else}
use Rattle.lb_syntax.specs.Tokens.{Text, lookup, symbols, words}

-- ---- classes

-- what an operator takes and gives: two truths give a truth, two operands of one kind give a truth,
-- two numbers give a truth, two numbers give a number
abbrev pub class_of : BinaryOperator → OperatorClass
class_of operator.Or = Logical
class_of operator.Xor = Logical
class_of operator.And = Logical
class_of operator.Implies = Logical
class_of operator.Equal = Equality
class_of operator.Unequal = Equality
class_of operator.Less = Order
class_of operator.AtMost = Order
class_of operator.Greater = Order
class_of operator.AtLeast = Order
class_of operator.Plus = Arithmetic
class_of operator.Minus = Arithmetic
class_of operator.Times = Arithmetic
class_of operator.Divide = Arithmetic
class_of operator.Modulo = Arithmetic

-- whether two classes are the same
abbrev pub is_class : OperatorClass → OperatorClass → Bool
is_class Logical Logical = true
is_class Equality Equality = true
is_class Order Order = true
is_class Arithmetic Arithmetic = true
is_class class other = false

-- ---- words and symbols

-- the mark of a reserved word or a symbol
abbrev pub mark_of : Text → Option Mark
mark_of text = or_else (lookup words text) (lookup symbols text)

-- the infix or postfix form of which a word or symbol is the sign
abbrev pub form_by : Text → Option Form
form_by text = mark_of text >>= form_of

-- a text spells an operator
abbrev pub IsSignOf : BinaryOperator → Text → Type 0
IsSignOf op text = form_by text ≡ Some (form.Data op)

-- whether a word or symbol is counted by the limit of a statement
abbrev pub is_counted_text : Text → Bool
is_counted_text text = holds (λ mark. is_counted (token.Mark mark)) (mark_of text)
