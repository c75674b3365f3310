-- The spelling of expressions: the tokens from `ts` down to `rest` spell a tree.
-- Source: the syntax of the Lustre V6 reference manual (expressions, static parameters, arrays),
-- narrowed to this project's profile; the levels are this project's rule.
use Rattle.std.specs.Prelude.{◌≡◌, ◌≢◌, ◌≤◌, ◌⊎◌, ℕ, Bool, true, false, List, [], ◌∷◌, Some, codes}
use Rattle.lb_syntax.specs.declared.level.Form.TheVariants as form
use Rattle.lb_syntax.specs.declared.token.Mark.{Mark}
use Rattle.lb_syntax.specs.declared.token.Mark.TheVariants as m
use Rattle.lb_syntax.specs.declared.token.Token.{Token}
use Rattle.lb_syntax.specs.declared.token.Token.TheVariants as token
use Rattle.lb_syntax.specs.declared.tree.BinaryOperator.TheVariants.{Or, Xor, And, Plus, Minus}
use Rattle.lb_syntax.specs.declared.tree.BinaryOperator.TheVariants.{Times}
use Rattle.lb_syntax.specs.Tree.{Name, BinaryOperator, Not}
use Rattle.lb_syntax.specs.Tree.{Negate, ArrayIterator, Map, Red, Fill, Static, Whole, Named}
use Rattle.lb_syntax.specs.Tree.{Negated, Combined, Grouped, Operator, Node_named, Symbol}
use Rattle.lb_syntax.specs.Tree.{Expr, Exprs, Literal, Truth, Variable, Group, Unary, Binary, If}
use Rattle.lb_syntax.specs.Tree.{Arrow, Fby, Pre, Current, When, Replicate, Index, Slice, Join}
use Rattle.lb_syntax.specs.Tree.{Array}
use Rattle.lb_syntax.specs.Tree.{AtMostOne, Nor, Call, Iterate, Nil, Cons}
use Rattle.lb_syntax.specs.Levels.{Form, row_of, choice_level, unary_level, memory_level}
use Rattle.lb_syntax.specs.Levels.{arithmetic_of, form_of, IsLeft, IsLast, static_level}

-- a statement on the tokens from one place down to a later one, from `ts` down to `rest`
abbrev pub Span : Type 1
Span = List Token → List Token → Type 0

-- `First` and then `Second`
infixr 5 ◌▸◌
abbrev pub ◌▸◌ : Span → Span → Span
◌▸◌ First Second ts rest = (next : List Token) × First ts next × Second next rest

abbrev pub IsLiteral : ℕ → Span
IsLiteral n ts rest = ts ≡ token.Literal n ∷ rest

abbrev pub IsName : Name → Span
IsName x ts rest = ts ≡ token.Name x ∷ rest

abbrev pub IsMark : Mark → Span
IsMark mark ts rest = ts ≡ token.Mark mark ∷ rest

-- ---- lists

-- `,` or `;`
abbrev pub IsSeparator : Span
IsSeparator ts rest = IsMark m.Comma ts rest ⊎ IsMark m.Semicolon ts rest

-- the items behind the first of a list, each after a separator
abbrev pub IsTail : {A : Type 0} → Span → (A → Span) → List A → Span
IsTail Separates Is [] ts rest = ts ≡ rest
IsTail Separates Is (x ∷ xs) ts rest = (Separates ▸ Is x ▸ IsTail Separates Is xs) ts rest

-- one item or more, with a separator between two
abbrev pub IsList : {A : Type 0} → Span → (A → Span) → List A → Span
IsList Separates Is [] ts rest = ⊥
IsList Separates Is (x ∷ xs) ts rest = (Is x ▸ IsTail Separates Is xs) ts rest

-- ---- static expressions

-- an operator of static expressions
abbrev pub IsArithmetic : BinaryOperator → Span
IsArithmetic op ts rest = (mark : Mark) × (arithmetic_of mark ≡ Some op) × IsMark mark ts rest

abbrev pub IsStatic : Static → Span
IsStatic (Whole n) ts rest = IsLiteral n ts rest
IsStatic (Named x) ts rest = IsName x ts rest
IsStatic (Grouped s) ts rest = (IsMark m.Open ▸ IsStatic s ▸ IsMark m.Close) ts rest
IsStatic (Negated s) ts rest =
    (IsMark m.Minus ▸ IsStatic s) ts rest × (unary_level Negate ≤ static_level s)
IsStatic (Combined op s t) ts rest =
    (IsStatic s ▸ IsArithmetic op ▸ IsStatic t) ts rest
    × ((row_of (form.Data op)).left ≤ static_level s)
    × ((row_of (form.Data op)).right ≤ static_level t)

-- `s, t; u`
abbrev pub AreStatics : List Static → Span
AreStatics = IsList IsSeparator IsStatic

-- static arguments, `<<s, t>>`, or none and no brackets
abbrev pub AreArguments : List Static → Span
AreArguments [] ts rest = ts ≡ rest
AreArguments (s ∷ more) ts rest =
    (IsMark m.OpenStatic ▸ AreStatics (s ∷ more) ▸ IsMark m.CloseStatic) ts rest

-- a size after `^`: a literal, a name, or any static expression in parentheses
abbrev pub IsSize : Static → Span
IsSize (Whole n) ts rest = IsStatic (Whole n) ts rest
IsSize (Named x) ts rest = IsStatic (Named x) ts rest
IsSize (Grouped s) ts rest = IsStatic (Grouped s) ts rest
IsSize _ ts rest = ⊥

-- ---- clocks

-- `c` or `(c)`
abbrev pub IsClockName : Name → Span
IsClockName c ts rest = IsName c ts rest ⊎ (IsMark m.Open ▸ IsName c ▸ IsMark m.Close) ts rest

-- a clock after `when`, which waits for true, or with `not` for false
abbrev pub IsClock : Name → Bool → Span
IsClock c true ts rest = IsClockName c ts rest
IsClock c false ts rest = (IsMark m.Not ▸ IsClockName c) ts rest

-- ---- calls and iterators

abbrev pub iterator_name : ArrayIterator → Name
iterator_name Map = codes "map"
iterator_name Red = codes "red"
iterator_name Fill = codes "fill"

-- `map<<`, `red<<` and `fill<<` begin an iterator and no call, though `map(x)` is a call
abbrev pub MayBeCalled : Name → List Static → Type 0
MayBeCalled f [] = Unit {0}
MayBeCalled f (s ∷ more) = (i : ArrayIterator) → f ≢ iterator_name i

-- the six operators that may be iterated
abbrev pub IsSymbol : BinaryOperator → Span
IsSymbol Plus ts rest = IsMark m.Plus ts rest
IsSymbol Minus ts rest = IsMark m.Minus ts rest
IsSymbol Times ts rest = IsMark m.Star ts rest
IsSymbol And ts rest = IsMark m.And ts rest
IsSymbol Or ts rest = IsMark m.Or ts rest
IsSymbol Xor ts rest = IsMark m.Xor ts rest
IsSymbol _ ts rest = ⊥

-- the node or operator that an iterator applies: `f`, `f<<s, t>>` or `+`
abbrev pub IsOperator : Operator → Span
IsOperator (Node_named f args) ts rest = (IsName f ▸ AreArguments args) ts rest
IsOperator (Symbol op) ts rest = IsSymbol op ts rest

-- `<<f, n>>`
abbrev pub IsApplied : Operator → Static → Span
IsApplied f n =
    IsMark m.OpenStatic ▸ IsOperator f ▸ IsSeparator ▸ IsStatic n ▸ IsMark m.CloseStatic

-- ---- expressions

-- the mark of an infix or postfix form
abbrev pub IsForm : Form → Span
IsForm form ts rest = (mark : Mark) × (form_of mark ≡ Some form) × IsMark mark ts rest

-- a form with the operand `a` on its left, and `IsMore` after its mark
abbrev pub Postfix : Form → Expr → Span → Span → Span
Postfix form a IsOperand IsMore ts rest =
    (IsOperand ▸ IsForm form ▸ IsMore) ts rest × IsLeft (row_of form) a

-- a form with the operand `a` on its left and the operand `b` on its right
abbrev pub Infix : Form → Expr → Expr → Span → Span → Span
Infix form a b IsFirst IsSecond ts rest =
    (IsFirst ▸ IsForm form ▸ IsSecond) ts rest
    × IsLeft (row_of form) a × IsLast (row_of form).right b

-- a form of level `k` that ends with the operand `a`
abbrev pub Prefix : ℕ → Expr → Span → Span
Prefix k a Is ts rest = Is ts rest × IsLast k a

abbrev mutual
  pub IsSpelled : Expr → Span
  IsSpelled (Literal n) ts rest = IsLiteral n ts rest
  IsSpelled (Truth true) ts rest = IsMark m.True ts rest
  IsSpelled (Truth false) ts rest = IsMark m.False ts rest
  IsSpelled (Variable x) ts rest = IsName x ts rest
  IsSpelled (Group e) ts rest = (IsMark m.Open ▸ IsSpelled e ▸ IsMark m.Close) ts rest
  IsSpelled (Unary Not a) ts rest =
      Prefix (unary_level Not) a (IsMark m.Not ▸ IsSpelled a) ts rest
  IsSpelled (Unary Negate a) ts rest =
      Prefix (unary_level Negate) a (IsMark m.Minus ▸ IsSpelled a) ts rest
  IsSpelled (Pre a) ts rest = Prefix memory_level a (IsMark m.Pre ▸ IsSpelled a) ts rest
  IsSpelled (Current a) ts rest = Prefix memory_level a (IsMark m.Current ▸ IsSpelled a) ts rest
  IsSpelled (If c a b) ts rest =
      Prefix choice_level b
      (IsMark m.If ▸ IsSpelled c ▸ IsMark m.Then ▸ IsSpelled a ▸ IsMark m.Else ▸ IsSpelled b) ts
      rest
  IsSpelled (Binary op a b) ts rest = Infix (form.Data op) a b (IsSpelled a) (IsSpelled b) ts rest
  IsSpelled (Arrow a b) ts rest = Infix form.Arrow a b (IsSpelled a) (IsSpelled b) ts rest
  IsSpelled (Fby a b) ts rest = Infix form.Fby a b (IsSpelled a) (IsSpelled b) ts rest
  IsSpelled (Join a b) ts rest = Infix form.Join a b (IsSpelled a) (IsSpelled b) ts rest
  IsSpelled (When e c sign) ts rest = Postfix form.When e (IsSpelled e) (IsClock c sign) ts rest
  IsSpelled (Replicate e n) ts rest = Postfix form.Replicate e (IsSpelled e) (IsSize n) ts rest
  IsSpelled (Index e i) ts rest =
      Postfix form.Element e (IsSpelled e) (IsStatic i ▸ IsMark m.CloseBracket) ts rest
  IsSpelled (Slice e i j) ts rest =
      Postfix form.Element e (IsSpelled e)
      (IsStatic i ▸ IsMark m.DotDot ▸ IsStatic j ▸ IsMark m.CloseBracket) ts rest
  IsSpelled (Array es) ts rest =
      (IsMark m.OpenBracket ▸ AreSpelled es ▸ IsMark m.CloseBracket) ts rest
  IsSpelled (AtMostOne es) ts rest =
      (IsMark m.Hash ▸ IsMark m.Open ▸ AreSpelled es ▸ IsMark m.Close) ts rest
  IsSpelled (Nor es) ts rest =
      (IsMark m.Nor ▸ IsMark m.Open ▸ AreSpelled es ▸ IsMark m.Close) ts rest
  IsSpelled (Call f args es) ts rest =
      (IsName f ▸ AreArguments args ▸ IsMark m.Open ▸ MayBeSpelled es ▸ IsMark m.Close) ts rest
      × MayBeCalled f args
  IsSpelled (Iterate i f n es) ts rest =
      (IsName (iterator_name i) ▸ IsApplied f n
      ▸ IsMark m.Open ▸ AreSpelled es ▸ IsMark m.Close) ts rest

  -- `a, b, c`, one or more
  pub AreSpelled : Exprs → Span
  AreSpelled Nil ts rest = ⊥
  AreSpelled (Cons e es) ts rest = (IsSpelled e ▸ AreMore es) ts rest

  -- the expressions behind the first, each after `,`
  pub AreMore : Exprs → Span
  AreMore Nil ts rest = ts ≡ rest
  AreMore (Cons e es) ts rest = (IsMark m.Comma ▸ IsSpelled e ▸ AreMore es) ts rest

  -- the operands of a call, if there are any
  pub MayBeSpelled : Exprs → Span
  MayBeSpelled Nil ts rest = ts ≡ rest
  MayBeSpelled (Cons e es) ts rest = (IsSpelled e ▸ AreMore es) ts rest

-- all of `tokens` spell the expression `e`
abbrev pub Spells : Expr → List Token → Type 0
Spells e tokens = IsSpelled e tokens []
