-- Reading expressions from the front of the tokens, from left to right.
-- This file mirrors code (src/statics.rt, src/expression.rt, src/forms.rt); no definition of the
-- language stands on it.
use Rattle.std.specs.Prelude.{ℕ, zero, suc, Bool, true, false, ◌&&◌, if◌then◌else◌, nat_le}
use Rattle.std.specs.Prelude.{bytes_eq, List, [], ◌∷◌, ◌++◌, length, Option, Some, None}
use Rattle.lb_syntax.specs.declared.forms.Listed.{Listed}
use Rattle.lb_syntax.specs.declared.forms.Listed.TheVariants as many
use Rattle.lb_syntax.specs.declared.forms.Single.{Single}
use Rattle.lb_syntax.specs.declared.forms.Single.TheVariants as one
use Rattle.lb_syntax.specs.declared.level.Form.TheVariants as form
use Rattle.lb_syntax.specs.declared.token.Mark.{Mark}
use Rattle.lb_syntax.specs.declared.token.Mark.TheVariants as m
use Rattle.lb_syntax.specs.declared.token.Token.{Token}
use Rattle.lb_syntax.specs.declared.token.Token.TheVariants as token
use Rattle.lb_syntax.specs.declared.tree.BinaryOperator.TheVariants.{Or, Xor, And, Plus, Minus}
use Rattle.lb_syntax.specs.declared.tree.BinaryOperator.TheVariants.{Times}
use Rattle.lb_syntax.specs.Tree.{Name, BinaryOperator, Not}
use Rattle.lb_syntax.specs.Tree.{Negate, ArrayIterator, Map, Red, Fill, Static, Whole, Named}
use Rattle.lb_syntax.specs.Tree.{Negated, Combined, Grouped, Operator, Node_named, Symbol}
use Rattle.lb_syntax.specs.Tree.{Expr, Exprs, Literal, Truth, Variable, Group, Unary, Binary, If}
use Rattle.lb_syntax.specs.Tree.{Arrow, Fby, Pre, Current, When, Replicate, Index, Slice, Join}
use Rattle.lb_syntax.specs.Tree.{Array}
use Rattle.lb_syntax.specs.Tree.{AtMostOne, Nor, Call, Iterate, Nil, Cons}
use Rattle.lb_syntax.specs.Levels.{Form, Row, row_of, choice_level, unary_level, memory_level}
use Rattle.lb_syntax.specs.Levels.{arithmetic_of, form_of, level, edge, static_level}
use Rattle.lb_syntax.specs.Spelling.{iterator_name}
use Rattle.lb_syntax.specs.Readers.{◌>>=◌, Reader, expect, name_at}

-- ---- growing a tree

-- the outcome of a step on a tree: it stops, a longer tree with the tokens after it, or a fault
pub data Step (T : Type 0) : Type 0 where
  Stop : Step T
  More : T → List Token → Step T
  Fault : Step T

abbrev pub grown : {T : Type 0} → Option (T × List Token) → Step T
grown (Some r) = More r.0 r.1
grown None = Fault

abbrev pub goes_on : {T : Type 0} → Step T → T → List Token →
    (T → Reader T) → Option (T × List Token)
goes_on Stop e ts next = Some (e, ts)
goes_on (More longer rest) e ts next = next longer rest
goes_on Fault e ts next = None

-- the tree that grows from `e` by at most `n` steps, and the tokens after it
unfoldable pub climb : {T : Type 0} → (T → List Token → Step T) → ℕ → T → Reader T
climb step zero e ts = Some (e, ts)
climb step (suc n) e ts = goes_on (step e ts) e ts (climb step n)

-- ---- lists

abbrev pub by_first : Option (List Token) → Option (List Token) → Option (List Token)
by_first (Some rest) other = Some rest
by_first None other = other

-- the tokens after `,` or `;`, if one comes next
unfoldable pub separator : List Token → Option (List Token)
separator ts = by_first (expect m.Comma ts) (expect m.Semicolon ts)

abbrev pub next_item : {A : Type 0} → Reader A → Reader (List A) → Option (List Token) →
    Reader (List A)
next_item item tail None ts = Some ([], ts)
next_item item tail (Some after) ts = do
  x ← item after
  xs ← tail x.1
  Some (x.0 ∷ xs.0, xs.1)

-- the rest of a list after an item: at most `n` items, each after a separator
unfoldable pub tail_at : {A : Type 0} → (List Token → Option (List Token)) → Reader A → ℕ →
    Reader (List A)
tail_at separates item zero ts = Some ([], ts)
tail_at separates item (suc n) ts = next_item item (tail_at separates item n) (separates ts) ts

unfoldable pub list_at : {A : Type 0} → (List Token → Option (List Token)) → Reader A →
    Reader (List A)
list_at separates item ts = do
  x ← item ts
  xs ← tail_at separates item (length x.1) x.1
  Some (x.0 ∷ xs.0, xs.1)

-- the items `front` and behind them the list that was read
abbrev pub with_front : {A : Type 0} → List A → Option (List A × List Token) →
    Option (List A × List Token)
with_front front read = read >>= λ xs. Some (front ++ xs.0, xs.1)

-- ---- static expressions

abbrev pub arithmetic_at : Token → Option BinaryOperator
arithmetic_at (token.Mark mark) = arithmetic_of mark
arithmetic_at _ = None

-- whether a form takes `s` as its left operand, where at least level `least` is wanted
unfoldable pub static_takes : ℕ → Row → Static → Bool
static_takes least row s = nat_le least row.level && nat_le row.left (static_level s)

-- the static expression `(s)`, read from its `)` on
abbrev pub grouped : Static → Reader Static
grouped s ts = do
  rest ← expect m.Close ts
  Some (Grouped s, rest)

-- `inner` reads a nested static expression of at least a level, which may nest one less deep
module _ (inner : ℕ → Reader Static) where
  abbrev pub static_group : Reader Static
  static_group ts = do
    s ← inner 1 ts
    rest ← expect m.Close s.1
    Some (Grouped s.0, rest)

  unfoldable pub static_first : Reader Static
  static_first (token.Literal n ∷ ts) = Some (Whole n, ts)
  static_first (token.Name x ∷ ts) = Some (Named x, ts)
  static_first (token.Mark m.Open ∷ ts) = static_group ts
  static_first (token.Mark m.Minus ∷ ts) = do
    s ← inner (unary_level Negate) ts
    Some (Negated s.0, s.1)
  static_first _ = None

  abbrev pub static_longer : Static → BinaryOperator → Reader Static
  static_longer s op ts = do
    t ← inner (row_of (form.Data op)).right ts
    Some (Combined op s t.0, t.1)

  abbrev pub static_by : ℕ → Static → List Token → Option BinaryOperator → Step Static
  static_by least s ts (Some op) =
      if static_takes least (row_of (form.Data op)) s then grown (static_longer s op ts) else Stop
  static_by least s ts None = Stop

  abbrev pub static_step : ℕ → Static → List Token → Step Static
  static_step least s [] = Stop
  static_step least s (t ∷ ts) = static_by least s ts (arithmetic_at t)

  unfoldable pub static_level_at : ℕ → Reader Static
  static_level_at least ts = do
    s ← static_first ts
    climb (static_step least) (length ts) s.0 s.1

-- a static expression of at least level `least`, nested no deeper than the first argument
unfoldable pub static_tree : ℕ → ℕ → Reader Static
static_tree zero least ts = None
static_tree (suc n) least ts = static_level_at (static_tree n) least ts

unfoldable pub static_at : Reader Static
static_at ts = static_tree (length ts) 1 ts

unfoldable pub statics_at : Reader (List Static)
statics_at = list_at separator static_at

unfoldable pub size_at : Reader Static
size_at (token.Literal n ∷ ts) = Some (Whole n, ts)
size_at (token.Name x ∷ ts) = Some (Named x, ts)
size_at (token.Mark m.Open ∷ ts) = do
  s ← static_at ts
  rest ← expect m.Close s.1
  Some (Grouped s.0, rest)
size_at _ = None

-- ---- clocks

abbrev pub clock_name_by : Option (List Token) → Reader Name
clock_name_by None ts = name_at ts
clock_name_by (Some after) ts = do
  x ← name_at after
  rest ← expect m.Close x.1
  Some (x.0, rest)

unfoldable pub clock_name_at : Reader Name
clock_name_at ts = clock_name_by (expect m.Open ts) ts

abbrev pub clock_by : Option (List Token) → Reader (Name × Bool)
clock_by None ts = do
  x ← clock_name_at ts
  Some ((x.0, true), x.1)
clock_by (Some after) ts = do
  x ← clock_name_at after
  Some ((x.0, false), x.1)

unfoldable pub clock_at : Reader (Name × Bool)
clock_at ts = clock_by (expect m.Not ts) ts

-- ---- calls and iterators

-- the iterator that a name stands for where `<<` follows
unfoldable pub iterator_of : Name → Option ArrayIterator
iterator_of x =
    if bytes_eq x (iterator_name Map) then Some Map
    else if bytes_eq x (iterator_name Red) then Some Red
    else if bytes_eq x (iterator_name Fill) then Some Fill else None

abbrev pub symbol_of : Mark → Option BinaryOperator
symbol_of m.Plus = Some Plus
symbol_of m.Minus = Some Minus
symbol_of m.Star = Some Times
symbol_of m.And = Some And
symbol_of m.Or = Some Or
symbol_of m.Xor = Some Xor
symbol_of _ = None

abbrev pub arguments_by : Option (List Token) → Reader (List Static)
arguments_by None ts = Some ([], ts)
arguments_by (Some after) ts = do
  ss ← statics_at after
  rest ← expect m.CloseStatic ss.1
  Some (ss.0, rest)

-- static arguments, `<<s, t>>`, or none and no brackets
unfoldable pub arguments_at : Reader (List Static)
arguments_at ts = arguments_by (expect m.OpenStatic ts) ts

-- after `f<<`, the static arguments of a call, up to and with `>>(`
abbrev pub static_arguments_at : Reader (List Static)
static_arguments_at ts = do
  ss ← statics_at ts
  ts ← expect m.CloseStatic ss.1
  rest ← expect m.Open ts
  Some (ss.0, rest)

abbrev pub symbol_by : Option BinaryOperator → Reader Operator
symbol_by (Some op) ts = Some (Symbol op, ts)
symbol_by None ts = None

unfoldable pub operator_at : Reader Operator
operator_at (token.Name f ∷ ts) = do
  ss ← arguments_at ts
  Some (Node_named f ss.0, ss.1)
operator_at (token.Mark mark ∷ ts) = symbol_by (symbol_of mark) ts
operator_at _ = None

-- after `<<`, the node or operator that an iterator applies, and its size
unfoldable pub applied_at : Reader (Operator × Static)
applied_at ts = do
  f ← operator_at ts
  ts ← separator f.1
  n ← static_at ts
  rest ← expect m.CloseStatic n.1
  Some ((f.0, n.0), rest)

-- ---- expressions

abbrev pub exprs : List Expr → Exprs
exprs [] = Nil
exprs (e ∷ es) = Cons e (exprs es)

abbrev pub form_at : Token → Option Form
form_at (token.Mark mark) = form_of mark
form_at _ = None

-- whether a form takes `e` as its left operand, where at least level `least` is wanted
unfoldable pub takes : ℕ → Row → Expr → Bool
takes least row e =
    nat_le least row.level && (nat_le row.left (level e) && nat_le row.level (edge e))

abbrev pub element_by : Expr → Static → Option (List Token) → Reader Expr
element_by e i None ts = do
  rest ← expect m.CloseBracket ts
  Some (Index e i, rest)
element_by e i (Some after) ts = do
  j ← static_at after
  rest ← expect m.CloseBracket j.1
  Some (Slice e i j.0, rest)

-- after `e[`, an index or a slice of `e`
unfoldable pub element_at : Expr → Reader Expr
element_at e ts = do
  i ← static_at ts
  element_by e i.0 (expect m.DotDot i.1) i.1

-- the tree of an infix form and its two operands
abbrev pub infix_tree : Form → Expr → Expr → Expr
infix_tree (form.Data op) a b = Binary op a b
infix_tree form.Arrow a b = Arrow a b
infix_tree form.Fby a b = Fby a b
infix_tree _ a b = Join a b

-- the tree of a form with one tree inside
abbrev pub single : Single → Expr → Expr
single one.Group e = Group e
single (one.Unary op) e = Unary op e
single one.Pre e = Pre e
single one.Current e = Current e

-- the tree of a form with a list inside
abbrev pub listed : Listed → Exprs → Expr
listed many.Array es = Array es
listed many.AtMostOne es = AtMostOne es
listed many.Nor es = Nor es

-- `inner` reads a nested tree of at least a level, which may nest one less deep
module _ (inner : ℕ → Reader Expr) where
  unfoldable pub infix_at : Expr → Form → Reader Expr
  infix_at e form ts = do
    b ← inner (row_of form).right ts
    Some (infix_tree form e b.0, b.1)

  -- the tree that a form makes with its left operand and what follows its mark
  abbrev pub longer : Expr → Form → Reader Expr
  longer e form.When ts = do
    c ← clock_at ts
    Some (When e c.0.0 c.0.1, c.1)
  longer e form.Replicate ts = do
    n ← size_at ts
    Some (Replicate e n.0, n.1)
  longer e form.Element ts = element_at e ts
  longer e form ts = infix_at e form ts

  abbrev pub by_form : ℕ → Expr → List Token → Option Form → Step Expr
  by_form least e ts (Some form) =
      if takes least (row_of form) e then grown (longer e form ts) else Stop
  by_form least e ts None = Stop

  abbrev pub step : ℕ → Expr → List Token → Step Expr
  step least e [] = Stop
  step least e (t ∷ ts) = by_form least e ts (form_at t)

  -- any expression, and then a mark
  unfoldable pub until : Mark → Reader Expr
  until mark ts = do
    e ← inner 1 ts
    rest ← expect mark e.1
    Some (e.0, rest)

  unfoldable pub choice : Reader Expr
  choice ts = do
    c ← until m.Then ts
    a ← until m.Else c.1
    b ← inner choice_level a.1
    Some (If c.0 a.0 b.0, b.1)

  abbrev pub prefixed : (Expr → Expr) → ℕ → Reader Expr
  prefixed form k ts = do
    a ← inner k ts
    Some (form a.0, a.1)

  -- `a, b` and then a mark
  unfoldable pub list_until : Mark → Reader (List Expr)
  list_until mark ts = do
    es ← list_at (expect m.Comma) (inner 1) ts
    rest ← expect mark es.1
    Some (es.0, rest)

  -- `(a, b)`
  unfoldable pub items : Reader (List Expr)
  items ts = expect m.Open ts >>= list_until m.Close

  abbrev pub operands_by : Option (List Token) → Reader (List Expr)
  operands_by (Some after) ts = Some ([], after)
  operands_by None ts = list_until m.Close ts

  -- after `f(`, the operands of a call
  unfoldable pub operands : Reader (List Expr)
  operands ts = operands_by (expect m.Close ts) ts

  abbrev pub plain_by : Name → Option (List Token) → Reader Expr
  plain_by x None ts = Some (Variable x, ts)
  plain_by x (Some after) ts = do
    es ← operands after
    Some (Call x [] (exprs es.0), es.1)

  -- after `map<<`, the rest of an iterator
  unfoldable pub iterate : ArrayIterator → Reader Expr
  iterate i ts = do
    f ← applied_at ts
    es ← items f.1
    Some (Iterate i f.0.0 f.0.1 (exprs es.0), es.1)

  -- after `f<<`, the rest of a call
  unfoldable pub static_call : Name → Reader Expr
  static_call x ts = do
    ss ← statics_at ts
    ts ← expect m.CloseStatic ss.1
    ts ← expect m.Open ts
    es ← operands ts
    Some (Call x ss.0 (exprs es.0), es.1)

  abbrev pub static_call_by : Name → Option ArrayIterator → Reader Expr
  static_call_by x (Some i) ts = iterate i ts
  static_call_by x None ts = static_call x ts

  abbrev pub named_by : Name → Option (List Token) → Reader Expr
  named_by x None ts = plain_by x (expect m.Open ts) ts
  named_by x (Some after) ts = static_call_by x (iterator_of x) after

  -- the expression that begins with the name `x`
  unfoldable pub named : Name → Reader Expr
  named x ts = named_by x (expect m.OpenStatic ts) ts

  -- the expression that begins with a mark
  unfoldable pub marked : Mark → Reader Expr
  marked m.True ts = Some (Truth true, ts)
  marked m.False ts = Some (Truth false, ts)
  marked m.Open ts = do
    e ← until m.Close ts
    Some (Group e.0, e.1)
  marked m.Not ts = prefixed (Unary Not) (unary_level Not) ts
  marked m.Minus ts = prefixed (Unary Negate) (unary_level Negate) ts
  marked m.Pre ts = prefixed Pre memory_level ts
  marked m.Current ts = prefixed Current memory_level ts
  marked m.If ts = choice ts
  marked m.OpenBracket ts = do
    es ← list_until m.CloseBracket ts
    Some (Array (exprs es.0), es.1)
  marked m.Hash ts = do
    es ← items ts
    Some (AtMostOne (exprs es.0), es.1)
  marked m.Nor ts = do
    es ← items ts
    Some (Nor (exprs es.0), es.1)
  marked _ ts = None

  unfoldable pub first : Reader Expr
  first (token.Literal n ∷ ts) = Some (Literal n, ts)
  first (token.Name x ∷ ts) = named x ts
  first (token.Mark mark ∷ ts) = marked mark ts
  first [] = None

  unfoldable pub level_at : ℕ → Reader Expr
  level_at least ts = do
    e ← first ts
    climb (step least) (length ts) e.0 e.1

-- a tree of at least level `least`, nested no deeper than the first argument
unfoldable pub tree_at : ℕ → ℕ → Reader Expr
tree_at zero least ts = None
tree_at (suc n) least ts = level_at (tree_at n) least ts

unfoldable pub expression_at : Reader Expr
expression_at ts = tree_at (length ts) 1 ts
