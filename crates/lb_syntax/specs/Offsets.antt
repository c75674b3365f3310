-- Where parts of a tree stand in the text, as far as a clause sees it: a name is seen by its bytes
-- alone, and all else with its offset.
-- Source: this project's rule.
use Rattle.std.specs.Prelude.{ℕ, Option, Some, None}
use Rattle.lb_syntax.specs.declared.tree.Static.{Static, Whole, Named, Negated', Combined'}
use Rattle.lb_syntax.specs.declared.tree.Static.{Grouped'}
use Rattle.lb_syntax.specs.declared.tree.Expr.{Expr, Literal, Truth, Variable, Group', Unary'}
use Rattle.lb_syntax.specs.declared.tree.Expr.{Binary', If', Arrow', Fby', Pre', Current', When'}
use Rattle.lb_syntax.specs.declared.tree.Expr.{Replicate', Index', Slice', Join', Array'}
use Rattle.lb_syntax.specs.declared.tree.Expr.{AtMostOne', Nor', Call', Iterate'}
use Rattle.lb_syntax.specs.declared.tree.Statement.{Statement}
use Rattle.lb_syntax.specs.declared.tree.Statement.TheVariants.{Equation, Assertion}

-- the offset of the first token of a static expression, unless that token is a name
abbrev pub static_offset : Static → Option ℕ
static_offset (Whole n at) = Some at
static_offset (Named x) = None
static_offset (Negated' p s at) = Some at
static_offset (Combined' op p s q t at) = static_offset s
static_offset (Grouped' p s at) = Some at

-- the offset of the sign between the two operands of a static expression
abbrev pub static_sign : Static → Option ℕ
static_sign (Whole n at) = None
static_sign (Named x) = None
static_sign (Negated' p s at) = None
static_sign (Combined' op p s q t at) = Some at
static_sign (Grouped' p s at) = None

-- the offset of the first token of an expression, unless that token is a name
abbrev pub expr_offset : Expr → Option ℕ
expr_offset (Literal n at) = Some at
expr_offset (Truth b at) = Some at
expr_offset (Variable x) = None
expr_offset (Group' p e at) = Some at
expr_offset (Unary' op p a at) = Some at
expr_offset (Binary' op p a q b at) = expr_offset a
expr_offset (If' p c q a r b at) = Some at
expr_offset (Arrow' p a q b at) = expr_offset a
expr_offset (Fby' p a q b at) = expr_offset a
expr_offset (Pre' p a at) = Some at
expr_offset (Current' p a at) = Some at
expr_offset (When' p e x sign at) = expr_offset e
expr_offset (Replicate' p e n at) = expr_offset e
expr_offset (Index' p e i at) = expr_offset e
expr_offset (Slice' p e i j at) = expr_offset e
expr_offset (Join' p a q b at) = expr_offset a
expr_offset (Array' arity es at) = Some at
expr_offset (AtMostOne' arity es at) = Some at
expr_offset (Nor' arity es at) = Some at
expr_offset (Call' f args arity es) = None
expr_offset (Iterate' i f n arity es at) = Some at

-- the offset of the sign that follows the left operand of an expression
abbrev pub expr_sign : Expr → Option ℕ
expr_sign (Binary' op p a q b at) = Some at
expr_sign (Arrow' p a q b at) = Some at
expr_sign (Fby' p a q b at) = Some at
expr_sign (When' p e x sign at) = Some at
expr_sign (Replicate' p e n at) = Some at
expr_sign (Index' p e i at) = Some at
expr_sign (Slice' p e i j at) = Some at
expr_sign (Join' p a q b at) = Some at
expr_sign (Literal n at) = None
expr_sign (Truth b at) = None
expr_sign (Variable x) = None
expr_sign (Group' p e at) = None
expr_sign (Unary' op p a at) = None
expr_sign (If' p c q a r b at) = None
expr_sign (Pre' p a at) = None
expr_sign (Current' p a at) = None
expr_sign (Array' arity es at) = None
expr_sign (AtMostOne' arity es at) = None
expr_sign (Nor' arity es at) = None
expr_sign (Call' f args arity es) = None
expr_sign (Iterate' i f n arity es at) = None

-- the offset of the first token of a statement
abbrev pub statement_offset : Statement → ℕ
statement_offset (Equation left e at) = at
statement_offset (Assertion e at) = at
