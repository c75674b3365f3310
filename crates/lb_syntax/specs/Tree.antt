-- The plain trees of a source text: its shape, names and literals alone.
-- Source: the syntax of the Lustre V6 reference manual, narrowed to this project's profile.
use Rattle.std.specs.Prelude.{ℕ, Bool, List, Option}
pub use Rattle.lb_syntax.specs.declared.tree.UnaryOperator.{UnaryOperator}
pub use Rattle.lb_syntax.specs.declared.tree.UnaryOperator.TheVariants.{Not, Negate}
pub use Rattle.lb_syntax.specs.declared.tree.BinaryOperator.{BinaryOperator}
pub use Rattle.lb_syntax.specs.declared.tree.Kind.{Kind}
pub use Rattle.lb_syntax.specs.declared.tree.Kind.TheVariants.{Int as Int_kind, Bool as Bool_kind}
pub use Rattle.lb_syntax.specs.declared.tree.ArrayIterator.{ArrayIterator}
pub use Rattle.lb_syntax.specs.declared.tree.ArrayIterator.TheVariants.{Map, Red, Fill}

-- a name, as its bytes
abbrev pub Name : Type 0
Name = List ℕ

-- a static expression, a whole number known before the run: `17`, `n`, `- s`, `s + t`, `(s)`
pub data Static : Type 0 where
  Whole : ℕ → Static
  Named : Name → Static
  Negated : Static → Static
  Combined : BinaryOperator → Static → Static → Static
  Grouped : Static → Static

-- the node or operator that an iterator applies: `f<<s, t>>`, or one of `+ - * and or xor`
pub data Operator : Type 0 where
  Node_named : Name → List Static → Operator
  Symbol : BinaryOperator → Operator

mutual
  pub data Expr : Type 0 where
    Literal : ℕ → Expr  -- `17`
    Truth : Bool → Expr  -- `true`, `false`
    Variable : Name → Expr  -- `x`
    Group : Expr → Expr  -- `(e)`
    Unary : UnaryOperator → Expr → Expr  -- `not e`, `- e`
    Binary : BinaryOperator → Expr → Expr → Expr  -- `a + b`
    If : Expr → Expr → Expr → Expr  -- `if c then a else b`
    Arrow : Expr → Expr → Expr  -- `a -> b`
    Fby : Expr → Expr → Expr  -- `a fby b`
    Pre : Expr → Expr  -- `pre e`
    Current : Expr → Expr  -- `current e`
    When : Expr → Name → Bool → Expr  -- `e when c`, `e when not c`
    Replicate : Expr → Static → Expr  -- `e ^ n`
    Index : Expr → Static → Expr  -- `e[i]`
    Slice : Expr → Static → Static → Expr  -- `e[i..j]`
    Join : Expr → Expr → Expr  -- `a | b`
    Array : Exprs → Expr  -- `[a, b, c]`
    AtMostOne : Exprs → Expr  -- `#(a, b, c)`
    Nor : Exprs → Expr  -- `nor(a, b, c)`
    Call : Name → List Static → Exprs → Expr  -- `f<<s, t>>(a, b)`
    Iterate : ArrayIterator → Operator → Static → Exprs → Expr  -- `map<<f, n>>(a, b)`

  pub data Exprs : Type 0 where
    Nil : Exprs
    Cons : Expr → Exprs → Exprs

-- a clock as it is written, `when c` or `when not c`: the variable, and the value it waits for
pub record Sampling : Type 0 where
  pub variable : Name
  pub sign : Bool

-- a variable with its sizes as they are written, the innermost first: `x: int^3^2 when c`
pub record Declaration : Type 0 where
  pub name : Name
  pub kind : Kind
  pub sizes : List Static
  pub clock : Option Sampling

-- `x = e;`, `(x, y) = e;` and `assert e;`
pub data Statement : Type 0 where
  Equation : List Name → Expr → Statement
  Assertion : Expr → Statement

-- a node or a function
pub record Node : Type 0 where
  pub name : Name
  pub is_function : Bool
  pub parameters : List Name
  pub inputs : List Declaration
  pub outputs : List Declaration
  pub locals : List Declaration
  pub body : List Statement

-- a named constant: `const n = s;`
pub record Constant : Type 0 where
  pub name : Name
  pub value : Static

-- the constants, and the nodes and functions, each in text order
pub record Source : Type 0 where
  pub constants : List Constant
  pub nodes : List Node
