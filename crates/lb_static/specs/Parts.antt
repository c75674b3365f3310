-- The parts of the text of a node.
-- Source: Lustre V6 reference manual, expressions. That parentheses are no part is this project's
-- rule.
use Rattle.std.specs.Prelude.{Bool, option_map, List, [], ◌∷◌, ◌++◌, map, flat_map}
use Rattle.std.specs.Str.{bytes_eq}
use Rattle.std.specs.List.{list_any}
use Rattle.lb_syntax.specs.Lists.{some_of}
use Rattle.lb_syntax.specs.Tree.{Name, Static, Whole, Named, Negated, Combined, Grouped, Node_named}
use Rattle.lb_syntax.specs.Tree.{Expr, Literal, Truth, Variable, Group, Unary, Binary, If, Arrow}
use Rattle.lb_syntax.specs.Tree.{Fby, Pre, Current, When, Replicate, Index, Slice, Join, Array}
use Rattle.lb_syntax.specs.Tree.{AtMostOne, Nor, Call, Iterate, Exprs, Nil, Cons, Node, Statement}
use Rattle.lb_syntax.specs.Tree.{Equation, Assertion}
use Rattle.lb_static.specs.DataTypes.{variables}

-- a name is one of these
abbrev pub among : Name → List Name → Bool
among x ys = list_any (bytes_eq x) ys

-- ## Expressions and their parts

abbrev mutual
  -- an expression and its parts, in text order; parentheses are no part
  pub parts : Expr → List Expr
  parts (Literal n) = Literal n ∷ []
  parts (Truth b) = Truth b ∷ []
  parts (Variable x) = Variable x ∷ []
  parts (Group a) = parts a
  parts (Unary op a) = Unary op a ∷ parts a
  parts (Binary op a b) = Binary op a b ∷ (parts a ++ parts b)
  parts (If c a b) = If c a b ∷ (parts c ++ (parts a ++ parts b))
  parts (Arrow a b) = Arrow a b ∷ (parts a ++ parts b)
  parts (Fby a b) = Fby a b ∷ (parts a ++ parts b)
  parts (Pre a) = Pre a ∷ parts a
  parts (Current a) = Current a ∷ parts a
  parts (When a x sign) = When a x sign ∷ parts a
  parts (Replicate a n) = Replicate a n ∷ parts a
  parts (Index a i) = Index a i ∷ parts a
  parts (Slice a i j) = Slice a i j ∷ parts a
  parts (Join a b) = Join a b ∷ (parts a ++ parts b)
  parts (Array es) = Array es ∷ parts_in es
  parts (AtMostOne es) = AtMostOne es ∷ parts_in es
  parts (Nor es) = Nor es ∷ parts_in es
  parts (Call f statics es) = Call f statics es ∷ parts_in es
  parts (Iterate it op m es) = Iterate it op m es ∷ parts_in es

  pub parts_in : Exprs → List Expr
  parts_in Nil = []
  parts_in (Cons e es) = parts e ++ parts_in es

abbrev pub right_side : Statement → Expr
right_side (Equation lefts e) = e
right_side (Assertion e) = e

abbrev pub left_names : Statement → List Name
left_names (Equation lefts e) = lefts
left_names (Assertion e) = []

-- every expression of a node, with its parts
abbrev pub node_parts : Node → List Expr
node_parts n = flat_map (λ s. parts (right_side s)) n.body

-- ## The contents of an expression itself, without its parts

-- the name of a variable, static parameter or constant that an expression is
abbrev pub own_names : Expr → List Name
own_names (Variable x) = x ∷ []
own_names _ = []

-- the name of a clock
abbrev pub own_clock_names : Expr → List Name
own_clock_names (When a x sign) = x ∷ []
own_clock_names _ = []

-- sizes
abbrev pub own_sizes : Expr → List Static
own_sizes (Replicate a n) = n ∷ []
own_sizes (Iterate it op n es) = n ∷ []
own_sizes _ = []

-- indexes, and the ends of a slice
abbrev pub own_indexes : Expr → List Static
own_indexes (Index a i) = i ∷ []
own_indexes (Slice a i j) = i ∷ j ∷ []
own_indexes _ = []

-- both ends of a slice
abbrev pub own_slices : Expr → List (Static × Static)
own_slices (Slice a i j) = (i, j) ∷ []
own_slices _ = []

-- static arguments
abbrev pub own_arguments : Expr → List Static
own_arguments (Call f statics es) = statics
own_arguments (Iterate it (Node_named f statics) n es) = statics
own_arguments _ = []

-- ## The contents of a node

-- the names of variables, static parameters and constants in expressions
abbrev pub node_names : Node → List Name
node_names n = flat_map own_names (node_parts n)

abbrev pub declared_sizes : Node → List Static
declared_sizes n = flat_map (λ d. d.sizes) (variables n)

abbrev pub node_sizes : Node → List Static
node_sizes n = declared_sizes n ++ flat_map own_sizes (node_parts n)

abbrev pub node_indexes : Node → List Static
node_indexes n = flat_map own_indexes (node_parts n)

abbrev pub node_slices : Node → List (Static × Static)
node_slices n = flat_map own_slices (node_parts n)

-- every static expression of a node
abbrev pub node_statics : Node → List Static
node_statics n = node_sizes n ++ (node_indexes n ++ flat_map own_arguments (node_parts n))

-- the names in a static expression
abbrev pub static_names : Static → List Name
static_names (Whole n) = []
static_names (Named x) = x ∷ []
static_names (Negated s) = static_names s
static_names (Combined op s t) = static_names s ++ static_names t
static_names (Grouped s) = static_names s

abbrev pub node_static_names : Node → List Name
node_static_names n = flat_map static_names (node_statics n)

-- the names at the place of a clock, in declarations and in expressions
abbrev pub clock_names : Node → List Name
clock_names n =
    some_of (map (λ d. option_map (λ s. s.variable) d.clock) (variables n))
    ++ flat_map own_clock_names (node_parts n)

abbrev pub variable_names : Node → List Name
variable_names n = map (λ d. d.name) (variables n)

-- the names that a node declares; they hide constants
abbrev pub declared_names : Node → List Name
declared_names n = variable_names n ++ n.parameters
