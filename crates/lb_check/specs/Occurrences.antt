-- Every occurrence of an expression in the text of a node, with its clock and the number of calls
-- before it.
-- Source: Lustre V6 reference manual, clocks of expressions. The clocks of arguments are this
-- project's rule.
use Rattle.std.specs.Prelude.{ℕ, ◌+◌, Option, Some, None, List, [], ◌∷◌, ◌++◌, length, flat_map}
use Rattle.std.specs.List.{zip}
use Rattle.lb_syntax.specs.Tree.{Node_named, Symbol, Expr, Literal, Truth, Variable, Group, Unary}
use Rattle.lb_syntax.specs.Tree.{Binary, If, Arrow, Fby, Pre, Current, When, Replicate, Index}
use Rattle.lb_syntax.specs.Tree.{Slice, Join, Array, AtMostOne, Nor, Call, Iterate, Exprs, Nil}
use Rattle.lb_syntax.specs.Tree.{Cons, Node, Statement, Equation, Assertion}
use Rattle.lb_static.specs.Instances.{Program, sites, node_named, statement_sites}
use Rattle.lb_static.specs.Parts.{right_side}
use Rattle.lb_check.specs.Clocks.{Clock, Base, clock_of, clock_or, declared_clock, argument_clocks}

-- an expression where it stands: the clock that the text around it gives it, and how many calls
-- stand before it in the text of its node, which is the number of its first call
pub record Occurrence : Type 0 where
  pub expr : Expr
  pub clock : Clock
  pub calls_before : ℕ

abbrev pub at : Clock → ℕ → Expr → Occurrence
at k n e = record { expr = e; clock = k; calls_before = n }

-- the number of calls in an expression
abbrev pub call_count : Expr → ℕ
call_count e = length (sites e)

-- the clocks of a call's arguments, as the caller sees them
abbrev pub call_clocks : Clock → Option Node → Exprs → List Clock
call_clocks k None es = []
call_clocks k (Some callee) es = argument_clocks k callee es

abbrev mutual
  -- the occurrences of an expression on clock `k` after `n` calls, and of its parts, in text order;
  -- parentheses are no occurrence
  pub occurrences : Program → Node → Clock → ℕ → Expr → List Occurrence
  occurrences P here k n (Literal m) = at k n (Literal m) ∷ []
  occurrences P here k n (Truth b) = at k n (Truth b) ∷ []
  occurrences P here k n (Variable x) = at k n (Variable x) ∷ []
  occurrences P here k n (Group a) = occurrences P here k n a
  occurrences P here k n (Unary op a) = at k n (Unary op a) ∷ occurrences P here k n a
  occurrences P here k n (Binary op a b) =
      at k n (Binary op a b)
      ∷ (occurrences P here k n a ++ occurrences P here k (n + call_count a) b)
  occurrences P here k n (If c a b) =
      at k n (If c a b)
      ∷ (occurrences P here k n c
      ++ (occurrences P here k (n + call_count c) a
      ++ occurrences P here k (n + call_count c + call_count a) b))
  occurrences P here k n (Arrow a b) =
      at k n (Arrow a b)
      ∷ (occurrences P here k n a ++ occurrences P here k (n + call_count a) b)
  occurrences P here k n (Fby a b) =
      at k n (Fby a b)
      ∷ (occurrences P here k n a ++ occurrences P here k (n + call_count a) b)
  occurrences P here k n (Pre a) = at k n (Pre a) ∷ occurrences P here k n a
  occurrences P here k n (When a x sign) =
      at k n (When a x sign) ∷ occurrences P here (declared_clock here x) n a
  occurrences P here k n (Current a) =
      at k n (Current a) ∷ occurrences P here (clock_or (clock_of P here a)) n a
  occurrences P here k n (Replicate a m) = at k n (Replicate a m) ∷ occurrences P here k n a
  occurrences P here k n (Index a i) = at k n (Index a i) ∷ occurrences P here k n a
  occurrences P here k n (Slice a i j) = at k n (Slice a i j) ∷ occurrences P here k n a
  occurrences P here k n (Join a b) =
      at k n (Join a b)
      ∷ (occurrences P here k n a ++ occurrences P here k (n + call_count a) b)
  occurrences P here k n (Array es) = at k n (Array es) ∷ occurrences_in P here k n es
  occurrences P here k n (AtMostOne es) = at k n (AtMostOne es) ∷ occurrences_in P here k n es
  occurrences P here k n (Nor es) = at k n (Nor es) ∷ occurrences_in P here k n es
  occurrences P here k n (Call f statics es) =
      at k n (Call f statics es)
      ∷ occurrences_each P here (call_clocks k (node_named P f) es) (n + 1) es
  occurrences P here k n (Iterate it (Node_named f statics) m es) =
      at k n (Iterate it (Node_named f statics) m es) ∷ occurrences_in P here k (n + 1) es
  occurrences P here k n (Iterate it (Symbol op) m es) =
      at k n (Iterate it (Symbol op) m es) ∷ occurrences_in P here k n es

  -- the occurrences of a row of expressions on one clock
  pub occurrences_in : Program → Node → Clock → ℕ → Exprs → List Occurrence
  occurrences_in P here k n Nil = []
  occurrences_in P here k n (Cons e es) =
      occurrences P here k n e ++ occurrences_in P here k (n + call_count e) es

  -- the occurrences of a row of expressions, each on a clock of its own
  pub occurrences_each : Program → Node → List Clock → ℕ → Exprs → List Occurrence
  occurrences_each P here ks n Nil = []
  occurrences_each P here [] n (Cons e es) = []
  occurrences_each P here (k ∷ ks) n (Cons e es) =
      occurrences P here k n e ++ occurrences_each P here ks (n + call_count e) es

-- ## Statements

-- the clock of a statement: of an equation that of its first left variable; of an assertion its
-- own, or the base clock where nothing determines it
abbrev pub statement_clock : Program → Node → Statement → Clock
statement_clock P here (Equation [] e) = Base
statement_clock P here (Equation (x ∷ xs) e) = declared_clock here x
statement_clock P here (Assertion e) = clock_or (clock_of P here e)

-- the right side of each statement, as an occurrence
abbrev pub right_sides : Program → Node → ℕ → List Statement → List Occurrence
right_sides P here n [] = []
right_sides P here n (s ∷ rest) =
    at (statement_clock P here s) n (right_side s)
    ∷ right_sides P here (n + length (statement_sites s)) rest

-- the statements of a node, each with its right side
abbrev pub statements : Program → Node → List (Statement × Occurrence)
statements P here = zip here.body (right_sides P here 0 here.body)

-- every occurrence of an expression in a node
abbrev pub node_occurrences : Program → Node → List Occurrence
node_occurrences P here =
    flat_map (λ r. occurrences P here r.clock r.calls_before r.expr)
    (right_sides P here 0 here.body)
