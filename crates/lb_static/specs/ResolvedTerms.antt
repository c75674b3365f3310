-- The tree that a node with resolved names stands for, with the names put back.
-- This file says what data of the program mean; no definition of the language stands on it.
use Rattle.std.specs.Prelude.{ℕ, ◌+◌, Bool, true, false, ◌&&◌, not, nat_le, nat_lt, Option, None}
use Rattle.std.specs.Prelude.{Some, option_map, List, [], ◌∷◌, map, take, drop, slice_get}
use Rattle.std.specs.List.{list_all}
use Rattle.lb_syntax.specs.Lists.{either_or}
use Rattle.lb_syntax.specs.Tree as tree
use Rattle.lb_syntax.specs.Tree.{Name, Static, Whole, Expr, Exprs, Nil, Cons, Declaration}
use Rattle.lb_syntax.specs.Tree.{Statement}
use Rattle.lb_syntax.specs.View.{view_static}
use Rattle.lb_syntax.specs.declared.tree.ArrayIterator.{ArrayIterator}
use Rattle.lb_static.specs.Instances.{Site}
use Rattle.lb_static.specs.Parts.{among}
use Rattle.lb_static.specs.declared.resolved.VariableId.{VariableId}
use Rattle.lb_static.specs.declared.resolved.StaticId.{StaticId}
use Rattle.lb_static.specs.declared.resolved.CallId.{CallId}
use Rattle.lb_static.specs.declared.resolved.Sampling.{Sampling}
use Rattle.lb_static.specs.declared.resolved.Variable.{Variable as Declared}
use Rattle.lb_static.specs.declared.resolved.CallSite.{CallSite}
use Rattle.lb_static.specs.declared.resolved.StaticText.{StaticText}
use Rattle.lb_static.specs.declared.resolved.StaticText.TheVariants.{Written, Named as Named_text}
use Rattle.lb_static.specs.declared.resolved.ResolvedStatement.{ResolvedStatement}
use Rattle.lb_static.specs.declared.resolved.ResolvedStatement.TheVariants as statement
use Rattle.lb_static.specs.declared.resolved.Term.{Term, Literal, Truth, Variable, Value, Group'}
use Rattle.lb_static.specs.declared.resolved.Term.{Unary', Binary', If', Arrow', Fby', Pre'}
use Rattle.lb_static.specs.declared.resolved.Term.{Current', When', Replicate', Index', Slice'}
use Rattle.lb_static.specs.declared.resolved.Term.{Join', Array', AtMostOne', Nor', Call'}
use Rattle.lb_static.specs.declared.resolved.Term.{IterateNode', IterateSymbol', Row_of-Term}
use Rattle.lb_static.specs.declared.resolved.Term.{end_of-Term, more_of-Term}

-- ## The meaning of the numbers of a node

-- the names of a node's variables, its static expressions, and its calls
pub record Texts : Type 0 where
  pub variables : List Name
  pub statics : List Static
  pub calls : List Site

abbrev pub static_of : StaticText → Static
static_of (Written s) = view_static s.now
static_of (Named_text x) = tree.Named x.now

abbrev pub name_at : List Name → VariableId → Name
name_at names x = either_or (slice_get names x.0) []

abbrev pub static_at : List Static → StaticId → Static
static_at statics i = either_or (slice_get statics i.0) (Whole 0)

-- the static expressions from `first` on, at most `count`
abbrev pub statics_at : List Static → StaticId → ℕ → List Static
statics_at statics first count = take count (drop first.0 statics)

-- a place holder for a call that is not there
abbrev pub no_site : Site
no_site = record { callee = []; arguments = []; count = None }

abbrev pub site_at : List Site → CallId → Site
site_at calls c = either_or (slice_get calls c.0) no_site

-- ## Expressions

-- the expression that names a static parameter or a constant
abbrev pub named_value : Static → Expr
named_value (tree.Named x) = tree.Variable x
named_value s = tree.Literal 0

abbrev pub call_expr : Site → Exprs → Expr
call_expr s es = tree.Call s.callee s.arguments es

abbrev pub iterate_expr : ArrayIterator → Site → Exprs → Expr
iterate_expr it s es =
    tree.Iterate it (tree.Node_named s.callee s.arguments) (either_or s.count (Whole 0)) es

abbrev mutual
  -- the expression that a term stands for
  pub expr_of : Texts → Term → Expr
  expr_of t (Literal n) = tree.Literal n
  expr_of t (Truth b) = tree.Truth b
  expr_of t (Variable x) = tree.Variable (name_at t.variables x)
  expr_of t (Value i) = named_value (static_at t.statics i)
  expr_of t (Group' p e) = tree.Group (expr_of t e)
  expr_of t (Unary' op p a) = tree.Unary op (expr_of t a)
  expr_of t (Binary' op p a q b) = tree.Binary op (expr_of t a) (expr_of t b)
  expr_of t (If' p c q a r b) = tree.If (expr_of t c) (expr_of t a) (expr_of t b)
  expr_of t (Arrow' p a q b) = tree.Arrow (expr_of t a) (expr_of t b)
  expr_of t (Fby' p a q b) = tree.Fby (expr_of t a) (expr_of t b)
  expr_of t (Pre' p e) = tree.Pre (expr_of t e)
  expr_of t (Current' p e) = tree.Current (expr_of t e)
  expr_of t (When' p e x sign) = tree.When (expr_of t e) (name_at t.variables x) sign
  expr_of t (Replicate' p e n) = tree.Replicate (expr_of t e) (static_at t.statics n)
  expr_of t (Index' p e i) = tree.Index (expr_of t e) (static_at t.statics i)
  expr_of t (Slice' p e i j) =
      tree.Slice (expr_of t e) (static_at t.statics i) (static_at t.statics j)
  expr_of t (Join' p a q b) = tree.Join (expr_of t a) (expr_of t b)
  expr_of t (Array' arity all) = tree.Array (row_of t all)
  expr_of t (AtMostOne' arity all) = tree.AtMostOne (row_of t all)
  expr_of t (Nor' arity all) = tree.Nor (row_of t all)
  expr_of t (Call' c arity all) = call_expr (site_at t.calls c) (row_of t all)
  expr_of t (IterateNode' it c arity all) = iterate_expr it (site_at t.calls c) (row_of t all)
  expr_of t (IterateSymbol' it op n arity all) =
      tree.Iterate it (tree.Symbol op) (static_at t.statics n) (row_of t all)

  pub row_of : {m : _} → Texts → Row_of-Term m → Exprs
  row_of t end_of-Term = Nil
  row_of t (more_of-Term e rest) = Cons (expr_of t e) (row_of t rest)

-- the expressions that a list of terms stands for
abbrev pub exprs_of : Texts → List Term → Exprs
exprs_of t [] = Nil
exprs_of t (e ∷ es) = Cons (expr_of t e) (exprs_of t es)

abbrev pub statement_of : Texts → ResolvedStatement → Statement
statement_of t (statement.Equation lefts e) =
    tree.Equation (map (name_at t.variables) lefts.items) (expr_of t e)
statement_of t (statement.Assertion e) = tree.Assertion (expr_of t e)

-- ## Declarations and calls

abbrev pub sampling_of : List Name → Sampling → tree.Sampling
sampling_of names s = record { variable = name_at names s.variable; sign = s.sign }

abbrev pub declaration_of : List Name → List Static → Name → Declared → Declaration
declaration_of names statics x v = record {
  name = x;
  kind = v.kind;
  sizes = statics_at statics v.first_size v.sizes;
  clock = option_map (sampling_of names) v.clock;
}

-- the call that a call site stands for, where `nodes` are the names of the nodes of the source
abbrev pub site_of : List Name → List Static → CallSite → Site
site_of nodes statics s = record {
  callee = either_or (slice_get nodes s.callee.0) [];
  arguments = statics_at statics s.first_argument s.arguments;
  count = option_map (static_at statics) s.count;
}

-- ## Numbers within range

-- the numbers of variables, static expressions and calls of a node
pub record Counts : Type 0 where
  pub variables : ℕ
  pub statics : ℕ
  pub calls : ℕ

abbrev pub is_variable : Counts → VariableId → Bool
is_variable n x = nat_lt x.0 n.variables

abbrev pub is_static : Counts → StaticId → Bool
is_static n i = nat_lt i.0 n.statics

abbrev pub is_call : Counts → CallId → Bool
is_call n c = nat_lt c.0 n.calls

-- `count` static expressions from `first` on are there
abbrev pub are_statics : Counts → StaticId → ℕ → Bool
are_statics n first count = nat_le (first.0 + count) n.statics

abbrev mutual
  -- each number of a term is within range
  pub is_within : Counts → Term → Bool
  is_within n (Literal m) = true
  is_within n (Truth b) = true
  is_within n (Variable x) = is_variable n x
  is_within n (Value i) = is_static n i
  is_within n (Group' p e) = is_within n e
  is_within n (Unary' op p a) = is_within n a
  is_within n (Binary' op p a q b) = is_within n a && is_within n b
  is_within n (If' p c q a r b) = is_within n c && (is_within n a && is_within n b)
  is_within n (Arrow' p a q b) = is_within n a && is_within n b
  is_within n (Fby' p a q b) = is_within n a && is_within n b
  is_within n (Pre' p e) = is_within n e
  is_within n (Current' p e) = is_within n e
  is_within n (When' p e x sign) = is_variable n x && is_within n e
  is_within n (Replicate' p e i) = is_static n i && is_within n e
  is_within n (Index' p e i) = is_static n i && is_within n e
  is_within n (Slice' p e i j) = is_static n i && (is_static n j && is_within n e)
  is_within n (Join' p a q b) = is_within n a && is_within n b
  is_within n (Array' arity all) = are_within n all
  is_within n (AtMostOne' arity all) = are_within n all
  is_within n (Nor' arity all) = are_within n all
  is_within n (Call' c arity all) = is_call n c && are_within n all
  is_within n (IterateNode' it c arity all) = is_call n c && are_within n all
  is_within n (IterateSymbol' it op i arity all) = is_static n i && are_within n all

  pub are_within : {m : _} → Counts → Row_of-Term m → Bool
  are_within n end_of-Term = true
  are_within n (more_of-Term e rest) = is_within n e && are_within n rest

abbrev pub is_statement_within : Counts → ResolvedStatement → Bool
is_statement_within n (statement.Equation lefts e) =
    list_all (is_variable n) lefts.items && is_within n e
is_statement_within n (statement.Assertion e) = is_within n e

abbrev pub is_sampling_within : Counts → Option Sampling → Bool
is_sampling_within n None = true
is_sampling_within n (Some s) = is_variable n s.variable

abbrev pub is_declared_within : Counts → Declared → Bool
is_declared_within n v = are_statics n v.first_size v.sizes && is_sampling_within n v.clock

abbrev pub is_count_within : Counts → Option StaticId → Bool
is_count_within n None = true
is_count_within n (Some i) = is_static n i

-- a static expression is a name, and not the name of a variable
abbrev pub is_no_variable : List Name → Static → Bool
is_no_variable names (tree.Named x) = not (among x names)
is_no_variable names s = false

abbrev mutual
  -- where a term has the name of a constant or a static parameter, no variable hides it
  pub is_unhidden : Texts → Term → Bool
  is_unhidden t (Literal m) = true
  is_unhidden t (Truth b) = true
  is_unhidden t (Variable x) = true
  is_unhidden t (Value i) = is_no_variable t.variables (static_at t.statics i)
  is_unhidden t (Group' p e) = is_unhidden t e
  is_unhidden t (Unary' op p a) = is_unhidden t a
  is_unhidden t (Binary' op p a q b) = is_unhidden t a && is_unhidden t b
  is_unhidden t (If' p c q a r b) = is_unhidden t c && (is_unhidden t a && is_unhidden t b)
  is_unhidden t (Arrow' p a q b) = is_unhidden t a && is_unhidden t b
  is_unhidden t (Fby' p a q b) = is_unhidden t a && is_unhidden t b
  is_unhidden t (Pre' p e) = is_unhidden t e
  is_unhidden t (Current' p e) = is_unhidden t e
  is_unhidden t (When' p e x sign) = is_unhidden t e
  is_unhidden t (Replicate' p e i) = is_unhidden t e
  is_unhidden t (Index' p e i) = is_unhidden t e
  is_unhidden t (Slice' p e i j) = is_unhidden t e
  is_unhidden t (Join' p a q b) = is_unhidden t a && is_unhidden t b
  is_unhidden t (Array' arity all) = are_unhidden t all
  is_unhidden t (AtMostOne' arity all) = are_unhidden t all
  is_unhidden t (Nor' arity all) = are_unhidden t all
  is_unhidden t (Call' c arity all) = are_unhidden t all
  is_unhidden t (IterateNode' it c arity all) = are_unhidden t all
  is_unhidden t (IterateSymbol' it op i arity all) = are_unhidden t all

  pub are_unhidden : {m : _} → Texts → Row_of-Term m → Bool
  are_unhidden t end_of-Term = true
  are_unhidden t (more_of-Term e rest) = is_unhidden t e && are_unhidden t rest

abbrev pub is_statement_unhidden : Texts → ResolvedStatement → Bool
is_statement_unhidden t (statement.Equation lefts e) = is_unhidden t e
is_statement_unhidden t (statement.Assertion e) = is_unhidden t e

-- each number of a call site is within range, where the source has `nodes` nodes
abbrev pub is_site_within : (nodes : ℕ) → Counts → CallSite → Bool
is_site_within nodes n s =
    nat_lt s.callee.0 nodes
    && (are_statics n s.first_argument s.arguments && is_count_within n s.count)
