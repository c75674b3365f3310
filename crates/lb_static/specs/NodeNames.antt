-- The names of a node: their places, and whether each of them has a meaning.
-- The tests mirror the recursion of the code; no definition of the language stands on them.
use Rattle.std.specs.Prelude.{◌≡◌, ℕ, Bool, true, ◌&&◌, List, [], nat_eq, Some, None, length}
use Rattle.std.specs.Prelude.{slice_get, nat_lt}
use Rattle.std.specs.List.{list_all}
use Rattle.lb_syntax.specs.Lists.{either_or, holds}
use Rattle.lb_syntax.specs.SourceView.{view_node, view_source}
use Rattle.lb_syntax.specs.Tree.{Name, Static, Node_named, Symbol, Expr, Literal, Truth, Variable}
use Rattle.lb_syntax.specs.Tree.{Group, Unary, Binary, If, Arrow, Fby, Pre, Current, When}
use Rattle.lb_syntax.specs.Tree.{Replicate, Index, Slice, Join, Array, AtMostOne, Nor, Call}
use Rattle.lb_syntax.specs.Tree.{Iterate, Exprs, Nil, Cons, Node, Statement, Equation, Assertion}
use Rattle.lb_static.specs.Instances.{Program, Site, node_named}
use Rattle.lb_static.specs.CountedNames.{NameUse, Statics, Values, Variables, counted, every}
use Rattle.lb_static.specs.CountedNames.{is_callable_where}
use Rattle.lb_static.specs.NameFaults.{alone}
use Rattle.lb_static.specs.Names.{is_known, is_static_name, is_variable}
use Rattle.lb_static.specs.Parts.{static_names, variable_names}
use Rattle.lb_static.specs.ReachedNodes.{source_names}
use Rattle.lb_static.specs.ResolvedTerms.{name_at}
use Rattle.lb_static.specs.declared.node_scope.NodeScope.{NodeScope}
use Rattle.lb_static.specs.declared.resolved.NodePlace.{NodePlace}
use Rattle.lb_static.specs.declared.resolved.VariableId.{VariableId}

-- ## The names of a node

abbrev pub node_in : NodeScope → Node
node_in n = view_node n.tree.now

abbrev pub program_in : NodeScope → Program
program_in n = alone (view_source n.source.now)

-- `place` is the place of the variable with the name `x`
abbrev pub IsVariableAt : Node → Name → VariableId → Type 0
IsVariableAt n x place =
    (name_at (variable_names n) place ≡ x)
    × (nat_lt place.0 (length (variable_names n)) ≡ true)

-- a node or function of this name has `count` static parameters
abbrev pub takes : Program → Name → ℕ → Bool
takes P f count = holds (λ callee. nat_eq count (length callee.parameters)) (node_named P f)

-- `place` is the place of the node that is called by a name with `count` static arguments
abbrev pub IsCallee : Program → Name → ℕ → NodePlace → Type 0
IsCallee P f count place =
    (either_or (slice_get (source_names P) place.0) [] ≡ f)
    × (nat_lt place.0 (length (source_names P)) ≡ true)
    × (takes P f count ≡ true)

-- ## Whether each name that counts has a meaning

module _ (counts : NameUse → Name → Bool) (P : Program) (n : Node) where
  abbrev pub static_passes_where : Static → Bool
  static_passes_where s = list_all (counted (counts Statics) (is_static_name P n)) (static_names s)

  abbrev pub statics_pass_where : List Static → Bool
  statics_pass_where = list_all static_passes_where

  -- a call: each name that counts in its callee and its static arguments
  abbrev pub call_passes_where : Site → Bool
  call_passes_where s = is_callable_where counts P s && statics_pass_where s.arguments

  abbrev mutual
    -- each name that counts in an expression has a meaning
    pub passes_where : Expr → Bool
    passes_where (Literal m) = true
    passes_where (Truth b) = true
    passes_where (Variable x) = counted (counts Values) (is_known P n) x
    passes_where (Group a) = passes_where a
    passes_where (Unary op a) = passes_where a
    passes_where (Binary op a b) = passes_where a && passes_where b
    passes_where (If c a b) = passes_where c && (passes_where a && passes_where b)
    passes_where (Arrow a b) = passes_where a && passes_where b
    passes_where (Fby a b) = passes_where a && passes_where b
    passes_where (Pre a) = passes_where a
    passes_where (Current a) = passes_where a
    passes_where (When a x sign) = counted (counts Variables) (is_variable P n) x && passes_where a
    passes_where (Replicate a s) = static_passes_where s && passes_where a
    passes_where (Index a s) = static_passes_where s && passes_where a
    passes_where (Slice a s t) =
        static_passes_where s && (static_passes_where t && passes_where a)
    passes_where (Join a b) = passes_where a && passes_where b
    passes_where (Array es) = all_pass_where es
    passes_where (AtMostOne es) = all_pass_where es
    passes_where (Nor es) = all_pass_where es
    passes_where (Call f statics es) =
        call_passes_where (record { callee = f; arguments = statics; count = None })
        && all_pass_where es
    passes_where (Iterate it (Node_named f statics) s es) =
        static_passes_where s
        && (call_passes_where (record { callee = f; arguments = statics; count = Some s })
        && all_pass_where es)
    passes_where (Iterate it (Symbol op) s es) = static_passes_where s && all_pass_where es

    pub all_pass_where : Exprs → Bool
    all_pass_where Nil = true
    all_pass_where (Cons e es) = passes_where e && all_pass_where es

  -- each name that counts in a statement has a meaning; its left names are variables
  abbrev pub statement_passes_where : Statement → Bool
  statement_passes_where (Equation lefts e) =
      list_all (counted (counts Variables) (is_variable P n)) lefts && passes_where e
  statement_passes_where (Assertion e) = passes_where e

-- ## Whether each name has a meaning

abbrev pub static_passes : Program → Node → Static → Bool
static_passes = static_passes_where every

abbrev pub statics_pass : Program → Node → List Static → Bool
statics_pass = statics_pass_where every

abbrev pub call_passes : Program → Node → Site → Bool
call_passes = call_passes_where every

abbrev pub passes : Program → Node → Expr → Bool
passes = passes_where every

abbrev pub all_pass : Program → Node → Exprs → Bool
all_pass = all_pass_where every

abbrev pub statement_passes : Program → Node → Statement → Bool
statement_passes = statement_passes_where every
