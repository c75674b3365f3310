-- The static expressions of a node with their purposes, in the order in which the code finds them.
-- This file mirrors code (src/resolved.rt); no definition of the language stands on it.
use Rattle.std.specs.Prelude.{Bool, cond, List, [], ◌∷◌, ◌++◌, map, flat_map}
use Rattle.lb_syntax.specs.Grammar.{Group}
use Rattle.lb_syntax.specs.SourceView.{view_groups, view_node}
use Rattle.lb_syntax.specs.Tree as tree
use Rattle.lb_syntax.specs.Tree.{Name, Static, Node_named, Symbol, Expr, Literal, Truth, Variable}
use Rattle.lb_syntax.specs.Tree.{Unary, Binary, If, Arrow, Fby, Pre, Current, When, Replicate}
use Rattle.lb_syntax.specs.Tree.{Slice, Join, Array, AtMostOne, Nor, Call, Iterate, Exprs, Nil}
use Rattle.lb_syntax.specs.Tree.{Cons}
use Rattle.lb_syntax.specs.View.{view_static}
use Rattle.lb_syntax.specs.declared.tree.Node as written
use Rattle.lb_static.specs.Parts.{among, right_side, variable_names}
use Rattle.lb_static.specs.ResolvedTerms.{static_of}
use Rattle.lb_static.specs.declared.resolved.Role.{Role}
use Rattle.lb_static.specs.declared.resolved.Role.TheVariants as role
use Rattle.lb_static.specs.declared.resolved.StaticPart.{StaticPart}

-- the purpose of a static expression
pub data Purpose : Type 0 where
  -- a size of `e ^ n` or of an iterator
  Size : Purpose
  Index : Purpose
  SliceStart : Purpose
  -- the last end of a slice with this first end
  SliceEnd : Static → Purpose
  -- a size of a declared type
  Dimension : Purpose
  Argument : Purpose
  -- a static parameter or a constant that an expression names
  Value : Purpose

abbrev pub purpose_of : Role → Purpose
purpose_of role.Size = Size
purpose_of role.Index = Index
purpose_of role.SliceStart = SliceStart
purpose_of (role.SliceEnd s) = SliceEnd (view_static s.now)
purpose_of role.Dimension = Dimension
purpose_of role.Argument = Argument
purpose_of role.Value = Value

-- a static expression with its purpose
abbrev pub Part : Type 0
Part = Purpose × Static

abbrev pub part_of : StaticPart → Part
part_of p = (purpose_of p.role, static_of p.text)

abbrev pub arguments_of : List Static → List Part
arguments_of = map (λ s. (Argument, s))

abbrev mutual
  -- the static expressions of an expression, in text order, each before those of its parts;
  -- `variable` tests whether a name is a variable
  pub parts_of : (Name → Bool) → Expr → List Part
  parts_of variable (Literal n) = []
  parts_of variable (Truth b) = []
  parts_of variable (Variable x) = cond (variable x) [] ((Value, tree.Named x) ∷ [])
  parts_of variable (tree.Group a) = parts_of variable a
  parts_of variable (Unary op a) = parts_of variable a
  parts_of variable (Binary op a b) = parts_of variable a ++ parts_of variable b
  parts_of variable (If c a b) =
      parts_of variable c ++ (parts_of variable a ++ parts_of variable b)
  parts_of variable (Arrow a b) = parts_of variable a ++ parts_of variable b
  parts_of variable (Fby a b) = parts_of variable a ++ parts_of variable b
  parts_of variable (Pre a) = parts_of variable a
  parts_of variable (Current a) = parts_of variable a
  parts_of variable (When a x sign) = parts_of variable a
  parts_of variable (Replicate a n) = (Size, n) ∷ parts_of variable a
  parts_of variable (tree.Index a i) = (Index, i) ∷ parts_of variable a
  parts_of variable (Slice a i j) = (SliceStart, i) ∷ ((SliceEnd i, j) ∷ parts_of variable a)
  parts_of variable (Join a b) = parts_of variable a ++ parts_of variable b
  parts_of variable (Array es) = parts_in variable es
  parts_of variable (AtMostOne es) = parts_in variable es
  parts_of variable (Nor es) = parts_in variable es
  parts_of variable (Call f statics es) = arguments_of statics ++ parts_in variable es
  parts_of variable (Iterate it (Node_named f statics) n es) =
      (Size, n) ∷ (arguments_of statics ++ parts_in variable es)
  parts_of variable (Iterate it (Symbol op) n es) = (Size, n) ∷ parts_in variable es

  pub parts_in : (Name → Bool) → Exprs → List Part
  parts_in variable Nil = []
  parts_in variable (Cons e es) = parts_of variable e ++ parts_in variable es

-- the static expressions of a group of declarations, once for all its variables
abbrev pub if_named : List Name → List Part → List Part
if_named [] parts = []
if_named (x ∷ xs) parts = parts

abbrev pub group_parts : Group → List Part
group_parts g = if_named g.names (map (λ s. (Dimension, s)) g.sizes)

-- the static expressions of a node: those of its declarations, and then those of its statements
abbrev pub node_static_parts : written.Node → List Part
node_static_parts n =
    let here = view_node n in
    let groups = n.inputs.items ++ (n.outputs.items ++ n.locals.items) in
    flat_map group_parts (view_groups groups)
    ++ flat_map (λ s. parts_of (λ x. among x (variable_names here)) (right_side s)) here.body
