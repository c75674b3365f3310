-- The plain tree that a tree of the program stands for.
use Rattle.std.specs.Prelude.{Bool, List, [], map, Box}
use Rattle.std.specs.declared.alloc.Global.{Global}
use Rattle.lb_syntax.specs.declared.tree.Static.{Static, Whole, Named, Negated', Combined'}
use Rattle.lb_syntax.specs.declared.tree.Static.{Grouped'}
use Rattle.lb_syntax.specs.declared.tree.Operator.{Operator}
use Rattle.lb_syntax.specs.declared.tree.Operator.TheVariants.{Node, Symbol}
use Rattle.lb_syntax.specs.declared.tree.Expr.{Expr, Literal, Truth, Variable, Group', Unary'}
use Rattle.lb_syntax.specs.declared.tree.Expr.{Binary', If', Arrow', Fby', Pre', Current', When'}
use Rattle.lb_syntax.specs.declared.tree.Expr.{Replicate', Index', Slice', Join', Array'}
use Rattle.lb_syntax.specs.declared.tree.Expr.{AtMostOne'}
use Rattle.lb_syntax.specs.declared.tree.Expr.{Nor', Call', Iterate', Row_of-Expr, end_of-Expr}
use Rattle.lb_syntax.specs.declared.tree.Expr.{more_of-Expr}
use Rattle.lb_syntax.specs.declared.tree.Sampling.{Sampling}
use Rattle.lb_syntax.specs.Tree as tree

abbrev pub view_static : Static → tree.Static
view_static (Whole n at) = tree.Whole n
view_static (Named x) = tree.Named x
view_static (Negated' p s at) = tree.Negated (view_static s)
view_static (Combined' op p s q t at) = tree.Combined op (view_static s) (view_static t)
view_static (Grouped' p s at) = tree.Grouped (view_static s)

abbrev pub view_statics : List Static → List tree.Static
view_statics = map view_static

abbrev pub view_operator : Operator → tree.Operator
view_operator (Node f args) = tree.Node_named f (view_statics args.items)
view_operator (Symbol op) = tree.Symbol op

abbrev pub view_sampling : Sampling → tree.Name × Bool
view_sampling s = (s.variable, s.sign)

abbrev mutual
  pub view : Expr → tree.Expr
  view (Literal n at) = tree.Literal n
  view (Truth b at) = tree.Truth b
  view (Variable x) = tree.Variable x
  view (Group' p e at) = tree.Group (view e)
  view (Unary' op p a at) = tree.Unary op (view a)
  view (Binary' op p a q b at) = tree.Binary op (view a) (view b)
  view (If' p c q a r b at) = tree.If (view c) (view a) (view b)
  view (Arrow' p a q b at) = tree.Arrow (view a) (view b)
  view (Fby' p a q b at) = tree.Fby (view a) (view b)
  view (Pre' p a at) = tree.Pre (view a)
  view (Current' p a at) = tree.Current (view a)
  view (When' p e x sign at) = tree.When (view e) x sign
  view (Replicate' p e n at) = tree.Replicate (view e) (view_static n)
  view (Index' p e i at) = tree.Index (view e) (view_static i)
  view (Slice' p e i j at) = tree.Slice (view e) (view_static i) (view_static j)
  view (Join' p a q b at) = tree.Join (view a) (view b)
  view (Array' arity es at) = tree.Array (view_row es)
  view (AtMostOne' arity es at) = tree.AtMostOne (view_row es)
  view (Nor' arity es at) = tree.Nor (view_row es)
  view (Call' f args arity es) = tree.Call f (view_statics args.items) (view_row es)
  view (Iterate' i f n arity es at) =
      tree.Iterate i (view_operator f.value) (view_static n) (view_row es)

  pub view_row : {m : _} → Row_of-Expr m → tree.Exprs
  view_row end_of-Expr = tree.Nil
  view_row (more_of-Expr e rest) = tree.Cons (view e) (view_row rest)

abbrev pub view_box : Box Expr Global → tree.Expr
view_box b = view b.value
