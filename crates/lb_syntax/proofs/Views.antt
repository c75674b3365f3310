-- The expressions in a plain tree are the views of those in the vector of the tree.
use Rattle.std.proofs.Common.{◌≡◌, ℕ, List, map, Box, Vec, Global, refl, ap, ◌∙◌}
use mathlib.Core.Former.{Count}
use Rattle.lb_syntax.specs.declared.tree.ArrayIterator.{ArrayIterator}
use Rattle.lb_syntax.specs.declared.tree.Operator.{Operator}
use Rattle.lb_syntax.specs.declared.tree.Static.{Static}
use Rattle.lb_syntax.specs.declared.tree.Expr.{Expr, Array, Array', AtMostOne, AtMostOne', Nor}
use Rattle.lb_syntax.specs.declared.tree.Expr.{Nor', Call, Call', Iterate, Iterate', Row_of-Expr}
use Rattle.lb_syntax.specs.declared.tree.Expr.{end_of-Expr, more_of-Expr, items-the_row-Expr}
use Rattle.lb_syntax.specs.declared.tree.Expr.{items_hidden-the_row-Expr-0}
use Rattle.lb_syntax.specs.Tree as tree
use Rattle.lb_syntax.specs.View.{view, view_row, view_static, view_statics, view_operator}
use Rattle.lb_syntax.specs.Reading.{exprs}

pub view_row-items : (n : _) (row : Row_of-Expr n) → view_row row
    ≡ exprs (map view (items-the_row-Expr n row))
view_row-items n end_of-Expr = refl
view_row-items n (more_of-Expr e rest) =
    ap (λ (es : tree.Exprs). tree.Cons (view e) es) (view_row-items _ rest)

abbrev row_of : Expr → (n : Count) × Row_of-Expr n
row_of (Array' _ row _) = (_, row)
row_of (AtMostOne' _ row _) = (_, row)
row_of (Nor' _ row _) = (_, row)
row_of (Call' _ _ _ row) = (_, row)
row_of (Iterate' _ _ _ _ row _) = (_, row)
row_of _ = (_, end_of-Expr)

pub view_array : (es : Vec Expr Global) (at : ℕ) → view (Array es at)
    ≡ tree.Array (exprs (map view es.items))
view_array es at =
    let row = row_of (Array es at) in
    ap (λ (z : tree.Exprs). tree.Array z)
    (view_row-items row.0 row.1 ∙ ap (λ z. exprs (map view z)) (items_hidden-the_row-Expr-0 es))

pub view_at_most_one : (es : Vec Expr Global) (at : ℕ) → view (AtMostOne es at)
    ≡ tree.AtMostOne (exprs (map view es.items))
view_at_most_one es at =
    let row = row_of (AtMostOne es at) in
    ap (λ (z : tree.Exprs). tree.AtMostOne z)
    (view_row-items row.0 row.1 ∙ ap (λ z. exprs (map view z)) (items_hidden-the_row-Expr-0 es))

pub view_nor : (es : Vec Expr Global) (at : ℕ) → view (Nor es at)
    ≡ tree.Nor (exprs (map view es.items))
view_nor es at =
    let row = row_of (Nor es at) in
    ap (λ (z : tree.Exprs). tree.Nor z)
    (view_row-items row.0 row.1 ∙ ap (λ z. exprs (map view z)) (items_hidden-the_row-Expr-0 es))

pub view_call : (f : List ℕ) (args : Vec Static Global) (es : Vec Expr Global) →
    view (Call f args es) ≡ tree.Call f (view_statics args.items) (exprs (map view es.items))
view_call f args es =
    let row = row_of (Call f args es) in
    ap (λ (z : tree.Exprs). tree.Call f (view_statics args.items) z)
    (view_row-items row.0 row.1 ∙ ap (λ z. exprs (map view z)) (items_hidden-the_row-Expr-0 es))

pub view_iterate : (i : ArrayIterator) (f : Box Operator Global) (n : Static) (es : Vec Expr Global)
    (at : ℕ) → view (Iterate i f n es at)
    ≡ tree.Iterate i (view_operator f.value) (view_static n) (exprs (map view es.items))
view_iterate i f n es at =
    let row = row_of (Iterate i f n es at) in
    ap (λ (z : tree.Exprs). tree.Iterate i (view_operator f.value) (view_static n) z)
    (view_row-items row.0 row.1 ∙ ap (λ z. exprs (map view z)) (items_hidden-the_row-Expr-0 es))
