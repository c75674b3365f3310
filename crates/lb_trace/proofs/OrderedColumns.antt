-- Columns that stand in the order of the signature, or at their places in the text.
use Rattle.std.proofs.Common.{ℕ, suc, ◌≡◌, ◌+◌, ◌<◌, List, [], ◌∷◌, ◌++◌, length, get_or, take, sym}
use Rattle.std.proofs.Common.{◌∙◌}
use Rattle.std.proofs.Common.{subst, arith}
use Rattle.std.proofs.lemmas.List.{length-take-le, take_more}
use Rattle.std.proofs.lemmas.List.Elements.{All-push}
use Rattle.lb_trace.specs.declared.header.Column.{Column}
use Rattle.lb_trace.specs.PlainRows.{AreInOrder, ArePlaced, IsPlaced}

-- columns in order stay so with one more column at the next place
in_order_push :
    (n : ℕ) (columns : List Column) (column : Column) → AreInOrder n columns →
    column.at ≡ n + length columns → AreInOrder n (columns ++ column ∷ [])
in_order_push n [] column ordered is = (is ∙ omega arith, tt)
in_order_push n (first ∷ columns) column ordered is =
    (ordered.0, in_order_push (suc n) columns column ordered.1 (is ∙ omega arith))

-- the first `i + 1` columns are in order where the first `i` are and the next stands at `i`
pub one_more_in_order :
    (table : List Column) (i : ℕ) (d : Column) → i < length table → AreInOrder 0 (take i table) →
    (get_or table i d).at ≡ i → AreInOrder 0 (take (i + 1) table)
one_more_in_order table i d within ordered is =
    let size : length (take i table) ≡ i = length-take-le i table (omega arith) in
    let place : i ≡ 0 + length (take i table) = omega (arith, size) in
    subst (AreInOrder 0) (sym (take_more table i d within))
    (in_order_push _ _ _ ordered (is ∙ place))

-- the first `i + 1` columns have their places where the first `i` and the next have
pub one_more_placed :
    (placed table : List Column) (i : ℕ) (d : Column) → i < length table →
    ArePlaced placed (take i table) → IsPlaced placed (get_or table i d) →
    ArePlaced placed (take (i + 1) table)
one_more_placed placed table i d within before here =
    subst (ArePlaced placed) (sym (take_more table i d within))
    (All-push (IsPlaced placed) (take i table) (get_or table i d) before here)
