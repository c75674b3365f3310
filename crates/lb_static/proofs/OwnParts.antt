-- The static expressions of a node are those of its declarations and those of each part of its
-- statements.
use Rattle.std.proofs.Common.{◌≡◌, Bool, cond, List, [], ◌∷◌, ◌++◌, refl, ap, ap₂, sym, ◌∙◌}
use Rattle.std.specs.Prelude.{flat_map}
use Rattle.std.proofs.lemmas.Grind.{flat_map-append}
use Rattle.lb_syntax.specs.Tree as tree
use Rattle.lb_syntax.specs.Tree.{Name, Node_named, Symbol, Expr, Literal, Truth, Variable, Group}
use Rattle.lb_syntax.specs.Tree.{Unary, Binary, If, Arrow, Fby, Pre, Current, When, Replicate}
use Rattle.lb_syntax.specs.Tree.{Slice, Join, Array, AtMostOne, Nor, Call, Iterate, Exprs, Nil}
use Rattle.lb_syntax.specs.Tree.{Cons, Statement}
use Rattle.lb_syntax.proofs.ListPlaces.{nothing_added}
use Rattle.lb_static.specs.Parts as of
use Rattle.lb_static.specs.Parts.{parts, right_side}
use Rattle.lb_static.specs.StaticParts.{Part, Size, Index, SliceStart, SliceEnd, Value}
use Rattle.lb_static.specs.StaticParts.{arguments_of, parts_of, parts_in}

-- the static expressions of an expression itself, without its parts
abbrev pub own_parts : (Name → Bool) → Expr → List Part
own_parts variable (Variable x) = cond (variable x) [] ((Value, tree.Named x) ∷ [])
own_parts variable (Replicate a n) = (Size, n) ∷ []
own_parts variable (tree.Index a i) = (Index, i) ∷ []
own_parts variable (Slice a i j) = (SliceStart, i) ∷ ((SliceEnd i, j) ∷ [])
own_parts variable (Call f statics es) = arguments_of statics
own_parts variable (Iterate it (Node_named f statics) n es) = (Size, n) ∷ arguments_of statics
own_parts variable (Iterate it (Symbol op) n es) = (Size, n) ∷ []
own_parts variable _ = []

module _ (variable : Name → Bool) where
  abbrev own_of : List Expr → List Part
  own_of es = flat_map (own_parts variable) es

  two : (ps qs : List Part) (xs ys : List Expr) → ps ≡ own_of xs → qs ≡ own_of ys
      → ps ++ qs ≡ own_of (xs ++ ys)
  two ps qs xs ys e f = ap₂ (λ a b. a ++ b) e f ∙ sym (flat_map-append (own_parts variable) xs ys)

  mutual
    parts_are : (e : Expr) → parts_of variable e ≡ own_of (parts e)
    parts_are (Literal n) = refl
    parts_are (Truth b) = refl
    parts_are (Variable x) = nothing_added (cond (variable x) [] ((Value, tree.Named x) ∷ []))
    parts_are (Group a) = parts_are a
    parts_are (Unary op a) = parts_are a
    parts_are (Binary op a b) = two _ _ (parts a) (parts b) (parts_are a) (parts_are b)
    parts_are (If c a b) =
        two _ _ (parts c) (parts a ++ parts b) (parts_are c)
        (two _ _ (parts a) (parts b) (parts_are a) (parts_are b))
    parts_are (Arrow a b) = two _ _ (parts a) (parts b) (parts_are a) (parts_are b)
    parts_are (Fby a b) = two _ _ (parts a) (parts b) (parts_are a) (parts_are b)
    parts_are (Pre a) = parts_are a
    parts_are (Current a) = parts_are a
    parts_are (When a x sign) = parts_are a
    parts_are (Replicate a n) = ap (λ l. (Size, n) ∷ l) (parts_are a)
    parts_are (tree.Index a i) = ap (λ l. (Index, i) ∷ l) (parts_are a)
    parts_are (Slice a i j) = ap (λ l. (SliceStart, i) ∷ ((SliceEnd i, j) ∷ l)) (parts_are a)
    parts_are (Join a b) = two _ _ (parts a) (parts b) (parts_are a) (parts_are b)
    parts_are (Array es) = row_is es
    parts_are (AtMostOne es) = row_is es
    parts_are (Nor es) = row_is es
    parts_are (Call f statics es) = ap (λ l. arguments_of statics ++ l) (row_is es)
    parts_are (Iterate it (Node_named f statics) n es) =
        ap (λ l. (Size, n) ∷ (arguments_of statics ++ l)) (row_is es)
    parts_are (Iterate it (Symbol op) n es) = ap (λ l. (Size, n) ∷ l) (row_is es)

    row_is : (es : Exprs) → parts_in variable es ≡ own_of (of.parts_in es)
    row_is Nil = refl
    row_is (Cons e es) = two _ _ (parts e) (of.parts_in es) (parts_are e) (row_is es)

  pub body_is : (ss : List Statement)
      → flat_map (λ s. parts_of variable (right_side s)) ss
      ≡ own_of (flat_map (λ s. parts (right_side s)) ss)
  body_is [] = refl
  body_is (s ∷ ss) = two _ _ (parts (right_side s)) (flat_map (λ t. parts (right_side t)) ss)
      (parts_are (right_side s)) (body_is ss)
