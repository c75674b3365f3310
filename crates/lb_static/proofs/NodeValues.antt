-- The static expressions of a node have values where its sizes, indexes, arguments and names do.
use Rattle.std.proofs.Common.{◌≡◌, ℤ, Bool, true, false, cond, List, [], ◌∷◌, map, Option, Some}
use Rattle.std.proofs.Common.{None, refl, ap, ap₂, sym, ◌∙◌}
use Rattle.std.specs.Prelude.{◌&&◌, ◌||◌, flat_map, is_some, option_map}
use Rattle.std.specs.List.{list_all}
use Rattle.std.proofs.lemmas.Grind.{flat_map-append}
use Rattle.std.proofs.lemmas.List.Folds.{list_all-map, list_all-append}
use Rattle.std.proofs.Math.Bool.{and-true}
use Rattle.lb_syntax.specs.Grammar.{Group as Declarations, declarations, declared}
use Rattle.lb_syntax.specs.Lists.{all_some}
use Rattle.lb_syntax.specs.Tree as tree
use Rattle.lb_syntax.specs.Tree.{Name, Static, Node_named, Symbol, Expr, Literal, Truth, Variable}
use Rattle.lb_syntax.specs.Tree.{Group, Unary, Binary, If, Arrow, Fby, Pre, Current, When}
use Rattle.lb_syntax.specs.Tree.{Replicate, Index, Slice, Join, Array, AtMostOne, Nor, Call}
use Rattle.lb_syntax.specs.Tree.{Iterate}
use Rattle.lb_static.specs.Parts.{own_sizes, own_indexes, own_arguments, own_names}
use Rattle.lb_static.specs.StaticParts.{Part, Dimension, Value, Argument, group_parts, if_named}
use Rattle.lb_static.specs.StaticValues.{value_under}
use Rattle.lb_static.proofs.OwnParts.{own_parts}
use Rattle.lb_static.proofs.TestedItems.{all_flat}

-- ## Tests of lists

pub all_and : {A : Type 0} (p q : A → Bool) (xs : List A)
    → (list_all p xs && list_all q xs) ≡ list_all (λ x. p x && q x) xs
all_and p q [] = refl
all_and p q (x ∷ xs) = by (p x) (q x) (list_all p xs) (list_all q xs)
    ∙ ap (λ b. (p x && q x) && b) (all_and p q xs)
  where
    by : (a b c d : Bool) → ((a && c) && (b && d)) ≡ ((a && b) && (c && d))
    by true true c d = refl
    by true false true d = refl
    by true false false d = refl
    by false b c d = refl

pub all_same : {A : Type 0} (p q : A → Bool) (xs : List A) → ((x : A) → p x ≡ q x)
    → list_all p xs ≡ list_all q xs
all_same p q [] e = refl
all_same p q (x ∷ xs) e = ap₂ (λ a b. a && b) (e x) (all_same p q xs e)

pub some_all : {A : Type 0} (os : List (Option A)) → is_some (all_some os) ≡ list_all is_some os
some_all [] = refl
some_all (None ∷ os) = refl
some_all {A = A} (Some x ∷ os) = by (all_some os) ∙ some_all os
  where
    by : (o : Option (List A)) → is_some (option_map (λ xs. x ∷ xs) o) ≡ is_some o
    by None = refl
    by (Some xs) = refl

-- ## Declarations

abbrev pub sizes_in : List tree.Declaration → List Static
sizes_in ds = flat_map (λ d. d.sizes) ds

-- a test of the sizes of each variable of a group is the test of the sizes of the group, if it has
-- a variable
twice : (b c : Bool) → c ≡ b → (b && c) ≡ b
twice true c e = e
twice false c e = refl

of_group : (p : Static → Bool) (g : Declarations) (x : Name) (xs : List Name)
    → list_all p (sizes_in (declarations (record g { names = x ∷ xs }))) ≡ list_all p g.sizes
of_group p g x [] = list_all-append p g.sizes [] ∙ and-true (list_all p g.sizes)
of_group p g x (y ∷ xs) =
    list_all-append p g.sizes (sizes_in (declarations (record g { names = y ∷ xs })))
    ∙ twice (list_all p g.sizes) _ (of_group p g y xs)

pub group_sizes : (p : Static → Bool) (g : Declarations)
    → list_all p (sizes_in (declarations g)) ≡ list_all (λ (q : Part). p q.1) (group_parts g)
group_sizes p g = by g.names
  where
    by : (xs : List Name) → list_all p (sizes_in (declarations (record g { names = xs })))
        ≡ list_all (λ (q : Part). p q.1) (if_named xs (map (λ s. (Dimension, s)) g.sizes))
    by [] = refl
    by (x ∷ xs) = of_group p g x xs
        ∙ sym (list_all-map (λ (q : Part). p q.1) (λ s. (Dimension, s)) g.sizes)

pub groups_sizes : (p : Static → Bool) (gs : List Declarations)
    → list_all p (sizes_in (declared gs)) ≡ list_all (λ (q : Part). p q.1) (flat_map group_parts gs)
groups_sizes p [] = refl
groups_sizes p (g ∷ gs) =
    ap (list_all p) (flat_map-append (λ (d : tree.Declaration). d.sizes) (declarations g)
    (declared gs))
    ∙ list_all-append p (sizes_in (declarations g)) (sizes_in (declared gs))
    ∙ ap₂ (λ a b. a && b) (group_sizes p g) (groups_sizes p gs)
    ∙ sym (list_all-append (λ (q : Part). p q.1) (group_parts g) (flat_map group_parts gs))

-- ## Expressions

module _ (variable : Name → Bool) (given : Name → Option ℤ) where
  abbrev pub has : Static → Bool
  has s = is_some (value_under given s)

  abbrev part_has : Part → Bool
  part_has p = has p.1

  abbrev pub name_has : Name → Bool
  name_has x = variable x || is_some (given x)

  abbrev pub own_has : Expr → Bool
  own_has e = (list_all has (own_sizes e)
      && (list_all has (own_indexes e) && list_all has (own_arguments e)))
      && list_all name_has (own_names e)

  both_ends : (a b : Bool) → (a && (b && true)) ≡ ((true && ((a && (b && true)) && true)) && true)
  both_ends true true = refl
  both_ends true false = refl
  both_ends false b = refl

  last : (a : Bool) → a ≡ ((true && (true && a)) && true)
  last true = refl
  last false = refl

  size_and : (a b : Bool) → (a && b) ≡ (((a && true) && (true && b)) && true)
  size_and true true = refl
  size_and true false = refl
  size_and false b = refl

  own_is : (e : Expr) → list_all part_has (own_parts variable e) ≡ own_has e
  own_is (Literal n) = refl
  own_is (Truth b) = refl
  own_is (Variable x) = by (variable x)
    where
      by : (b : Bool) → list_all part_has (cond b [] ((Value, tree.Named x) ∷ []))
          ≡ ((b || is_some (given x)) && true)
      by true = refl
      by false = refl
  own_is (Group a) = refl
  own_is (Unary op a) = refl
  own_is (Binary op a b) = refl
  own_is (If c a b) = refl
  own_is (Arrow a b) = refl
  own_is (Fby a b) = refl
  own_is (Pre a) = refl
  own_is (Current a) = refl
  own_is (When a x sign) = refl
  own_is (Replicate a n) = size_and (has n) true
  own_is (Index a i) = both_ends (has i) true
  own_is (Slice a i j) = both_ends (has i) (has j)
  own_is (Join a b) = refl
  own_is (Array es) = refl
  own_is (AtMostOne es) = refl
  own_is (Nor es) = refl
  own_is (Call f statics es) =
      list_all-map part_has (λ s. (Argument, s)) statics ∙ last (list_all has statics)
  own_is (Iterate it (Node_named f statics) n es) =
      ap (λ b. has n && b) (list_all-map part_has (λ s. (Argument, s)) statics)
      ∙ size_and (has n) (list_all has statics)
  own_is (Iterate it (Symbol op) n es) = size_and (has n) true

  -- the static expressions in some expressions have values
  abbrev pub body_has : List Expr → Bool
  body_has es =
      (list_all has (flat_map own_sizes es)
      && (list_all has (flat_map own_indexes es) && list_all has (flat_map own_arguments es)))
      && list_all name_has (flat_map own_names es)

  pub body_values : (es : List Expr)
      → body_has es ≡ list_all part_has (flat_map (own_parts variable) es)
  body_values es =
      let sizes = λ (e : Expr). list_all has (own_sizes e) in
      let indexes = λ (e : Expr). list_all has (own_indexes e) in
      let arguments = λ (e : Expr). list_all has (own_arguments e) in
      let names = λ (e : Expr). list_all name_has (own_names e) in
      ap₂ (λ a b. a && b)
      (ap₂ (λ a b. a && b) (all_flat has own_sizes es)
      (ap₂ (λ a b. a && b) (all_flat has own_indexes es) (all_flat has own_arguments es)
      ∙ all_and indexes arguments es)
      ∙ all_and sizes (λ e. indexes e && arguments e) es)
      (all_flat name_has own_names es)
      ∙ all_and (λ e. sizes e && (indexes e && arguments e)) names es
      ∙ sym (all_flat part_has (own_parts variable) es
      ∙ all_same (λ e. list_all part_has (own_parts variable e)) own_has es own_is)
