-- The static expressions of a node are in range where its sizes, indexes and slices are.
use Rattle.std.proofs.Common.{◌≡◌, ℤ, Bool, true, false, cond, List, [], ◌∷◌, ◌++◌, map, Option}
use Rattle.std.proofs.Common.{Some, refl, ap, ap₂, sym, ◌∙◌}
use Rattle.std.specs.Prelude.{◌&&◌, flat_map}
use Rattle.std.specs.List.{list_all}
use Rattle.std.proofs.lemmas.List.Folds.{list_all-map, list_all-append}
use Rattle.lb_syntax.specs.Grammar.{Group as Declarations, declared}
use Rattle.lb_syntax.specs.Tree as tree
use Rattle.lb_syntax.specs.Tree.{Name, Static, Node_named, Symbol, Expr, Literal, Truth, Variable}
use Rattle.lb_syntax.specs.Tree.{Group, Unary, Binary, If, Arrow, Fby, Pre, Current, When}
use Rattle.lb_syntax.specs.Tree.{Replicate, Slice, Join, Array, AtMostOne, Nor, Call, Iterate}
use Rattle.lb_static.specs.Parts.{own_sizes, own_indexes, own_slices}
use Rattle.lb_static.specs.Specialized.{part_value, part_passes, count_between, runs_forward}
use Rattle.lb_static.specs.Specialized.{are_in_range}
use Rattle.lb_static.specs.StaticParts.{Part, Dimension, Value, arguments_of, group_parts, if_named}
use Rattle.lb_static.specs.StaticParts.{part_of, purpose_of}
use Rattle.lb_static.specs.StaticValues.{value_under}
use Rattle.lb_static.specs.declared.resolved.StaticPart.{StaticPart}
use Rattle.lb_static.proofs.NodeValues.{all_and, all_same, groups_sizes, sizes_in}
use Rattle.lb_static.proofs.OwnParts.{own_parts}
use Rattle.lb_static.proofs.TestedItems.{all_flat}

module _ (given : Name → Option ℤ) where
  abbrev pub value : Static → Option ℤ
  value s = value_under given s

  -- the value of a static expression is in range
  abbrev pub passes : Part → Bool
  passes p = part_passes given p.0 (value p.1)

  -- the test of the code on the values is that of the definitions on the static expressions
  pub ranges_are : (ps : List StaticPart) (vs : List ℤ)
      → map (λ v. Some v) vs ≡ map (part_value given) ps
      → are_in_range given ps vs ≡ list_all passes (map part_of ps)
  ranges_are [] vs e = refl
  ranges_are (p ∷ ps) [] e = absurd cc
  ranges_are (p ∷ ps) (v ∷ vs) e =
      let first : Some v ≡ part_value given p = cc in
      let rest : map (λ u. Some u) vs ≡ map (part_value given) ps = cc in
      ap (λ (o : Option ℤ). part_passes given (purpose_of p.role) o && are_in_range given ps vs)
      first
      ∙ ap (λ b. passes (part_of p) && b) (ranges_are ps vs rest)

  abbrev pub is_size : Static → Bool
  is_size s = count_between 1 4096 (value s)

  abbrev pub is_index : Static → Bool
  is_index s = count_between 0 4095 (value s)

  abbrev pub is_slice : Static × Static → Bool
  is_slice s = runs_forward (value s.0) (value s.1)

  arguments_pass : (ss : List Static) → list_all passes (arguments_of ss) ≡ true
  arguments_pass [] = refl
  arguments_pass (s ∷ ss) = arguments_pass ss

  abbrev size_passes : Part → Bool
  size_passes p = is_size p.1

  group_passes : (g : Declarations)
      → list_all passes (group_parts g) ≡ list_all size_passes (group_parts g)
  group_passes g = by g.names
    where
      by : (xs : List Name)
          → list_all passes (if_named xs (map (λ s. (Dimension, s)) g.sizes))
          ≡ list_all size_passes (if_named xs (map (λ s. (Dimension, s)) g.sizes))
      by [] = refl
      by (x ∷ xs) = list_all-map passes (λ s. (Dimension, s)) g.sizes
          ∙ sym (list_all-map size_passes (λ s. (Dimension, s)) g.sizes)

  groups_pass : (gs : List Declarations)
      → list_all passes (flat_map group_parts gs) ≡ list_all size_passes (flat_map group_parts gs)
  groups_pass [] = refl
  groups_pass (g ∷ gs) =
      list_all-append passes (group_parts g) (flat_map group_parts gs)
      ∙ ap₂ (λ a b. a && b) (group_passes g) (groups_pass gs)
      ∙ sym (list_all-append size_passes (group_parts g) (flat_map group_parts gs))

  -- the sizes, indexes and slices in an expression itself are in range
  abbrev pub own_passes : Expr → Bool
  own_passes e = list_all is_size (own_sizes e)
      && (list_all is_index (own_indexes e) && list_all is_slice (own_slices e))

  one : (a : Bool) → (a && true) ≡ ((a && true) && (true && true))
  one true = refl
  one false = refl

  index : (a : Bool) → (a && true) ≡ (true && ((a && true) && true))
  index true = refl
  index false = refl

  slice : (a b f : Bool)
      → (a && ((b && f) && true)) ≡ (true && ((a && (b && true)) && (f && true)))
  slice true true true = refl
  slice true true false = refl
  slice true false f = refl
  slice false b f = refl

  module _ (variable : Name → Bool) where
    own_is : (e : Expr) → list_all passes (own_parts variable e) ≡ own_passes e
    own_is (Literal n) = refl
    own_is (Truth c) = refl
    own_is (Variable x) = by (variable x)
      where
        by : (c : Bool) → list_all passes (cond c [] ((Value, tree.Named x) ∷ [])) ≡ true
        by true = refl
        by false = refl
    own_is (Group a) = refl
    own_is (Unary op a) = refl
    own_is (Binary op a c) = refl
    own_is (If d a c) = refl
    own_is (Arrow a c) = refl
    own_is (Fby a c) = refl
    own_is (Pre a) = refl
    own_is (Current a) = refl
    own_is (When a x sign) = refl
    own_is (Replicate a n) = one (is_size n)
    own_is (tree.Index a i) = index (is_index i)
    own_is (Slice a i j) = slice (is_index i) (is_index j) (is_slice (i, j))
    own_is (Join a c) = refl
    own_is (Array es) = refl
    own_is (AtMostOne es) = refl
    own_is (Nor es) = refl
    own_is (Call f statics es) = arguments_pass statics
    own_is (Iterate it (Node_named f statics) n es) =
        ap (λ c. is_size n && c) (arguments_pass statics) ∙ one (is_size n)
    own_is (Iterate it (Symbol op) n es) = one (is_size n)

    -- the sizes, indexes and slices in some expressions are in range
    abbrev pub body_passes : List Expr → Bool
    body_passes es =
        list_all is_size (flat_map own_sizes es)
        && (list_all is_index (flat_map own_indexes es)
        && list_all is_slice (flat_map own_slices es))

    body_ranges : (es : List Expr) → body_passes es ≡ list_all own_passes es
    body_ranges es =
        let sizes = λ (e : Expr). list_all is_size (own_sizes e) in
        let indexes = λ (e : Expr). list_all is_index (own_indexes e) in
        let slices = λ (e : Expr). list_all is_slice (own_slices e) in
        ap₂ (λ a b. a && b) (all_flat is_size own_sizes es)
        (ap₂ (λ a b. a && b) (all_flat is_index own_indexes es) (all_flat is_slice own_slices es)
        ∙ all_and indexes slices es)
        ∙ all_and sizes (λ e. indexes e && slices e) es

    pub node_ranges : (gs : List Declarations) (es : List Expr)
        → list_all passes (flat_map group_parts gs ++ flat_map (own_parts variable) es)
        ≡ (list_all is_size (sizes_in (declared gs)) && body_passes es)
    node_ranges gs es =
        list_all-append passes (flat_map group_parts gs) (flat_map (own_parts variable) es)
        ∙ ap₂ (λ a b. a && b) (groups_pass gs ∙ sym (groups_sizes is_size gs))
        (all_flat passes (own_parts variable) es
        ∙ all_same (λ e. list_all passes (own_parts variable e)) own_passes es own_is
        ∙ sym (body_ranges es))
