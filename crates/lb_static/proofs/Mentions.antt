-- The names in the static expressions of a node: the code finds the names that the definitions
-- list.
use Rattle.std.proofs.Common.{◌≡◌, Bool, true, false, cond, List, [], ◌∷◌, ◌++◌, map, refl, ap, sym}
use Rattle.std.proofs.Common.{◌∙◌}
use Rattle.std.specs.Prelude.{◌&&◌, ◌||◌, not, flat_map}
use Rattle.std.specs.List.{list_any}
use Rattle.std.specs.Str.{bytes_eq}
use Rattle.std.proofs.lemmas.List.Folds.{list_any-append}
use Rattle.std.proofs.lemmas.Slice.Eq.{bytes_eq-Decides}
use Rattle.std.proofs.Math.Bool.{or-false, or_assoc}
use Rattle.std.proofs.lemmas.List.{map-append, append_assoc}
use Rattle.std.proofs.lemmas.Grind.{flat_map-append}
use Rattle.lb_syntax.specs.Grammar.{Group, declarations, declared}
use Rattle.lb_syntax.specs.SourceView.{view_group, view_groups, view_node}
use Rattle.lb_syntax.specs.Tree as tree
use Rattle.lb_syntax.specs.Tree.{Name, Static, Node_named, Symbol, Declaration, Expr, Literal}
use Rattle.lb_syntax.specs.Tree.{Truth, Variable, Unary, Binary, If, Arrow, Fby, Pre, Current, When}
use Rattle.lb_syntax.specs.Tree.{Replicate, Slice, Join, Array, AtMostOne, Nor, Call, Iterate}
use Rattle.lb_syntax.specs.Tree.{Exprs, Nil, Cons, Node}
use Rattle.lb_syntax.specs.declared.tree.Node as written
use Rattle.lb_static.specs.Parts.{among, own_arguments, own_indexes, own_names, own_sizes, parts}
use Rattle.lb_static.specs.Parts.{parts_in as exprs_in, static_names}
use Rattle.lb_static.specs.DataTypes.{variables}
use Rattle.lb_static.specs.StaticParts.{Part, arguments_of, group_parts, if_named, parts_of}
use Rattle.lb_static.specs.StaticParts.{parts_in, Argument, Dimension, Value}

-- ## Some item of a list

pub any_flat : {A B : Type 0} (p : B → Bool) (f : A → List B) (xs : List A)
    → list_any p (flat_map f xs) ≡ list_any (λ x. list_any p (f x)) xs
any_flat p f [] = refl
any_flat p f (x ∷ xs) = list_any-append p (f x) (flat_map f xs)
    ∙ ap (λ b. list_any p (f x) || b) (any_flat p f xs)

pub any_map : {A B : Type 0} (p : B → Bool) (f : A → B) (xs : List A)
    → list_any p (map f xs) ≡ list_any (λ x. p (f x)) xs
any_map p f [] = refl
any_map p f (x ∷ xs) = ap (λ b. p (f x) || b) (any_map p f xs)

or_shuffle : (a b c d : Bool) → ((a || b) || (c || d)) ≡ ((a || c) || (b || d))
or_shuffle true b c d = refl
or_shuffle false true c d = by c
  where
    by : (c : Bool) → true ≡ (c || true)
    by true = refl
    by false = refl
or_shuffle false false c d = refl

pub any_or : {A : Type 0} (p q : A → Bool) (xs : List A)
    → list_any (λ x. p x || q x) xs ≡ (list_any p xs || list_any q xs)
any_or p q [] = refl
any_or p q (x ∷ xs) = ap (λ b. (p x || q x) || b) (any_or p q xs)
    ∙ or_shuffle (p x) (q x) (list_any p xs) (list_any q xs)

and_or : (a b k : Bool) → ((a && k) || (b && k)) ≡ ((a || b) && k)
and_or true b true = refl
and_or true true false = refl
and_or true false false = refl
and_or false b k = refl

pub any_and : {A : Type 0} (p : A → Bool) (k : Bool) (xs : List A)
    → list_any (λ x. p x && k) xs ≡ (list_any p xs && k)
any_and p k [] = refl
any_and p k (x ∷ xs) = ap (λ b. (p x && k) || b) (any_and p k xs) ∙ and_or (p x) (list_any p xs) k

module _ (x : Name) (variable : Name → Bool) where
  -- a static expression has the name
  abbrev pub in_static : Static → Bool
  in_static s = among x (static_names s)

  abbrev pub in_part : Part → Bool
  in_part p = in_static p.1

  -- an expression itself, without its parts, has the name
  abbrev pub stands : Expr → Bool
  stands e =
      (among x (own_names e) && not (variable x))
      || (list_any in_static (own_sizes e)
      || (list_any in_static (own_indexes e) || list_any in_static (own_arguments e)))

  two : (ps qs : List Part) (es fs : List Expr) → list_any in_part ps ≡ list_any stands es
      → list_any in_part qs ≡ list_any stands fs
      → list_any in_part (ps ++ qs) ≡ list_any stands (es ++ fs)
  two ps qs es fs e f =
      list_any-append in_part ps qs ∙ ap (λ b. b || list_any in_part qs) e
      ∙ ap (λ b. list_any stands es || b) f ∙ sym (list_any-append stands es fs)

  variable_part : (y : Name)
      → list_any in_part (parts_of variable (Variable y)) ≡ list_any stands (Variable y ∷ [])
  variable_part y = by (variable y) refl
    where
      no : variable y ≡ true → ((bytes_eq x y || false) && not (variable x)) ≡ false
      no e = at (bytes_eq x y) refl
        where
          at : (b : Bool) → bytes_eq x y ≡ b → ((b || false) && not (variable x)) ≡ false
          at true h = ap (λ z. not (variable z)) ((bytes_eq-Decides x y).0 h) ∙ ap not e
          at false h = refl

      yes : variable y ≡ false
          → (bytes_eq x y || false) ≡ ((bytes_eq x y || false) && not (variable x))
      yes e = at (bytes_eq x y) refl
        where
          at : (b : Bool) → bytes_eq x y ≡ b → (b || false) ≡ ((b || false) && not (variable x))
          at true h = sym (ap (λ z. not (variable z)) ((bytes_eq-Decides x y).0 h) ∙ ap not e)
          at false h = refl

      by : (b : Bool) → variable y ≡ b
          → list_any in_part (cond b [] ((Value, tree.Named y) ∷ []))
          ≡ list_any stands (Variable y ∷ [])
      by true e = sym (ap (λ b. (b || false) || false) (no e))
      by false e = ap (λ b. b || false) (yes e)
          ∙ sym (or-false (((bytes_eq x y || false) && not (variable x)) || false))

  alone : (s : Bool) → s ≡ ((s || false) || false)
  alone true = refl
  alone false = refl

  both_alone : (s t r : Bool) → (s || (t || r)) ≡ (((s || (t || false)) || false) || r)
  both_alone true t r = refl
  both_alone false true r = refl
  both_alone false false r = refl

  counted : (s t r : Bool) → (s || (t || r)) ≡ (((s || false) || t) || r)
  counted true t r = refl
  counted false t r = sym (or_assoc false t r)

  mutual
    pub expression_stands : (e : Expr)
        → list_any in_part (parts_of variable e) ≡ list_any stands (parts e)
    expression_stands (Literal n) = refl
    expression_stands (Truth b) = refl
    expression_stands (Variable y) = variable_part y
    expression_stands (tree.Group a) = expression_stands a
    expression_stands (Unary op a) = expression_stands a
    expression_stands (Binary op a b) = two (parts_of variable a) (parts_of variable b) (parts a)
        (parts b) (expression_stands a) (expression_stands b)
    expression_stands (If c a b) =
        two (parts_of variable c) (parts_of variable a ++ parts_of variable b) (parts c)
        (parts a ++ parts b) (expression_stands c)
        (two (parts_of variable a) (parts_of variable b) (parts a) (parts b) (expression_stands a)
        (expression_stands b))
    expression_stands (Arrow a b) = two (parts_of variable a) (parts_of variable b) (parts a)
        (parts b) (expression_stands a) (expression_stands b)
    expression_stands (Fby a b) = two (parts_of variable a) (parts_of variable b) (parts a)
        (parts b) (expression_stands a) (expression_stands b)
    expression_stands (Pre a) = expression_stands a
    expression_stands (Current a) = expression_stands a
    expression_stands (When a y sign) = expression_stands a
    expression_stands (Replicate a n) = ap (λ b. b || list_any in_part (parts_of variable a))
        (alone (in_static n)) ∙ ap (λ b. ((in_static n || false) || false) || b)
        (expression_stands a)
    expression_stands (tree.Index a i) = ap (λ b. b || list_any in_part (parts_of variable a))
        (alone (in_static i)) ∙ ap (λ b. ((in_static i || false) || false) || b)
        (expression_stands a)
    expression_stands (Slice a i j) =
        both_alone (in_static i) (in_static j) (list_any in_part (parts_of variable a))
        ∙ ap (λ b. ((in_static i || (in_static j || false)) || false) || b) (expression_stands a)
    expression_stands (Join a b) = two (parts_of variable a) (parts_of variable b) (parts a)
        (parts b) (expression_stands a) (expression_stands b)
    expression_stands (Array es) = row_stands es
    expression_stands (AtMostOne es) = row_stands es
    expression_stands (Nor es) = row_stands es
    expression_stands (Call f statics es) =
        list_any-append in_part (arguments_of statics) (parts_in variable es)
        ∙ ap (λ b. b || list_any in_part (parts_in variable es))
        (any_map in_part (λ s. (Argument, s)) statics)
        ∙ ap (λ b. list_any in_static statics || b) (row_stands es)
    expression_stands (Iterate it (Node_named f statics) n es) =
        ap (λ b. in_static n || b)
        (list_any-append in_part (arguments_of statics) (parts_in variable es)
        ∙ ap (λ b. b || list_any in_part (parts_in variable es))
        (any_map in_part (λ s. (Argument, s)) statics))
        ∙ counted (in_static n) (list_any in_static statics)
        (list_any in_part (parts_in variable es))
        ∙ ap (λ b. ((in_static n || false) || list_any in_static statics) || b) (row_stands es)
    expression_stands (Iterate it (Symbol op) n es) =
        ap (λ b. b || list_any in_part (parts_in variable es)) (alone (in_static n))
        ∙ ap (λ b. ((in_static n || false) || false) || b) (row_stands es)

    row_stands : (es : Exprs)
        → list_any in_part (parts_in variable es) ≡ list_any stands (exprs_in es)
    row_stands Nil = refl
    row_stands (Cons e es) = two (parts_of variable e) (parts_in variable es) (parts e)
        (exprs_in es) (expression_stands e) (row_stands es)

  -- some part of a list of expressions has the name
  pub any_stands : (es : List Expr) → list_any stands es
      ≡ ((among x (flat_map own_names es) && not (variable x))
      || (list_any in_static (flat_map own_sizes es)
      || (list_any in_static (flat_map own_indexes es)
      || list_any in_static (flat_map own_arguments es))))
  any_stands es =
      any_or (λ e. among x (own_names e) && not (variable x))
      (λ e. list_any in_static (own_sizes e)
      || (list_any in_static (own_indexes e) || list_any in_static (own_arguments e))) es
      ∙ ap (λ b. b || list_any
      (λ e. list_any in_static (own_sizes e)
      || (list_any in_static (own_indexes e) || list_any in_static (own_arguments e))) es)
      (any_and (λ e. among x (own_names e)) (not (variable x)) es
      ∙ ap (λ b. b && not (variable x)) (sym (any_flat (bytes_eq x) own_names es)))
      ∙ ap (λ b. (among x (flat_map own_names es) && not (variable x)) || b)
      (any_or (λ e. list_any in_static (own_sizes e))
      (λ e. list_any in_static (own_indexes e) || list_any in_static (own_arguments e)) es
      ∙ ap (λ b. b || list_any
      (λ e. list_any in_static (own_indexes e) || list_any in_static (own_arguments e)) es)
      (sym (any_flat in_static own_sizes es))
      ∙ ap (λ b. list_any in_static (flat_map own_sizes es) || b)
      (any_or (λ e. list_any in_static (own_indexes e)) (λ e. list_any in_static (own_arguments e))
      es
      ∙ ap (λ b. b || list_any (λ e. list_any in_static (own_arguments e)) es)
      (sym (any_flat in_static own_indexes es))
      ∙ ap (λ b. list_any in_static (flat_map own_indexes es) || b)
      (sym (any_flat in_static own_arguments es))))

  -- ## Declarations

  absorbed : (a b : Bool) → (b ≡ true → a ≡ true) → (a || b) ≡ a
  absorbed true b f = refl
  absorbed false true f = sym (f refl)
  absorbed false false f = refl

  repeated : (g : Group) (ys : List Name)
      → list_any in_static (flat_map (λ (d : Declaration). d.sizes)
      (map (λ y. record { name = y; kind = g.kind; sizes = g.sizes; clock = g.clock }) ys)) ≡ true
      → list_any in_static g.sizes ≡ true
  repeated g [] e = absurd cc
  repeated g (y ∷ ys) e = sym
      (absorbed (list_any in_static g.sizes)
      (list_any in_static (flat_map (λ (d : Declaration). d.sizes)
      (map (λ y. record { name = y; kind = g.kind; sizes = g.sizes; clock = g.clock }) ys)))
      (repeated g ys))
      ∙ sym (list_any-append in_static g.sizes
      (flat_map (λ (d : Declaration). d.sizes)
      (map (λ y. record { name = y; kind = g.kind; sizes = g.sizes; clock = g.clock }) ys))) ∙ e

  group_stands : (g : Group)
      → list_any in_part (group_parts g)
      ≡ list_any in_static (flat_map (λ d. d.sizes) (declarations g))
  group_stands g = by g.names
    where
      by : (ys : List Name) → list_any in_part (if_named ys (map (λ s. (Dimension, s)) g.sizes))
          ≡ list_any in_static (flat_map (λ (d : Declaration). d.sizes)
          (map (λ y. record { name = y; kind = g.kind; sizes = g.sizes; clock = g.clock }) ys))
      by [] = refl
      by (y ∷ ys) =
          any_map in_part (λ s. (Dimension, s)) g.sizes
          ∙ sym (absorbed (list_any in_static g.sizes)
          (list_any in_static (flat_map (λ (d : Declaration). d.sizes)
          (map (λ y. record { name = y; kind = g.kind; sizes = g.sizes; clock = g.clock }) ys)))
          (repeated g ys))
          ∙ sym (list_any-append in_static g.sizes
          (flat_map (λ (d : Declaration). d.sizes)
          (map (λ y. record { name = y; kind = g.kind; sizes = g.sizes; clock = g.clock }) ys)))

  pub groups_stand : (gs : List Group)
      → list_any in_part (flat_map group_parts gs)
      ≡ list_any in_static (flat_map (λ d. d.sizes) (declared gs))
  groups_stand [] = refl
  groups_stand (g ∷ gs) =
      list_any-append in_part (group_parts g) (flat_map group_parts gs)
      ∙ ap (λ b. b || list_any in_part (flat_map group_parts gs)) (group_stands g)
      ∙ ap (λ b. list_any in_static (flat_map (λ d. d.sizes) (declarations g)) || b)
      (groups_stand gs)
      ∙ sym (ap (list_any in_static) (flat_map-append (λ d. d.sizes) (declarations g) (declared gs))
      ∙ list_any-append in_static (flat_map (λ d. d.sizes) (declarations g))
      (flat_map (λ d. d.sizes) (declared gs)))

pub declared_append : (gs hs : List Group) → declared (gs ++ hs) ≡ declared gs ++ declared hs
declared_append [] hs = refl
declared_append (g ∷ gs) hs = ap (λ l. declarations g ++ l) (declared_append gs hs)
    ∙ sym (append_assoc (declarations g) (declared gs) (declared hs))

-- the declarations of the groups of a node are its variables
pub variables_are : (n : written.Node)
    → declared (view_groups (n.inputs.items ++ (n.outputs.items ++ n.locals.items)))
    ≡ variables (view_node n)
variables_are n =
    ap declared (map-append view_group n.inputs.items (n.outputs.items ++ n.locals.items))
    ∙ declared_append (view_groups n.inputs.items) (view_groups (n.outputs.items ++ n.locals.items))
    ∙ ap (λ l. declared (view_groups n.inputs.items) ++ l)
    (ap declared (map-append view_group n.outputs.items n.locals.items)
    ∙ declared_append (view_groups n.outputs.items) (view_groups n.locals.items))
