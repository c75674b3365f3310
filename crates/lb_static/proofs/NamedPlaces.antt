-- The constants that come up first are those that the reached nodes name.
use Rattle.std.proofs.Common.{◌≡◌, ℕ, suc, ◌<◌, Bool, true, false, List, [], ◌∷◌, ◌++◌, length, map}
use Rattle.std.proofs.Common.{All, Option, Some, None, refl, ap, sym, ◌∙◌, arith}
use Rattle.std.specs.Prelude.{◌&&◌, ◌||◌, flat_map, nat_eq, nat_lt, not, slice_get, if◌then◌else◌}
use Rattle.std.specs.List.{list_all, list_any}
use Rattle.std.specs.Str.{bytes_eq}
use Rattle.std.proofs.lemmas.Bool.Decides.{nat_tests}
use Rattle.std.proofs.lemmas.List.Folds.{list_any-append, list_all-append}
use Rattle.std.proofs.lemmas.Slice.Eq.{bytes_eq-Decides}
use Rattle.std.proofs.lemmas.Bool.{and_from, or_left}
use Rattle.std.proofs.Math.Bool.{and-true, and-false}
use Rattle.lb_syntax.specs.Lists.{listed}
use Rattle.lb_syntax.specs.SourceView.{view_groups}
use Rattle.lb_syntax.specs.Tree.{Name, Constant, Node, Source, Static}
use Rattle.lb_syntax.proofs.TruthValues.{or_nothing, and_first, and_second, both_ways}
use Rattle.lb_syntax.proofs.ListPlaces.{all_at, all_from}
use Rattle.lb_static.specs.SourceNames.{names_in_source}
use Rattle.lb_static.specs.NamedConstants.{AreNamed, constant_place, node_constants, part_constants}
use Rattle.lb_static.specs.NamedConstants.{place_named}
use Rattle.lb_static.specs.NameFaults.{named_in, alone}
use Rattle.lb_static.specs.Names.{are_distinct, declares_once, is_callable, is_known}
use Rattle.lb_static.specs.Names.{is_static_name, named_constants}
use Rattle.lb_static.specs.Parts.{among, declared_names, declared_sizes, node_names, node_parts}
use Rattle.lb_static.specs.Parts.{node_static_names, node_statics, own_arguments, own_indexes}
use Rattle.lb_static.specs.Parts.{own_sizes, right_side, parts, static_names, variable_names}
use Rattle.lb_static.specs.Instances.{node_sites}
use Rattle.lb_static.specs.ResolvedNodes.{IsResolved, node_of}
use Rattle.lb_static.specs.ResolvedTerms.{static_of}
use Rattle.lb_static.specs.StaticParts.{group_parts, node_static_parts, part_of, parts_of}
use Rattle.lb_static.specs.WorkLists.{is_visited, visited_after, visited_after_all}
use Rattle.lb_static.specs.declared.globals.Globals.{Globals}
use Rattle.lb_static.specs.declared.resolved.ResolvedNode.{ResolvedNode}
use Rattle.lb_static.proofs.ConstantPlaces.{constant_found}
use Rattle.lb_static.proofs.Reachability.{any_filter}
use Rattle.lb_static.proofs.CheckedConstants.{name_of_place, place_of_constant}
use Rattle.lb_static.proofs.Mentions.{any_and, any_flat, any_map, any_stands, expression_stands}
use Rattle.lb_static.proofs.Mentions.{groups_stand, in_part, in_static, stands, variables_are}
use Rattle.lb_static.proofs.TestedItems.{all_flat}
use Rattle.lb_static.proofs.ReachedPlaces.{all_item}
use Rattle.lb_static.proofs.Scopes.{among_append}
use Rattle.lb_static.proofs.SharedParts.{any_kept}
use Rattle.lb_static.proofs.WorkLists.{any_at}

-- ## The names in the static expressions of a node

any_same : {A : Type 0} (p q : A → Bool) (xs : List A) → ((x : A) → p x ≡ q x)
    → list_any p xs ≡ list_any q xs
any_same p q [] e = refl
any_same p q (x ∷ xs) e =
    ap (λ b. b || list_any p xs) (e x) ∙ ap (λ b. q x || b) (any_same p q xs e)

-- a name is in the static expressions that the code finds
abbrev pub is_mentioned : Name → ResolvedNode → Bool
is_mentioned x r = list_any (λ p. among x (static_names (static_of p.text))) r.statics.items

shuffled : (d v s i a : Bool) → (d || (v || (s || (i || a)))) ≡ (v || ((d || s) || (i || a)))
shuffled true true s i a = refl
shuffled true false s i a = refl
shuffled false v s i a = refl

module _ (x : Name) (r : ResolvedNode) (nodes : List Name) (is : IsResolved nodes r) where
  abbrev n : Node
  n = node_of r

  abbrev variable : Name → Bool
  variable y = among y (variable_names n)

  abbrev P : Static → Bool
  P = in_static x variable

  mentioned_parts : is_mentioned x r ≡ list_any (in_part x variable) (node_static_parts r.tree.now)
  mentioned_parts = sym (any_map (in_part x variable) part_of r.statics.items)
      ∙ ap (list_any (in_part x variable)) is.statics
      ∙ any_kept (in_part x variable) [] (node_static_parts r.tree.now)

  body_stands : list_any (in_part x variable)
      (flat_map (λ s. parts_of variable (right_side s)) n.body)
      ≡ list_any (stands x variable) (node_parts n)
  body_stands =
      any_flat (in_part x variable) (λ s. parts_of variable (right_side s)) n.body
      ∙ any_same _ _ n.body (λ s. expression_stands x variable (right_side s))
      ∙ sym (any_flat (stands x variable) (λ s. parts (right_side s)) n.body)

  static_is : among x (node_static_names n)
      ≡ ((list_any P (declared_sizes n) || list_any P (flat_map own_sizes (node_parts n)))
      || (list_any P (flat_map own_indexes (node_parts n))
      || list_any P (flat_map own_arguments (node_parts n))))
  static_is =
      any_flat (bytes_eq x) static_names (node_statics n)
      ∙ list_any-append P (declared_sizes n ++ flat_map own_sizes (node_parts n))
      (flat_map own_indexes (node_parts n) ++ flat_map own_arguments (node_parts n))
      ∙ ap (λ b. b || list_any P
      (flat_map own_indexes (node_parts n) ++ flat_map own_arguments (node_parts n)))
      (list_any-append P (declared_sizes n) (flat_map own_sizes (node_parts n)))
      ∙ ap (λ b. (list_any P (declared_sizes n) || list_any P (flat_map own_sizes (node_parts n)))
      || b) (list_any-append P (flat_map own_indexes (node_parts n))
      (flat_map own_arguments (node_parts n)))

  pub mentioned_is : is_mentioned x r
      ≡ ((among x (node_names n) && not (variable x)) || among x (node_static_names n))
  mentioned_is =
      let w = r.tree.now in
      let groups = view_groups (w.inputs.items ++ (w.outputs.items ++ w.locals.items)) in
      mentioned_parts
      ∙ list_any-append (in_part x variable) (flat_map group_parts groups) _
      ∙ ap (λ b. b || list_any (in_part x variable)
      (flat_map (λ s. parts_of variable (right_side s)) n.body))
      (groups_stand x variable groups
      ∙ ap (λ ds. list_any P (flat_map (λ d. d.sizes) ds)) (variables_are w))
      ∙ ap (λ b. list_any P (declared_sizes n) || b)
      (body_stands ∙ any_stands x variable (node_parts n))
      ∙ shuffled (list_any P (declared_sizes n)) (among x (node_names n) && not (variable x))
      (list_any P (flat_map own_sizes (node_parts n)))
      (list_any P (flat_map own_indexes (node_parts n)))
      (list_any P (flat_map own_arguments (node_parts n)))
      ∙ ap (λ b. (among x (node_names n) && not (variable x)) || b) (sym static_is)

-- ## The places of the constants

abbrev in_source : Source → ℕ → Bool
in_source s p = nat_lt p (length s.constants)

all_visit : (q : ℕ → Bool) (order places : List ℕ) → list_all q order ≡ true
    → list_all q places ≡ true → list_all q (visited_after_all order places) ≡ true
unfolding visited_after_all
all_visit q order [] e f = e
all_visit q order (p ∷ ps) e f =
    all_visit q (visited_after order p) ps (by (is_visited order p)) (and_second (q p) _ f)
  where
    by : (b : Bool) → list_all q (if b then order else order ++ p ∷ []) ≡ true
    by true = e
    by false =
        list_all-append q order (p ∷ []) ∙ and_from _ _ e (and_from _ _ (and_first (q p) _ f) refl)

or_known : (a b : Bool) → (b ≡ true → a ≡ true) → a ≡ (a || (b || false))
or_known true b f = refl
or_known false true f = let t = f refl in absurd cc
or_known false false f = refl

visited_once : (order : List ℕ) (p q : ℕ)
    → is_visited (visited_after order q) p ≡ (is_visited order p || (nat_eq p q || false))
visited_once order p q = by (is_visited order q) refl
  where
    by : (b : Bool) → is_visited order q ≡ b
        → is_visited (if b then order else order ++ q ∷ []) p
        ≡ (is_visited order p || (nat_eq p q || false))
    by true e = or_known (is_visited order p) (nat_eq p q)
        (λ h. let same : p ≡ q = grind (arith, nat_tests) in ap (is_visited order) same ∙ e)
    by false e = list_any-append (nat_eq p) order (q ∷ [])

or_assoc : (a b c : Bool) → ((a || (b || false)) || c) ≡ (a || (b || c))
or_assoc true b c = refl
or_assoc false true c = refl
or_assoc false false c = refl

visited_is : (order places : List ℕ) (p : ℕ)
    → is_visited (visited_after_all order places) p
    ≡ (is_visited order p || list_any (nat_eq p) places)
unfolding visited_after_all
visited_is order [] p = or_nothing (is_visited order p)
visited_is order (q ∷ places) p =
    visited_is (visited_after order q) places p
    ∙ ap (λ b. b || list_any (nat_eq p) places) (visited_once order p q)
    ∙ or_assoc (is_visited order p) (nat_eq p q) (list_any (nat_eq p) places)

any_same_at : {A : Type 0} (p q : A → Bool) (xs : List A)
    → ((i : ℕ) (x : A) → slice_get xs i ≡ Some x → p x ≡ q x) → list_any p xs ≡ list_any q xs
any_same_at p q [] e = refl
any_same_at p q (x ∷ xs) e = ap (λ b. b || list_any p xs) (e 0 x refl)
    ∙ ap (λ b. q x || b) (any_same_at p q xs (λ i. e (suc i)))

module _ (s : Source) (g : Globals) (names : g.names ≡ names_in_source s)
    (count : g.constants ≡ length s.constants) (once : are_distinct (names_in_source s) ≡ true)
  where
    name_place : (params : List Name) (p : ℕ) (c : Constant) → slice_get s.constants p ≡ Some c
        → (y : Name)
        → list_any (nat_eq p) (place_named g params y)
        ≡ (bytes_eq c.name y && not (among c.name params))
    name_place params p c at y =
        by (among y params) refl (constant_place g.names g.constants y) refl
      where
        same : bytes_eq c.name y ≡ true → c.name ≡ y
        same e = (bytes_eq-Decides c.name y).0 e

        by : (b : Bool) → among y params ≡ b → (o : Option ℕ)
            → constant_place g.names g.constants y ≡ o
            → list_any (nat_eq p) (if b then [] else listed (λ q. q ∷ []) o)
            ≡ (bytes_eq c.name y && not (among c.name params))
        by true e o found = test (bytes_eq c.name y) refl
          where
            test : (t : Bool) → bytes_eq c.name y ≡ t → false ≡ (t && not (among c.name params))
            test true h = sym (ap (λ z. not (among z params)) (same h) ∙ ap not e)
            test false h = refl
        by false e None found = test (bytes_eq c.name y) refl
          where
            test : (t : Bool) → bytes_eq c.name y ≡ t → false ≡ (t && not (among c.name params))
            test true h = let some = ap (constant_place g.names g.constants) (sym (same h))
                ∙ place_of_constant s g names count once p c at in absurd cc
            test false h = refl
        by false e (Some q) found =
            both_ways (nat_eq p q || false) (bytes_eq c.name y && not (among c.name params)) there
            back
          where
            there : (nat_eq p q || false) ≡ true
                → (bytes_eq c.name y && not (among c.name params)) ≡ true
            there h =
                let eq : nat_eq p q ≡ true = or_nothing (nat_eq p q) ∙ h in
                let one : p ≡ q = grind (arith, nat_tests) in
                let is = name_of_place s g names count once y q c found
                (ap (slice_get s.constants) (sym one) ∙ at) in
                and_from (bytes_eq c.name y) (not (among c.name params))
                ((bytes_eq-Decides c.name y).1 is) (ap (λ z. not (among z params)) is ∙ ap not e)

            back : (bytes_eq c.name y && not (among c.name params)) ≡ true
                → (nat_eq p q || false) ≡ true
            back h =
                let some : Some q ≡ Some p = sym found
                ∙ ap (constant_place g.names g.constants)
                (sym (same (and_first (bytes_eq c.name y) _ h)))
                ∙ place_of_constant s g names count once p c at in
                let one : q ≡ p = cc in
                let eq : nat_eq p q ≡ true = grind (arith, nat_tests) in
                or_left (nat_eq p q) false eq

    node_places_are : (r : ResolvedNode) (p : ℕ) (c : Constant) → slice_get s.constants p ≡ Some c
        → list_any (nat_eq p) (node_constants g r)
        ≡ (is_mentioned c.name r && not (among c.name (node_of r).parameters))
    node_places_are r p c at =
        let params = (node_of r).parameters in
        any_flat (nat_eq p) (part_constants g params) r.statics.items
        ∙ any_same (λ t. list_any (nat_eq p) (part_constants g params t))
        (λ t. among c.name (static_names (static_of t.text)) && not (among c.name params))
        r.statics.items (λ t.
        any_flat (nat_eq p) (place_named g params) (static_names (static_of t.text))
        ∙ any_same (λ y. list_any (nat_eq p) (place_named g params y))
        (λ y. bytes_eq c.name y && not (among c.name params)) (static_names (static_of t.text))
        (name_place params p c at)
        ∙ any_and (bytes_eq c.name) (not (among c.name params)) (static_names (static_of t.text)))
        ∙ any_and (λ t. among c.name (static_names (static_of t.text))) (not (among c.name params))
        r.statics.items

    named_are : (x : Name) (n : Node)
        → among x (named_constants (alone s) n)
        ≡ ((among x (node_names n) || among x (node_static_names n))
        && not (among x (variable_names n) || among x n.parameters))
    named_are x n =
        let all = node_names n ++ node_static_names n in
        any_filter (bytes_eq x) (λ y. not (among y (declared_names n))) all
        ∙ any_same (λ y. not (among y (declared_names n)) && bytes_eq x y)
        (λ y. bytes_eq x y && not (among x (declared_names n))) all test
        ∙ any_and (bytes_eq x) (not (among x (declared_names n))) all
        ∙ ap (λ b. b && not (among x (declared_names n)))
        (among_append x (node_names n) (node_static_names n))
        ∙ ap (λ b. (among x (node_names n) || among x (node_static_names n)) && not b)
        (among_append x (variable_names n) n.parameters)
      where
        test : (y : Name) → (not (among y (declared_names n)) && bytes_eq x y)
            ≡ (bytes_eq x y && not (among x (declared_names n)))
        test y = by (bytes_eq x y) refl
          where
            by : (b : Bool) → bytes_eq x y ≡ b
                → (not (among y (declared_names n)) && b) ≡ (b && not (among x (declared_names n)))
            by true h = and-true (not (among y (declared_names n)))
                ∙ ap (λ z. not (among z (declared_names n))) (sym ((bytes_eq-Decides x y).0 h))
            by false h = and-false (not (among y (declared_names n)))

    -- a variable is in no static expression
    no_variable : (x : Name) (n : Node) → named_in s n ≡ true → among x (variable_names n) ≡ true
        → among x (node_static_names n) ≡ false
    no_variable x n named v = by (among x (node_static_names n)) refl
      where
        static : list_all (is_static_name (alone s) n) (node_static_names n) ≡ true
        static =
            and_first _ _ (and_second (list_all (is_known (alone s) n) (node_names n)) _
            (and_second (list_all (is_callable (alone s)) (node_sites n)) _
            (and_second (declares_once (alone s) n) _ named)))

        by : (b : Bool) → among x (node_static_names n) ≡ b → b ≡ false
        by false e = refl
        by true e =
            let f = any_at (bytes_eq x) (node_static_names n) e in
            let is = and_first (not (among f.item (variable_names n))) _
            (all_at (is_static_name (alone s) n) (node_static_names n) f.place f.item static
            f.at) in
            let not_x : not (among x (variable_names n))
            ≡ true = ap (λ y. not (among y (variable_names n)))
            ((bytes_eq-Decides x f.item).0 f.passes) ∙ is in
            let no : not (among x (variable_names n)) ≡ false = ap not v in
            absurd cc

    hides : (m t v d : Bool) → (v ≡ true → t ≡ false)
        → (((m && not v) || t) && not d) ≡ ((m || t) && not (v || d))
    hides true t true d f = ap (λ b. b && not d) (f refl)
    hides false t true d f = ap (λ b. b && not d) (f refl) ∙ sym (ap (λ b. b && false) (f refl))
    hides true t false d f = refl
    hides false t false d f = refl

    pub named_places : (nodes : List ResolvedNode)
        → All (IsResolved (map (λ n. n.name) s.nodes)) nodes
        → list_all (λ r. named_in s (node_of r)) nodes ≡ true
        → AreNamed s (flat_map (named_constants (alone s)) (map node_of nodes))
        (visited_after_all [] (flat_map (node_constants g) nodes))
    named_places nodes resolved named = record {
      within = all_visit (in_source s) [] (flat_map (node_constants g) nodes) refl
          (all_flat (in_source s) (node_constants g) nodes
          ∙ all_from (λ r. list_all (in_source s) (node_constants g r)) nodes (λ i r at.
          all_flat (in_source s) (part_constants g (node_of r).parameters) r.statics.items
          ∙ all_from (λ t. list_all (in_source s) (part_constants g (node_of r).parameters t))
          r.statics.items (λ j t is.
          all_flat (in_source s) (place_named g (node_of r).parameters)
          (static_names (static_of t.text))
          ∙ all_from (λ y. list_all (in_source s) (place_named g (node_of r).parameters y))
          (static_names (static_of t.text)) (λ k y has.
          inside (among y (node_of r).parameters) y (constant_place g.names g.constants y) refl))));
      visited = λ p c at.
          visited_is [] (flat_map (node_constants g) nodes) p
          ∙ any_flat (nat_eq p) (node_constants g) nodes
          ∙ any_same_at (λ r. list_any (nat_eq p) (node_constants g r))
          (λ r. among c.name (named_constants (alone s) (node_of r))) nodes
          (λ i r is. alike p c at i r is)
          ∙ sym (any_map (λ n. among c.name (named_constants (alone s) n)) node_of nodes)
          ∙ sym (any_flat (bytes_eq c.name) (named_constants (alone s)) (map node_of nodes));
    }
      where
        inside : (b : Bool) (y : Name) (o : Option ℕ) → constant_place g.names g.constants y ≡ o
            → list_all (in_source s) (if b then [] else listed (λ p. p ∷ []) o) ≡ true
        inside true y o found = refl
        inside false y None found = refl
        inside false y (Some p) found =
            let f = constant_found g.names g.constants y p found in
            let below : p < length s.constants = omega (arith, f.below, count) in
            and_from (in_source s p) true (grind (arith, nat_tests)) refl

        alike : (p : ℕ) (c : Constant) → slice_get s.constants p ≡ Some c
            → (i : ℕ) (r : ResolvedNode)
            → slice_get nodes i ≡ Some r
            → list_any (nat_eq p) (node_constants g r)
            ≡ among c.name (named_constants (alone s) (node_of r))
        alike p c at i r is =
            let n = node_of r in
            node_places_are r p c at
            ∙ ap (λ b. b && not (among c.name n.parameters))
            (mentioned_is c.name r (map (λ k. k.name) s.nodes)
            (all_item (IsResolved (map (λ k. k.name) s.nodes)) nodes i r resolved is))
            ∙ hides (among c.name (node_names n)) (among c.name (node_static_names n))
            (among c.name (variable_names n)) (among c.name n.parameters)
            (no_variable c.name n (all_at (λ k. named_in s (node_of k)) nodes i r named is))
            ∙ sym (named_are c.name n)
