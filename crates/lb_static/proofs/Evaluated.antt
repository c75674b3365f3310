-- The values of the static expressions of a node, and the rules of values and ranges of its
-- instance.
use Rattle.std.proofs.Common.{◌≡◌, ℕ, ℤ, Bool, true, false, List, [], ◌∷◌, ◌++◌, map, reverse}
use Rattle.std.proofs.Common.{length, take, drop, Option, Some, None, option_map, refl, ap, ap₂}
use Rattle.std.proofs.Common.{sym, ◌∙◌, arith}
use Rattle.std.specs.Prelude.{◌&&◌, flat_map, is_some, nat_le}
use Rattle.std.specs.List.{list_all}
use Rattle.std.proofs.lemmas.List.{length-map, take-map, drop-map}
use Rattle.std.proofs.lemmas.List.Folds.{list_all-map, list_all-append}
use Rattle.std.proofs.Math.Bool.{and-true, and-false}
use Rattle.lb_syntax.specs.Lists.{◌>>=◌, all_some, either_or, zip2}
use Rattle.lb_syntax.specs.SourceView.{view_node}
use Rattle.lb_syntax.specs.Tree.{Name, Declaration}
use Rattle.lb_static.specs.Instances.{Program, Instance, Path, name_value, static_value}
use Rattle.lb_static.specs.Instances.{static_count}
use Rattle.lb_static.specs.Parts.{among, declared_sizes, node_parts, own_sizes, own_indexes}
use Rattle.lb_static.specs.Parts.{own_slices, variable_names}
use Rattle.lb_static.specs.ResolvedNodes.{IsResolved, statics_of}
use Rattle.lb_static.specs.ResolvedTerms.{declaration_of, static_of}
use Rattle.lb_static.specs.DataTypes.{variables, width, product, element_count}
use Rattle.lb_static.specs.Specialized.{part_value, part_values, are_in_range, is_narrow}
use Rattle.lb_static.specs.Specialized.{node_in_range}
use Rattle.lb_static.specs.SharedParts.{with_parts}
use Rattle.lb_static.specs.StaticParts.{Part, group_parts, node_static_parts, part_of}
use Rattle.lb_static.specs.StaticValues.{natural, value_under}
use Rattle.lb_static.specs.Instantiation.{has_values, is_in_range}
use Rattle.lb_static.specs.declared.resolved.ResolvedNode.{ResolvedNode}
use Rattle.lb_static.specs.declared.resolved.StaticPart.{StaticPart}
use Rattle.lb_static.specs.declared.resolved.Variable.{Variable as Declared}
use Rattle.lb_static.proofs.Evaluations.{some_each}
use Rattle.lb_static.proofs.ValuedInstances.{instance_with, values_judged, variables_declared}
use Rattle.lb_static.proofs.ValuedInstances.{groups_of}
use Rattle.lb_static.proofs.Lists.{map_map}
use Rattle.lb_static.proofs.NodeRanges.{passes, ranges_are, node_ranges, body_passes, is_size}
use Rattle.lb_static.proofs.NodeRanges.{is_index, is_slice}
use Rattle.lb_static.proofs.NodeValues.{some_all, sizes_in}
use Rattle.lb_static.proofs.OwnParts.{body_is}
use Rattle.lb_static.proofs.SharedParts.{all_kept}
use Rattle.lb_static.proofs.Widths.{narrow_is}
use Rattle.lb_static.proofs.Options.{map_reverse}

all_zipped : {A B C : Type 0} (f : A → B → C) (q : C → Bool) (p : B → Bool) (xs : List A)
    (ys : List B) → length xs ≡ length ys
    → ((x : A) (y : B) → q (f x y) ≡ p y) → list_all q (zip2 f xs ys) ≡ list_all p ys
all_zipped f q p [] [] e h = refl
all_zipped f q p [] (y ∷ ys) e h = absurd (omega arith)
all_zipped f q p (x ∷ xs) [] e h = absurd (omega arith)
all_zipped f q p (x ∷ xs) (y ∷ ys) e h =
    let rest : length xs ≡ length ys = omega arith in
    ap₂ (λ a b. a && b) (h x y) (all_zipped f q p xs ys rest h)

module _ (P : Program) (p : Path) (r : ResolvedNode) (values : List (Name × ℤ)) where
  abbrev pub here : Instance
  here = instance_with p r.tree.now values

  abbrev pub given : Name → Option ℤ
  given = name_value P here

  -- ## Values

  pub values_had : map part_of r.statics.items ≡ with_parts [] (node_static_parts r.tree.now)
      → has_values P here ≡ is_some (part_values given r.statics.items)
  values_had e =
      let test = λ (q : Part). is_some (value_under given q.1) in
      values_judged P p r.tree.now values
      ∙ sym (ap (list_all test) e ∙ all_kept test [] (node_static_parts r.tree.now))
      ∙ list_all-map test part_of r.statics.items
      ∙ sym (some_all (map (part_value given) r.statics.items)
      ∙ list_all-map is_some (part_value given) r.statics.items)

  -- ## Widths

  counts : (vs : List ℤ) → part_values given r.statics.items ≡ Some vs
      → map (static_count P here) (statics_of r) ≡ map natural vs
  counts vs e =
      map_map (λ (q : StaticPart). static_of q.text) (static_count P here) r.statics.items
      ∙ sym (map_map (part_value given) (λ (o : Option ℤ). o >>= natural) r.statics.items)
      ∙ ap (map (λ (o : Option ℤ). o >>= natural))
      (sym (some_each (map (part_value given) r.statics.items) vs e))
      ∙ map_map (λ (v : ℤ). Some v) (λ (o : Option ℤ). o >>= natural) vs

  elements_are : (d : Declaration) (o : Option (List ℕ))
      → either_or (option_map element_count
      (option_map (λ ns. record { kind = d.kind; sizes = ns }) o)) 0
      ≡ either_or (option_map product o) 0
  elements_are d None = refl
  elements_are d (Some ns) = refl

  width_is : (vs : List ℤ) → part_values given r.statics.items ≡ Some vs → (x : Name) (v : Declared)
      → nat_le (width P here (declaration_of (variable_names (view_node r.tree.now)) (statics_of r)
      x v)) 65536 ≡ is_narrow vs v
  width_is vs e x v =
      let d = declaration_of (variable_names (view_node r.tree.now)) (statics_of r) x v in
      let own = take v.sizes (drop v.first_size.0 vs) in
      let same : map (static_count P here) d.sizes ≡ map natural own =
      sym (take-map (static_count P here) v.sizes (drop v.first_size.0 (statics_of r)))
      ∙ ap (take v.sizes) (sym (drop-map (static_count P here) v.first_size.0 (statics_of r))
      ∙ ap (drop v.first_size.0) (counts vs e) ∙ drop-map natural v.first_size.0 vs)
      ∙ take-map natural v.sizes (drop v.first_size.0 vs) in
      ap (λ n. nat_le n 65536)
      (elements_are d (all_some (map (static_count P here) (reverse d.sizes))))
      ∙ ap (λ l. nat_le (either_or (option_map product (all_some l)) 0) 65536)
      (map_reverse (static_count P here) d.sizes ∙ ap reverse same)
      ∙ sym (narrow_is own)

  widths_are : (names : List Name) → IsResolved names r → (vs : List ℤ)
      → part_values given r.statics.items ≡ Some vs
      → list_all (λ d. nat_le (width P here d) 65536) (variables here.node)
      ≡ list_all (is_narrow vs) r.variables.items
  widths_are names is vs e =
      let xs = variable_names (view_node r.tree.now) in
      ap (list_all (λ d. nat_le (width P here d) 65536)) (sym is.declared)
      ∙ all_zipped (declaration_of xs (statics_of r)) (λ d. nat_le (width P here d) 65536)
      (is_narrow vs) xs r.variables.items
      (length-map (variables here.node) (λ d. d.name) ∙ sym is.as_many) (width_is vs e)

  -- ## Ranges

  ranges_had : (names : List Name) → IsResolved names r → (vs : List ℤ)
      → part_values given r.statics.items ≡ Some vs
      → are_in_range given r.statics.items vs
      ≡ (list_all (is_size given) (declared_sizes here.node)
      && body_passes given (λ x. among x (variable_names here.node)) (node_parts here.node))
  ranges_had names is vs e =
      let w = r.tree.now in
      let variable = λ (x : Name). among x (variable_names here.node) in
      ranges_are given r.statics.items vs
      (some_each (map (part_value given) r.statics.items) vs e)
      ∙ ap (list_all (passes given)) is.statics
      ∙ all_kept (passes given) [] (node_static_parts w)
      ∙ ap (λ l. list_all (passes given) (flat_map group_parts (groups_of w) ++ l))
      (body_is variable here.node.body)
      ∙ node_ranges given variable (groups_of w) (node_parts here.node)
      ∙ ap (λ ds. list_all (is_size given) (sizes_in ds)
      && body_passes given variable (node_parts here.node)) (variables_declared w)

  regroup : (d s i l w : Bool) → ((d && (s && (i && l))) && w) ≡ ((d && s) && (w && (i && l)))
  regroup true true i l true = and-true (i && l)
  regroup true true i l false = and-false (i && l)
  regroup true false i l w = refl
  regroup false s i l w = refl

  pub in_range_had : (names : List Name) → IsResolved names r → (vs : List ℤ)
      → part_values given r.statics.items ≡ Some vs
      → node_in_range given r vs ≡ is_in_range P here
  in_range_had names is vs e =
      let es = node_parts here.node in
      let sizes = list_all (is_size given) (flat_map own_sizes es) in
      let indexes = list_all (is_index given) (flat_map own_indexes es) in
      let slices = list_all (is_slice given) (flat_map own_slices es) in
      ap₂ (λ a b. a && b) (ranges_had names is vs e) (sym (widths_are names is vs e))
      ∙ regroup (list_all (is_size given) (declared_sizes here.node)) sizes indexes slices
      (list_all (λ d. nat_le (width P here d) 65536) (variables here.node))
      ∙ ap (λ b. b && (list_all (λ d. nat_le (width P here d) 65536) (variables here.node)
      && (indexes && slices)))
      (sym (list_all-append (is_size given) (declared_sizes here.node) (flat_map own_sizes es)))

  pub values_held : (vs : List ℤ) → part_values given r.statics.items ≡ Some vs
      → map (λ v. Some v) vs ≡ map (static_value P here) (statics_of r)
  values_held vs e =
      some_each (map (part_value given) r.statics.items) vs e
      ∙ sym (map_map (λ (q : StaticPart). static_of q.text) (static_value P here) r.statics.items)
