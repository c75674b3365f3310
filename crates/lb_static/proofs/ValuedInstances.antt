-- An instance has values, and they are in range, where this holds of the static expressions of its
-- node.
use Rattle.std.proofs.Common.{◌≡◌, ℤ, Bool, true, false, List, ◌++◌, Option, refl, ap, ap₂, sym}
use Rattle.std.proofs.Common.{◌∙◌}
use Rattle.std.specs.Prelude.{◌&&◌, flat_map, is_some}
use Rattle.std.specs.List.{list_all}
use Rattle.std.proofs.lemmas.List.{map-append}
use Rattle.std.proofs.lemmas.List.Folds.{list_all-append}
use Rattle.lb_syntax.specs.Grammar.{Group, declared}
use Rattle.lb_syntax.specs.SourceView.{view_group, view_groups, view_node}
use Rattle.lb_syntax.specs.Tree.{Name}
use Rattle.lb_syntax.specs.declared.tree.Declarations.{Declarations}
use Rattle.lb_syntax.specs.declared.tree.Node as written
use Rattle.lb_static.specs.Instances.{Program, Instance, Path, name_value}
use Rattle.lb_static.specs.Parts.{among, declared_sizes, node_parts, own_sizes, own_indexes}
use Rattle.lb_static.specs.Parts.{own_arguments, own_names, variable_names}
use Rattle.lb_static.specs.DataTypes.{variables}
use Rattle.lb_static.specs.StaticParts.{Part, group_parts, node_static_parts}
use Rattle.lb_static.specs.StaticValues.{value_under}
use Rattle.lb_static.specs.Instantiation.{has_values}
use Rattle.lb_static.proofs.NodeValues.{sizes_in, groups_sizes, has, name_has, body_values}
use Rattle.lb_static.proofs.OwnParts.{body_is}
use Rattle.lb_static.proofs.Mentions.{declared_append}

viewed_append : (xs ys : List Declarations)
    → declared (view_groups (xs ++ ys)) ≡ declared (view_groups xs) ++ declared (view_groups ys)
viewed_append xs ys = ap declared (map-append view_group xs ys)
    ∙ declared_append (view_groups xs) (view_groups ys)

-- the groups of declarations of a node
abbrev pub groups_of : written.Node → List Group
groups_of w = view_groups (w.inputs.items ++ (w.outputs.items ++ w.locals.items))

pub variables_declared : (w : written.Node) → declared (groups_of w) ≡ variables (view_node w)
variables_declared w =
    viewed_append w.inputs.items (w.outputs.items ++ w.locals.items)
    ∙ ap (λ l. declared (view_groups w.inputs.items) ++ l)
    (viewed_append w.outputs.items w.locals.items)

-- an instance of a node
abbrev pub instance_with : Path → written.Node → List (Name × ℤ) → Instance
instance_with p w values = record { path = p; node = view_node w; values = values }

module _ (P : Program) (p : Path) (w : written.Node) (values : List (Name × ℤ)) where
  abbrev given : Name → Option ℤ
  given = name_value P (instance_with p w values)

  abbrev is_variable : Name → Bool
  is_variable x = among x (variable_names (view_node w))

  abbrev part_has : Part → Bool
  part_has q = is_some (value_under given q.1)

  regroup : (d s i a n : Bool) → (((d && s) && (i && a)) && n) ≡ (d && ((s && (i && a)) && n))
  regroup true s i a n = refl
  regroup false s i a n = refl

  pub values_judged : has_values P (instance_with p w values)
      ≡ list_all part_has (node_static_parts w)
  values_judged =
      let node = view_node w in
      let es = node_parts node in
      let h = has is_variable given in
      ap₂ (λ a b. a && b)
      (list_all-append h (declared_sizes node ++ flat_map own_sizes es)
      (flat_map own_indexes es ++ flat_map own_arguments es)
      ∙ ap₂ (λ a b. a && b) (list_all-append h (declared_sizes node) (flat_map own_sizes es))
      (list_all-append h (flat_map own_indexes es) (flat_map own_arguments es)))
      refl
      ∙ regroup (list_all h (declared_sizes node)) (list_all h (flat_map own_sizes es))
      (list_all h (flat_map own_indexes es)) (list_all h (flat_map own_arguments es))
      (list_all (name_has is_variable given) (flat_map own_names es))
      ∙ ap₂ (λ a b. a && b)
      (ap (λ ds. list_all h (sizes_in ds)) (sym (variables_declared w))
      ∙ groups_sizes h (groups_of w))
      (body_values is_variable given es
      ∙ ap (list_all part_has) (sym (body_is is_variable node.body)))
      ∙ sym (list_all-append part_has (flat_map group_parts (groups_of w)) _)
