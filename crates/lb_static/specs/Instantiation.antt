-- The instantiation (E5, E6, E12) and the interface of its starts (E8).
-- Source: Lustre V6 reference manual, static parameters and arrays. Ranges, limits and the order
-- of instantiation are this project's rule; observers follow the 1993 paper on synchronous
-- observers.
use Rattle.std.specs.Prelude.{ℕ, suc, Bool, false, ◌&&◌, ◌||◌, not, nat_le, nat_lt, nat_eq, Option}
use Rattle.std.specs.Prelude.{Some, None, is_some, List, [], ◌∷◌, ◌++◌, map, length}
use Rattle.std.specs.List.{list_all}
use Rattle.lb_syntax.specs.Lists.{some_of, or_else, holds, all_some}
use Rattle.lb_syntax.specs.Refusals.{Refusal, E4, E5, E6, E7, E8, E12, unless}
use Rattle.lb_syntax.specs.Tree.{Static, Declaration}
use Rattle.lb_static.specs.Instances.{Program, Instance, Path, Root, Observer, Child, name_value}
use Rattle.lb_static.specs.Instances.{static_value, static_count, instance_at, instances}
use Rattle.lb_static.specs.DataTypes.{DataType, truth, is_type, are_types, variables, variable_type}
use Rattle.lb_static.specs.DataTypes.{width, input_types, output_types, signature}
use Rattle.lb_static.specs.Parts.{among, variable_names, node_names, node_statics, node_sizes}
use Rattle.lb_static.specs.Parts.{node_indexes, node_slices}
use Rattle.lb_static.specs.Names.{starts, keeps_names, is_well_founded}

module _ (P : Program) where
  -- ## E5: static values

  -- the static expressions of an instance have values, and so have the constants that its other
  -- expressions name
  abbrev pub has_values : Instance → Bool
  has_values here =
      list_all (λ s. is_some (static_value P here s)) (node_statics here.node)
      && list_all (λ x. among x (variable_names here.node) || is_some (name_value P here x))
      (node_names here.node)

  -- ## E6: ranges

  -- a static value within bounds
  abbrev pub is_between : Instance → (low high : ℕ) → Static → Bool
  is_between here low high s =
      holds (λ n. nat_le low n && nat_le n high) (static_count P here s)

  -- a slice does not run backwards
  abbrev pub is_forward : Instance → Static × Static → Bool
  is_forward here s =
      holds (λ i. holds (nat_le i) (static_count P here s.1)) (static_count P here s.0)

  -- sizes are 1 to 4,096, a variable has at most 65,536 scalar elements, indexes are 0 to 4,095
  abbrev pub is_in_range : Instance → Bool
  is_in_range here =
      list_all (is_between here 1 4096) (node_sizes here.node)
      && (list_all (λ d. nat_le (width P here d) 65536) (variables here.node)
      && (list_all (is_between here 0 4095) (node_indexes here.node)
      && list_all (is_forward here) (node_slices here.node)))

  -- ## E12: instances and levels

  -- the level of an instance: the starts are at level 1
  abbrev pub level : Path → ℕ
  level Root = 1
  level Observer = 1
  level (Child p call index) = suc (level p)

  -- an instance may be entered after `n` others: there are at most 4,096 instances and 64 levels
  abbrev pub may_enter : ℕ → Instance → Bool
  may_enter n here = nat_lt n 4096 && nat_le (level here.path) 64

  -- ## The walk

  -- the first rule that an instance breaks that is entered after `n` others
  abbrev pub instance_refusal : ℕ → Instance → Option Refusal
  instance_refusal n here =
      or_else (unless (may_enter n here) E12)
      (or_else (unless (has_values here) E5) (unless (is_in_range here) E6))

  -- the rule that the first instance with a fault breaks, of instances entered after `n` others
  abbrev pub instantiation_refusal : ℕ → List Instance → Option Refusal
  instantiation_refusal n [] = None
  instantiation_refusal n (here ∷ rest) =
      or_else (instance_refusal n here) (instantiation_refusal (suc n) rest)

  -- ## E8: the interface of the node under test and of the observer

  abbrev pub has_no_parameters : Bool
  has_no_parameters = list_all (λ n. nat_eq (length n.parameters) 0) (some_of (starts P))

  abbrev pub is_base_clocked : Declaration → Bool
  is_base_clocked d = not (is_some d.clock)

  -- all inputs and outputs are on the base clock
  abbrev pub has_plain_clocks : Instance → Bool
  has_plain_clocks start = list_all is_base_clocked (start.node.inputs ++ start.node.outputs)

  abbrev pub is_one_truth : Option (List DataType) → Bool
  is_one_truth (Some (t ∷ [])) = is_type t truth
  is_one_truth _ = false

  abbrev pub are_same : Option (List DataType) → Option (List DataType) → Bool
  are_same (Some ss) (Some ts) = are_types ss ts
  are_same _ _ = false

  -- the observer's inputs have the types of the node's inputs and then of its outputs
  abbrev pub fits_observer : Instance → Instance → Bool
  fits_observer root observer =
      are_same (input_types P observer)
      (all_some (map (variable_type P root) (root.node.inputs ++ root.node.outputs)))

  -- the property is the one output, a `bool`, of the observer, or else of the node under test
  abbrev pub has_property : Instance → Option Instance → Bool
  has_property root None = is_one_truth (output_types P root)
  has_property root (Some observer) =
      has_plain_clocks observer
      && (fits_observer root observer && is_one_truth (output_types P observer))

  -- there are at most 1,023 scalar inputs
  abbrev pub is_root : Instance → Bool
  is_root root =
      has_plain_clocks root
      && (nat_le (length (signature P)) 1023 && has_property root (instance_at P Observer))

  -- ## The first refusal of names, static values and instances

  abbrev pub static_refusal : Option Refusal
  static_refusal =
      or_else (unless (keeps_names P) E4)
      (or_else (unless (is_well_founded P) E7)
      (or_else (unless has_no_parameters E8)
      (or_else (instantiation_refusal 0 (instances P))
      (unless (holds is_root (instance_at P Root)) E8))))
