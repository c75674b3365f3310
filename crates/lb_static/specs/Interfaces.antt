-- The types of the inputs and outputs of an instance, as the code finds them.
-- This file says what data of the program mean; no definition of the language stands on it.
use Rattle.std.specs.Prelude.{◌≡◌, ℕ, ◌+◌, ℤ, Bool, ◌&&◌, not, nat_le, Option, None, Some}
use Rattle.std.specs.Prelude.{is_some, option_map, List, [], ◌∷◌, ◌++◌, map, take, drop, length}
use Rattle.std.specs.Prelude.{slice_get, Result, Ok, Err}
use Rattle.std.specs.List.{list_all}
use Rattle.lb_syntax.specs.Lists.{◌>>=◌, where_true}
use Rattle.lb_syntax.specs.SourceView.{view_node}
use Rattle.lb_syntax.specs.Tree.{Name, Node}
use Rattle.lb_static.specs.ResolvedNodes.{node_of}
use Rattle.lb_static.specs.DataTypes.{DataType, truth, element_names, are_types}
use Rattle.lb_static.specs.Signature.{Elements}
use Rattle.lb_static.specs.StoredTypes.{view_types, declared_types}
use Rattle.lb_static.specs.declared.error.StaticError.{StaticError}
use Rattle.lb_static.specs.declared.error.StaticError.TheVariants as error
use Rattle.lb_static.specs.declared.interface.Interface.{Interface}
use Rattle.lb_static.specs.declared.reachable.Reached.{Reached}
use Rattle.lb_static.specs.declared.resolved.ResolvedNode.{ResolvedNode}
use Rattle.lb_static.specs.declared.resolved.Variable.{Variable}
use Rattle.lb_static.specs.declared.table.SpecializationId.{SpecializationId}
use Rattle.lb_static.specs.declared.table.Table.{Table}

-- an error of memory, or of the interface of the node under test or the observer, for this reason
abbrev pub IsRootFault : Type 0 → StaticError → Type 0
IsRootFault Reason error.Memory = Unit {0}
IsRootFault Reason (error.Root x) = Reason
IsRootFault Reason _ = ⊥

-- an answer for `o`: a value that `seen_as` maps to that of `o`, or an error where `o` has none
abbrev pub Answers : {A B : Type 0} → (A → B) → Option B → Result A StaticError → Type 0
Answers seen_as o (Ok a) = o ≡ Some (seen_as a)
Answers seen_as o (Err e) = IsRootFault (o ≡ None) e

-- ## The inputs and outputs of an instance

-- the inputs and outputs of a node with values: `inputs` is the number of the inputs among the
-- types, and `is_plain` says whether all are on the base clock
pub record InterfaceView : Type 0 where
  pub node : Node
  pub inputs : ℕ
  pub data_types : List DataType
  pub is_plain : Bool

abbrev pub has_no_clock : Variable → Bool
has_no_clock v = not (is_some v.clock)

abbrev pub view_interface : Interface → InterfaceView
view_interface i = record {
  node = view_node i.tree.now;
  inputs = i.inputs;
  data_types = view_types i.data_types;
  is_plain = i.is_plain;
}

-- the inputs and outputs among the variables of a node
abbrev pub interface_variables : ResolvedNode → Option (List Variable)
interface_variables n =
    where_true (nat_le (n.inputs + n.outputs) (length n.variables.items))
    (take (n.inputs + n.outputs) n.variables.items)

-- the inputs and outputs of a node, by the values of its static expressions
abbrev pub interface_under : ResolvedNode → List ℤ → Option InterfaceView
interface_under n statics =
    interface_variables n >>= λ vs.
    option_map
    (λ ss. record {
      node = node_of n;
      inputs = n.inputs;
      data_types = ss;
      is_plain = list_all has_no_clock vs;
    })
    (declared_types statics vs)

-- the types of the inputs
abbrev pub inputs_of : InterfaceView → List DataType
inputs_of f = take f.inputs f.data_types

abbrev pub outputs_of : InterfaceView → List DataType
outputs_of f = drop f.inputs f.data_types

-- the node of a specialization, and the values of its static expressions
abbrev pub valued_node_in : Reached → Table → SpecializationId → Option (ResolvedNode × List ℤ)
valued_node_in r t id =
    slice_get t.specializations.items id.0 >>= λ s.
    option_map (λ n. (n, s.statics.items)) (slice_get r.nodes.items s.node.0)

-- whether the outputs are one scalar `bool`
abbrev pub is_one_truth_in : List DataType → Bool
is_one_truth_in ts = are_types ts (truth ∷ [])

abbrev pub observes : InterfaceView → InterfaceView → Bool
observes observer root =
    observer.is_plain
    && (are_types (inputs_of observer) root.data_types && is_one_truth_in (outputs_of observer))

abbrev pub property_by : InterfaceView → Option (ResolvedNode × List ℤ) → Option Bool
property_by root None = Some (is_one_truth_in (outputs_of root))
property_by root (Some s) = option_map (λ o. observes o root) (interface_under s.0 s.1)

-- the scalar elements of variables of these names and types
abbrev pub elements_named : List Name → List DataType → Elements
elements_named (x ∷ xs) (s ∷ ss) =
    map (λ n. (n, s.kind)) (element_names x s.sizes) ++ elements_named xs ss
elements_named _ _ = []

-- whether a program has its property, where `root` is the interface of its node under test
abbrev pub property_in : Reached → Table → InterfaceView → Option Bool
property_in r t root = property_by root (t.observer >>= valued_node_in r t)
