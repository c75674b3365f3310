-- The answers about the interface of the node under test and of the observer.
-- This file says what data of the program mean; no definition of the language stands on it.
use Rattle.std.specs.Prelude.{◌≡◌, Bool, true, false, ◌&&◌, nat_eq, nat_le, [], ◌∷◌, length, map}
use Rattle.std.specs.Prelude.{Option, Result, Ok, Err}
use Rattle.std.specs.List.{list_all}
use Rattle.lb_syntax.specs.Lists.{either_or, holds, some_of, where_true}
use Rattle.lb_static.specs.Instances.{Program, Root, instance_at}
use Rattle.lb_static.specs.Interfaces.{InterfaceView, elements_named, inputs_of, property_in}
use Rattle.lb_static.specs.ReachedNodes.{tree_at}
use Rattle.lb_static.specs.DataTypes.{signature, total}
use Rattle.lb_static.specs.Signature.{Elements}
use Rattle.lb_static.specs.Instantiation.{is_root}
use Rattle.lb_static.specs.declared.error.StaticError.{StaticError}
use Rattle.lb_static.specs.declared.error.StaticError.TheVariants as error
use Rattle.lb_static.specs.declared.reachable.NodeId.{NodeId}
use Rattle.lb_static.specs.declared.reachable.Reached.{Reached}
use Rattle.lb_static.specs.declared.table.Table.{Table}

-- whether a reached node has no static parameters
abbrev pub has_no_parameters_at : Reached → NodeId → Bool
has_no_parameters_at r id =
    list_all (λ n. nat_eq (length n.parameters) 0) (some_of (tree_at r id ∷ []))

-- whether a node under test with these inputs and outputs has a lawful interface
abbrev pub is_root_in : Reached → Table → InterfaceView → Bool
is_root_in r t f =
    f.is_plain
    && (nat_le (total (inputs_of f)) 1023 && either_or (property_in r t f) false)

-- the scalar inputs of a node under test with these inputs and outputs, if its interface is lawful
abbrev pub signature_in : Reached → Table → InterfaceView → Option Elements
signature_in r t f =
    where_true (is_root_in r t f)
    (elements_named (map (λ d. d.name) f.node.inputs) (inputs_of f))

-- An answer: the signature of a program whose node under test and observer have lawful interfaces;
-- or an error, and then they have not, unless memory ran out.
abbrev pub IsRootAnswer : Program → Result Elements StaticError → Type 0
IsRootAnswer P (Ok s) = (holds (is_root P) (instance_at P Root) ≡ true) × (s ≡ signature P)
IsRootAnswer P (Err error.Memory) = Unit {0}
IsRootAnswer P (Err (error.Root x)) = holds (is_root P) (instance_at P Root) ≡ false
IsRootAnswer P (Err _) = ⊥
