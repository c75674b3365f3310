-- The promise of instantiation.
-- This file says what data of the program mean; no definition of the language stands on it.
use Rattle.std.specs.Prelude.{◌≡◌, ◌<◌, ◌+◌, ℕ, ℤ, pos, true, false, Option, Some, None, List, map}
use Rattle.std.specs.Prelude.{take, drop, length, slice_get, Result, Ok, Err, Vec, All}
use Rattle.std.specs.List.{list_all}
use Rattle.std.specs.Borrow.{Bor}
use Rattle.std.specs.declared.alloc.Global.{Global}
use Rattle.lb_syntax.specs.Lists.{either_or}
use Rattle.lb_syntax.specs.Refusals.{Refusal, E5, E6, E12}
use Rattle.lb_static.specs.HeldValues.{value_of}
use Rattle.lb_static.specs.Instances.{Program, Instance, Path, static_value, instances}
use Rattle.lb_static.specs.InstanceTable.{instance_of, HasStarts}
use Rattle.lb_static.specs.Names.{keeps_names}
use Rattle.lb_static.specs.ReachedNodes.{IsReached, are_linked}
use Rattle.lb_static.specs.ResolvedNodes.{counts_of, node_of, statics_of}
use Rattle.lb_static.specs.ResolvedTerms.{is_declared_within, is_site_within}
use Rattle.lb_static.specs.Specialized.{size_of}
use Rattle.lb_static.specs.StaticValues.{constant_value}
use Rattle.lb_static.specs.Instantiation.{has_values, is_in_range, instance_refusal}
use Rattle.lb_static.specs.Instantiation.{instantiation_refusal}
use Rattle.lb_static.specs.declared.constants.Constants.{Constants}
use Rattle.lb_static.specs.declared.error.StaticError.{StaticError}
use Rattle.lb_static.specs.declared.error.StaticError.TheVariants as error
use Rattle.lb_static.specs.declared.reachable.NodeId.{NodeId}
use Rattle.lb_static.specs.declared.reachable.Reached.{Reached}
use Rattle.lb_static.specs.declared.resolved.ResolvedNode.{ResolvedNode}
use Rattle.lb_static.specs.declared.resolved.StaticId.{StaticId}
use Rattle.lb_static.specs.declared.static_value.StaticInt.{StaticInt}
use Rattle.lb_static.specs.declared.table.Specialization.{Specialization}
use Rattle.lb_static.specs.declared.table.SpecializationId.{SpecializationId}
use Rattle.lb_static.specs.declared.table.Table.{Table}
use Rattle.lb_static.specs.declared.instantiate.Begun.{Begun}

-- ## The input of instantiation

-- the numbers of a node are within range, and its callees are reached
pub record IsSoundNode (r : Reached) (n : ResolvedNode) : Type 0 where
  pub declared : list_all (is_declared_within (counts_of n)) n.variables.items ≡ true
  pub calls :
      list_all (is_site_within (length r.ids.items) (counts_of n)) n.calls.items ≡ true
  pub linked : are_linked r n ≡ true

abbrev pub AreSound : Reached → Type 0
AreSound r = All (IsSoundNode r) r.nodes.items

-- the reached nodes and the constants' values are those of a program that keeps the rule of names
pub record IsInstantiable (P : Program) (r : Reached) (c : Constants) : Type 0 where
  pub names : keeps_names P ≡ true
  pub reached : IsReached P r
  pub values :
      value_of c ≡ constant_value P.source.constants (length P.source.constants)

-- ## Instances that are judged

-- `statics` are the values of the static expressions of an instance, and they are in range
pub record IsJudged (P : Program) (n : ResolvedNode) (here : Instance) (statics : List ℤ) :
    Type 0 where
  pub values : has_values P here ≡ true
  pub in_range : is_in_range P here ≡ true
  pub evaluated_as : map Some statics ≡ map (static_value P here) (statics_of n)

-- the values of a specialization are judged, at whatever path
abbrev pub IsJudgedAt : Program → Reached → Specialization → Type 0
IsJudgedAt P r s =
    (p : Path) (n : ResolvedNode) → slice_get r.nodes.items s.node.0 ≡ Some n
    → IsJudged P n (instance_of p (node_of n) s.values.items) s.statics.items

-- each specialization is of a reached node, and its values are judged
abbrev pub AreJudged : Program → Reached → List Specialization → Type 0
AreJudged P r specializations =
    (i : ℕ) (s : Specialization) → slice_get specializations i ≡ Some s
    → (s.node.0 < length r.nodes.items) × IsJudgedAt P r s

-- each specialization that was there before has the place that it had
abbrev pub HasGrown : (before after : List Specialization) → Type 0
HasGrown before after =
    (i : ℕ) (s : Specialization) → slice_get before i ≡ Some s → slice_get after i ≡ Some s

-- the specialization `id` is there; it is of this node with these values
abbrev pub IsKnown : List Specialization → NodeId → List ℤ → SpecializationId → Type 0
IsKnown specializations node values id =
    (s : Specialization) × (slice_get specializations id.0 ≡ Some s) × (s.node ≡ node)
    × (s.values.items ≡ values)

-- a specialization that was found, if any: it is of this node with these values, which are judged
abbrev pub IsKnownWith :
    Program → Reached → Option (SpecializationId × Bor Specialization) → NodeId → List ℤ → Type 0
IsKnownWith P r None node values = Unit {0}
IsKnownWith P r (Some f) node values =
    IsJudgedAt P r f.1.now × (f.1.now.node ≡ node) × (f.1.now.values.items ≡ values)

-- ## Refusals

-- an error, unless of memory, is this refusal
abbrev pub IsRefusal : Option Refusal → StaticError → Type 0
IsRefusal o error.Memory = Unit {0}
IsRefusal o (error.Value x) = o ≡ Some E5
IsRefusal o (error.Range x) = o ≡ Some E6
IsRefusal o (error.Instances x) = o ≡ Some E12
IsRefusal o _ = ⊥

-- an answer: the values of the static expressions of an instance, or the rule that these break
abbrev pub IsJudgement :
    Program → ResolvedNode → Instance → Result (Vec StaticInt Global) StaticError → Type 0
IsJudgement P n here (Ok statics) = IsJudged P n here statics.items
IsJudgement P n here (Err error.Memory) = Unit {0}
IsJudgement P n here (Err (error.Value x)) = has_values P here ≡ false
IsJudgement P n here (Err (error.Range x)) =
    (has_values P here ≡ true) × (is_in_range P here ≡ false)
IsJudgement P n here (Err _) = ⊥

-- an answer for an instance that is entered after `before` others: its values, and then it breaks
-- no rule; or the rule that it breaks
abbrev pub IsBegun :
    Program → ℕ → ResolvedNode → Instance → Result Begun StaticError → Type 0
IsBegun P before n here (Ok b) =
    IsJudged P n here b.statics.items × (instance_refusal P before here ≡ None)
IsBegun P before n here (Err e) = IsRefusal (instance_refusal P before here) e

-- the instances `entered` were entered after `before` others, and so there are `after` of them
pub record AreEntered (P : Program) (before : ℕ) (entered : List Instance) (after : ℕ) :
    Type 0 where
  pub kept : instantiation_refusal P before entered ≡ None
  pub count : after ≡ before + length entered

-- ## Calls

-- the values of `count` static expressions from `first` on
abbrev pub values_at : List ℤ → StaticId → ℕ → List ℤ
values_at statics first count = take count (drop first.0 statics)

-- the number of times that a call is entered: once, or the value of its count
abbrev pub times_of : List ℤ → Option StaticId → ℕ
times_of statics None = 1
times_of statics (Some i) = size_of (either_or (slice_get statics i.0) (pos 0))

-- ## The whole instantiation

-- An answer: the table of the instances of a program, or the rule that the first instance with a
-- fault breaks, unless memory ran out.
abbrev pub IsInstantiationAnswer : Program → Reached → Result Table StaticError → Type 0
IsInstantiationAnswer P r (Ok t) =
    (instantiation_refusal P 0 (instances P) ≡ None) × HasStarts P r t
IsInstantiationAnswer P r (Err e) = IsRefusal (instantiation_refusal P 0 (instances P)) e
