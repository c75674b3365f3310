-- The instances of the node under test and of the observer, by the table.
use Rattle.std.proofs.Common.{◌≡◌, ℕ, ℤ, List, map, Option, Some, None, option_map, slice_get, refl}
use Rattle.std.proofs.Common.{ap, sym, ◌∙◌, subst}
use Rattle.std.proofs.lemmas.Option.{slice_get-map, slice_get_within, get_or_from_slice_get}
use Rattle.std.proofs.lemmas.Option.{some_pair_parts}
use Rattle.lb_syntax.specs.Lists.{◌>>=◌}
use Rattle.lb_static.specs.Instances.{Program, Path, Instance, Root, static_value}
use Rattle.lb_static.specs.Interfaces.{valued_node_in}
use Rattle.lb_static.specs.InstanceTable.{HasStarts, instance_of, specialized_at}
use Rattle.lb_static.specs.InstanceTable.{specialized_instance_at}
use Rattle.lb_static.specs.ReachedNodes.{IsReached, source_names}
use Rattle.lb_static.specs.ResolvedNodes.{IsResolved, node_of, statics_of}
use Rattle.lb_static.specs.declared.reachable.Reached.{Reached}
use Rattle.lb_static.specs.declared.resolved.ResolvedNode.{ResolvedNode}
use Rattle.lb_static.specs.declared.table.Specialization.{Specialization}
use Rattle.lb_static.specs.declared.table.SpecializationId.{SpecializationId}
use Rattle.lb_static.specs.declared.table.Table.{Table}
use Rattle.lb_static.proofs.InterfaceTypes.{Stands}

-- the node of a specialization with its values, if the node is there
abbrev with_values : Specialization → Option ResolvedNode → Option (ResolvedNode × List ℤ)
with_values s o = option_map (λ n. (n, s.statics.items)) o

-- the instance of a specialization, if its node is there
abbrev with_path : Path → Specialization → Option ResolvedNode → Option Instance
with_path path s o = option_map (λ n. instance_of path n s.values.items) (option_map node_of o)

specialized_is : (r : Reached) (path : Path) (s : Specialization)
    → specialized_at r path s ≡ with_path path s (slice_get r.nodes.items s.node.0)
specialized_is r path s = ap (option_map (λ n. instance_of path n s.values.items))
    (slice_get-map node_of r.nodes.items s.node.0)

-- a specialization whose node is not found has no instance
pub nothing_stands : (r : Reached) (t : Table) (path : Path) (id : SpecializationId)
    → valued_node_in r t id ≡ None → specialized_instance_at r t path id ≡ None
nothing_stands r t path id e = by (slice_get t.specializations.items id.0) e
  where
    absent : (s : Specialization) (o : Option ResolvedNode) → with_values s o ≡ None
        → with_path path s o ≡ None
    absent s None f = refl
    absent s (Some n) f = absurd cc

    by : (o : Option Specialization)
        → (o >>= λ s. with_values s (slice_get r.nodes.items s.node.0)) ≡ None
        → (o >>= specialized_at r path) ≡ None
    by None f = refl
    by (Some s) f = specialized_is r path s ∙ absent s (slice_get r.nodes.items s.node.0) f

resolved_at : (P : Program) (r : Reached) → IsReached P r → (k : ℕ) (n : ResolvedNode)
    → slice_get r.nodes.items k ≡ Some n → IsResolved (source_names P) n
resolved_at P r reached k n e =
    subst (IsResolved (source_names P)) (get_or_from_slice_get r.nodes.items k n n e)
    (reached.resolved k n (slice_get_within r.nodes.items k n e))

-- the values that a specialization holds are those of the definitions
abbrev Values : Program → Reached → Specialization → Type 0
Values P r s = (here : Instance) → specialized_at r Root s ≡ Some here → (m : ResolvedNode)
    → slice_get r.nodes.items s.node.0 ≡ Some m
    → map Some s.statics.items ≡ map (static_value P here) (statics_of m)

abbrev IsValuedNode : Program → Option Instance → ResolvedNode → List ℤ → Type 0
IsValuedNode P o n statics =
    (here : Instance) × (o ≡ Some here) × Stands P (source_names P) here n statics

node_stands : (P : Program) (r : Reached) (path : Path) (s : Specialization) (n : ResolvedNode)
    (statics : List ℤ) → IsReached P r → Values P r s
    → with_values s (slice_get r.nodes.items s.node.0) ≡ Some (n, statics)
    → IsValuedNode P (specialized_at r path s) n statics
node_stands P r path s n statics reached values e = by (slice_get r.nodes.items s.node.0) refl e
  where
    by : (o : Option ResolvedNode) → slice_get r.nodes.items s.node.0 ≡ o
        → with_values s o ≡ Some (n, statics) → IsValuedNode P (specialized_at r path s) n statics
    by None g f = absurd cc
    by (Some m) g f =
        let parts = some_pair_parts m n s.statics.items statics f in
        let at_root : specialized_at r Root s ≡ Some (instance_of Root (node_of m) s.values.items) =
        specialized_is r Root s ∙ ap (with_path Root s) g in
        let held = values (instance_of Root (node_of m) s.values.items) at_root m g in (
          instance_of path (node_of m) s.values.items,
          specialized_is r path s ∙ ap (with_path path s) g,
          record {
            node = ap node_of (sym parts.0);
            resolved = subst (IsResolved (source_names P)) parts.0
                (resolved_at P r reached s.node.0 m g);
            values = ap (map Some) (sym parts.1) ∙ held
                ∙ ap (λ x. map (static_value P (instance_of path (node_of m) s.values.items))
                (statics_of x)) parts.0;
          },
        )

-- a specialization whose node is found has an instance of this node with these values
pub stands : (P : Program) (r : Reached) (t : Table) (path : Path) (id : SpecializationId)
    (n : ResolvedNode) (statics : List ℤ) → IsReached P r → HasStarts P r t
    → valued_node_in r t id ≡ Some (n, statics)
    → IsValuedNode P (specialized_instance_at r t path id) n statics
stands P r t path id n statics reached table e =
    by (slice_get t.specializations.items id.0) (λ s f. (table.statics id.0 s f).1) e
  where
    by : (o : Option Specialization) → ((s : Specialization) → o ≡ Some s → Values P r s)
        → (o >>= λ s. with_values s (slice_get r.nodes.items s.node.0)) ≡ Some (n, statics)
        → IsValuedNode P (o >>= specialized_at r path) n statics
    by None values f = absurd cc
    by (Some s) values f = node_stands P r path s n statics reached (values s refl) f
