-- The promise of instantiation about the specializations that it adds.
-- This file says what data of the program mean; no definition of the language stands on it.
use Rattle.std.specs.Prelude.{◌≡◌, ℕ, ℤ, Some, List, [], ◌∷◌, slice_get}
use Rattle.lb_static.specs.Instances.{Program}
use Rattle.lb_static.specs.InstanceTable.{IsSpecialized, CallsBefore}
use Rattle.lb_static.specs.ReachedNodes.{id_at}
use Rattle.lb_static.specs.Instantiated.{values_at}
use Rattle.lb_static.specs.declared.reachable.Reached.{Reached}
use Rattle.lb_static.specs.declared.resolved.CallSite.{CallSite}
use Rattle.lb_static.specs.declared.resolved.ResolvedNode.{ResolvedNode}
use Rattle.lb_static.specs.declared.table.Specialization.{Specialization}
use Rattle.lb_static.specs.declared.table.SpecializationId.{SpecializationId}
use Rattle.lb_static.specs.declared.table.Table.{Table}

-- the specialization `id` is the callee of a call site, where `statics` are the values of the
-- static expressions of the caller's node
abbrev pub IsCalled :
    Reached → List Specialization → List ℤ → CallSite → SpecializationId → Type 0
IsCalled r specializations statics site id =
    (callee : Specialization) × (slice_get specializations id.0 ≡ Some callee)
    × (id_at r site.callee ≡ Some callee.node)
    × (callee.values.items ≡ values_at statics site.first_argument site.arguments)

-- the specializations are the callees of the call sites, one by one
abbrev pub AreCalled :
    Reached → List Specialization → List ℤ → List CallSite → List SpecializationId → Type 0
AreCalled r specializations statics [] [] = Unit {0}
AreCalled r specializations statics (site ∷ sites) (id ∷ ids) =
    IsCalled r specializations statics site id × AreCalled r specializations statics sites ids
AreCalled r specializations statics _ _ = ⊥

-- a specialization at this place has the callees of the call sites of its node, all before it
pub record IsLinked (r : Reached) (specializations : List Specialization) (place : ℕ)
    (s : Specialization) : Type 0 where
  pub called : (n : ResolvedNode) → slice_get r.nodes.items s.node.0 ≡ Some n →
      AreCalled r specializations s.statics.items n.calls.items s.callees.items
  pub before : CallsBefore place s

abbrev pub AreLinked : Reached → List Specialization → Type 0
AreLinked r specializations =
    (place : ℕ) (s : Specialization) → slice_get specializations place ≡ Some s
    → IsLinked r specializations place s

-- the specializations of a table are those of the definitions, and each stands after its callees
abbrev pub AreSpecialized : Program → Reached → Table → Type 0
AreSpecialized P r t =
    (i : ℕ) (s : Specialization) → slice_get t.specializations.items i ≡ Some s
    → IsSpecialized P r t s × CallsBefore i s
