-- The promise of the table of instances to the steps above.
-- This file says what data of the program mean; no definition of the language stands on it.
use Rattle.std.specs.Prelude.{◌≡◌, ◌<◌, ◌≤◌, ℕ, ℤ, Option, Some, None, option_map, List, [], ◌∷◌}
use Rattle.std.specs.Prelude.{◌++◌, map, length, slice_get}
use Rattle.std.specs.List.{zip, Contains}
use Rattle.lb_syntax.specs.Lists.{◌>>=◌, either_or, zip2}
use Rattle.lb_syntax.specs.Tree.{Node}
use Rattle.lb_static.specs.Instances.{Program, Instance, Path, Root, Observer, Child, Site}
use Rattle.lb_static.specs.Instances.{static_value, callee_of, node_sites, instance_at, instances}
use Rattle.lb_static.specs.ReachedNodes.{tree_at}
use Rattle.lb_static.specs.ResolvedNodes.{statics_of}
use Rattle.lb_static.specs.declared.reachable.Reached.{Reached}
use Rattle.lb_static.specs.declared.table.Instance as row
use Rattle.lb_static.specs.declared.table.Origin.{Origin}
use Rattle.lb_static.specs.declared.table.Origin.TheVariants as origin
use Rattle.lb_static.specs.declared.table.Specialization.{Specialization}
use Rattle.lb_static.specs.declared.table.SpecializationId.{SpecializationId}
use Rattle.lb_static.specs.declared.table.Table.{Table}

-- ## Specializations

-- a node at a path, with the values of its static parameters
abbrev pub instance_of : Path → Node → List ℤ → Instance
instance_of p n values = record { path = p; node = n; values = zip n.parameters values }

-- the instance that a specialization is at a path, where its node is reached
abbrev pub specialized_at : Reached → Path → Specialization → Option Instance
specialized_at r p s = option_map (λ n. instance_of p n s.values.items) (tree_at r s.node)

-- the instance at a path of the specialization `id` of the table
abbrev pub specialized_instance_at : Reached → Table → Path → SpecializationId → Option Instance
specialized_instance_at r t p id = slice_get t.specializations.items id.0 >>= specialized_at r p

-- the static expressions of a specialization have the values that the definitions give them
abbrev pub HasStatics : Program → Reached → Specialization → Type 0
HasStatics P r s =
    (here : Instance) → specialized_at r Root s ≡ Some here →
    (n : _) → slice_get r.nodes.items s.node.0 ≡ Some n →
    map Some s.statics.items ≡ map (static_value P here) (statics_of n)

-- the callees of a specialization are those that the definitions give it
abbrev pub HasCallees : Program → Reached → Table → Specialization → Type 0
HasCallees P r t s =
    (here : Instance) → specialized_at r Root s ≡ Some here →
    (call : ℕ) (site : Site) → slice_get (node_sites here.node) call ≡ Some site →
    (id : SpecializationId) → slice_get s.callees.items call ≡ Some id →
    (callee : Specialization) → slice_get t.specializations.items id.0 ≡ Some callee →
    callee_of P here site call 0 ≡ specialized_at r (Child Root call 0) callee

pub record IsSpecialized (P : Program) (r : Reached) (t : Table) (s : Specialization) :
    Type 0 where
  pub within : s.node.0 < length r.nodes.items
  pub statics : HasStatics P r s
  pub callees : HasCallees P r t s
  pub as_many : (here : Instance) → specialized_at r Root s ≡ Some here →
      length s.callees.items ≡ length (node_sites here.node)

-- the specialization at place `i` calls only specializations that stand before it
abbrev pub CallsBefore : ℕ → Specialization → Type 0
CallsBefore i s = (id : SpecializationId) → Contains s.callees.items id → id.0 < i

-- ## Instances

-- the path of an instance, where `before` are the paths of the rows before it
abbrev pub path_from : List Path → Origin → Path
path_from before origin.UnderTest = Root
path_from before origin.Observer = Observer
path_from before (origin.Called caller call index) =
    Child (either_or (slice_get before caller.0) Root) call.0 index

abbrev pub paths_after : List Path → List row.Instance → List Path
paths_after before [] = before
paths_after before (i ∷ rest) = paths_after (before ++ path_from before i.origin ∷ []) rest

abbrev pub paths_of : Table → List Path
paths_of t = paths_after [] t.instances.items

-- the instance that a row of the table stands for at its path
abbrev pub row_at : Reached → Table → Path → row.Instance → Option Instance
row_at r t p i =
    either_or
    (option_map (specialized_at r p) (slice_get t.specializations.items i.specialization.0))
    None

-- the instances that the rows of a table stand for
abbrev pub rows_of : Reached → Table → List (Option Instance)
rows_of r t = zip2 (row_at r t) (paths_of t) t.instances.items

-- the caller of an instance stands before this place
abbrev pub CallerStandsBefore : ℕ → Origin → Type 0
CallerStandsBefore place (origin.Called caller call index) = caller.0 < place
CallerStandsBefore place _ = Unit {0}

-- each row stands after the row of its caller
abbrev pub CallersStandBefore : List row.Instance → Type 0
CallersStandBefore rows =
    (place : ℕ) (i : row.Instance) → slice_get rows place ≡ Some i
    → CallerStandsBefore place i.origin

-- a table whose static values are right, with the specializations of the starts of the program
pub record HasStarts (P : Program) (r : Reached) (t : Table) : Type 0 where
  pub statics : (i : ℕ) (s : Specialization) →
      slice_get t.specializations.items i ≡ Some s →
      (s.node.0 < length r.nodes.items) × HasStatics P r s
  pub root : specialized_instance_at r t Root t.root ≡ instance_at P Root
  pub observer : (t.observer >>= specialized_instance_at r t Observer) ≡ instance_at P Observer

pub record IsTable (P : Program) (r : Reached) (t : Table) : Type 0 where
  pub specialized : (i : ℕ) (s : Specialization) →
      slice_get t.specializations.items i ≡ Some s → IsSpecialized P r t s × CallsBefore i s
  pub instances : rows_of r t ≡ map Some (instances P)
  pub root : specialized_instance_at r t Root t.root ≡ instance_at P Root
  pub observer : (t.observer >>= specialized_instance_at r t Observer) ≡ instance_at P Observer
  -- each specialization has an instance
  pub used : (i : ℕ) → i < length t.specializations.items →
      Contains (map (λ row. row.specialization.0) t.instances.items) i
  pub few : length t.instances.items ≤ 4096
  -- each row stands after the row of its caller
  pub before : CallersStandBefore t.instances.items
