-- The promise of instantiation about the rows of its table.
-- This file says what data of the program mean; no definition of the language stands on it.
use Rattle.std.specs.Prelude.{◌≡◌, ◌<◌, ◌≤◌, ℕ, Option, Some, None, option_map, List, [], ◌∷◌, ◌++◌}
use Rattle.std.specs.Prelude.{map, length, slice_get}
use Rattle.std.specs.List.{Contains}
use Rattle.lb_syntax.specs.Lists.{either_or}
use Rattle.lb_static.specs.Instances.{Program, Instance, Path, instances}
use Rattle.lb_static.specs.InstanceTable.{specialized_at, path_from, paths_after, rows_of}
use Rattle.lb_static.specs.InstanceTable.{CallersStandBefore}
use Rattle.lb_static.specs.declared.reachable.Reached.{Reached}
use Rattle.lb_static.specs.declared.table.Instance as row
use Rattle.lb_static.specs.declared.table.Origin.{Origin}
use Rattle.lb_static.specs.declared.table.Specialization.{Specialization}
use Rattle.lb_static.specs.declared.table.SpecializationId.{SpecializationId}
use Rattle.lb_static.specs.declared.table.Table.{Table}

-- ## Rows that are added

-- a row with its origin, before its specialization is known
abbrev pub begun_row : Origin → row.Instance
begun_row origin = record { specialization = record { 0 = 0 }; origin = origin }

-- the instance that a row stands for at path `p`, in a table with these specializations
abbrev pub stood : Reached → List Specialization → Path → row.Instance → Option Instance
stood r specializations p i =
    either_or (option_map (specialized_at r p) (slice_get specializations i.specialization.0)) None

-- the instances that rows stand for, where `before` are the paths of the rows before them
abbrev pub stood_after :
    Reached → List Specialization → List Path → List row.Instance → List (Option Instance)
stood_after r specializations before [] = []
stood_after r specializations before (i ∷ rest) =
    stood r specializations (path_from before i.origin) i
    ∷ stood_after r specializations (before ++ path_from before i.origin ∷ []) rest

-- the places of the specializations of rows
abbrev pub places_of : List row.Instance → List ℕ
places_of rows = map (λ i. i.specialization.0) rows

-- Rows were added at the end, and each new specialization has a row among them.
pub record HasUsed (first last : List Specialization) (before after : List row.Instance) :
    Type 0 where
  pub added : List row.Instance
  pub whole : after ≡ before ++ added
  pub used : (i : ℕ) → length first ≤ i → i < length last → Contains (places_of added) i

-- Rows were added at the end, and they stand for the instances `entered`.
pub record HasRows (r : Reached) (specializations : List Specialization)
    (before after : List row.Instance) (entered : List Instance) : Type 0 where
  pub added : List row.Instance
  pub whole : after ≡ before ++ added
  pub stand : stood_after r specializations (paths_after [] before) added ≡ map Some entered

-- the row at `place` has the specialization `id` now, and all other rows are as before
abbrev pub IsSpecializedRow :
    ℕ → SpecializationId → (before after : List row.Instance) → Type 0
IsSpecializedRow place id before after =
    (front back : List row.Instance) (i : row.Instance) → length front ≡ place
    → before ≡ front ++ i ∷ back
    → after ≡ front ++ record { specialization = id; origin = i.origin } ∷ back

-- each new specialization is at `place`, so there is at most one
abbrev pub IsOneMore : ℕ → (first last : List Specialization) → Type 0
IsOneMore place first last = (i : ℕ) → length first ≤ i → i < length last → i ≡ place

-- ## The whole table

-- The rows of a table stand for the instances of the program, each row after that of its caller,
-- and each specialization has a row.
pub record AreInstances (P : Program) (r : Reached) (t : Table) : Type 0 where
  pub instances : rows_of r t ≡ map Some (instances P)
  -- each specialization has an instance
  pub used : (i : ℕ) → i < length t.specializations.items →
      Contains (map (λ row. row.specialization.0) t.instances.items) i
  pub few : length t.instances.items ≤ 4096
  pub before : CallersStandBefore t.instances.items
