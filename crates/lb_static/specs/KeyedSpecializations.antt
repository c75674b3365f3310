-- The keys by which the specializations that were entered are found.
-- This file says what data of the program mean; no definition of the language stands on it.
use Rattle.std.specs.Prelude.{◌≡◌, ◌⊎◌, ℤ, Option, Some, None, List, [], ◌∷◌, ◌++◌, length, All}
use Rattle.lb_static.specs.Instantiated.{IsKnown}
use Rattle.lb_static.specs.declared.reachable.NodeId.{NodeId}
use Rattle.lb_static.specs.declared.specializations.Key.{Key}
use Rattle.lb_static.specs.declared.table.Specialization.{Specialization}
use Rattle.lb_static.specs.declared.table.SpecializationId.{SpecializationId}

-- each key holds the node and the values of its specialization
abbrev pub AreKeyed : List (Key × Specialization) → Type 0
AreKeyed = All (λ e. (e.0.node ≡ e.1.node) × (e.0.values.items ≡ e.1.values.items))

-- no specialization is of this node with these values
abbrev pub IsUnknown : List Specialization → NodeId → List ℤ → Type 0
IsUnknown specializations node values =
    (id : SpecializationId) → IsKnown specializations node values id → ⊥

-- the place of the specialization of a node with these values, or none where there is none
abbrev pub IsFound : List Specialization → NodeId → List ℤ → Option SpecializationId → Type 0
IsFound specializations node values (Some id) = IsKnown specializations node values id
IsFound specializations node values None = IsUnknown specializations node values

-- The place of a specialization after it is added: that of an equal one that was there, and nothing
-- is added; or a new place, after all others.
abbrev pub IsAdded :
    (before : List Specialization) → Specialization → (after : List Specialization)
    → SpecializationId → Type 0
IsAdded before s after id =
    (IsKnown before s.node s.values.items id × (after ≡ before))
    ⊎ (IsUnknown before s.node s.values.items × (after ≡ before ++ s ∷ [])
    × (id.0 ≡ length before))
