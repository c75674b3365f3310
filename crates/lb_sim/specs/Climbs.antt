-- The way up a table of clocks, from a clock to the next one whose plane is known.
-- Source: this project's rule.
use Rattle.std.specs.Prelude.{◌≡◌, ℕ, suc, Option, Some, None, List, [], ◌∷◌, get_or, slice_get}
use Rattle.lb_flat.specs.declared.equation.Clock.{Clock}
use Rattle.lb_flat.specs.declared.equation.ClockId.{ClockId}
use Rattle.lb_machine.specs.declared.instruction.PlaneId.{PlaneId}

-- the number of clocks whose plane is not known
abbrev pub unknown_count : List (Option PlaneId) → ℕ
unknown_count [] = 0
unknown_count (None ∷ known) = suc (unknown_count known)
unknown_count (Some p ∷ known) = unknown_count known

-- `way` is a list of clocks that leads from `clock` up to `above`: each is the parent of the one
-- before, and their planes are not known
abbrev pub IsWay : List Clock → List (Option PlaneId) → Option ClockId → List ClockId →
    Option ClockId → Type 0
IsWay clocks known clock [] above = clock ≡ above
IsWay clocks known clock (k ∷ way) above =
    (clock ≡ Some k) × (get_or known k.0 None ≡ None)
    × ((t : Clock) × ((slice_get clocks k.0 ≡ Some t) × IsWay clocks known t.parent way above))

-- `p` is the known plane of a clock; that of the base clock is plane 1, which is true everywhere
abbrev pub IsPlaneAt : List (Option PlaneId) → Option ClockId → PlaneId → Type 0
IsPlaneAt known None p = p.0 ≡ 1
IsPlaneAt known (Some k) p = get_or known k.0 None ≡ Some p

-- a way from `clock` up to the next clock whose plane is known, and that plane
pub record IsClimbed (clocks : List Clock) (known : List (Option PlaneId))
    (clock : Option ClockId) (way : List ClockId) (p : PlaneId) : Type 0 where
  pub above : Option ClockId
  pub leads : IsWay clocks known clock way above
  pub plane : IsPlaneAt known above p
