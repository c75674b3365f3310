-- The holding that the code of an equation makes for its element, and the clocks whose planes are
-- known.
-- Source: this project's rule.
use Rattle.std.specs.Prelude.{◌≡◌, ◌⊎◌, ℕ, Option, Some, None, List, map, get_or}
use Rattle.lb_syntax.specs.declared.tree.Kind.{Kind}
use Rattle.lb_syntax.specs.Lists.{Every, In}
use Rattle.lb_flat.specs.Fitting.{OperandKinds}
use Rattle.lb_flat.specs.Flat.{Operation}
use Rattle.lb_flat.specs.Run.{reads, clock_reads, is_now}
use Rattle.lb_flat.specs.Values.{clock_of}
use Rattle.lb_flat.specs.declared.equation.Clock.{Clock}
use Rattle.lb_flat.specs.declared.equation.ClockId.{ClockId}
use Rattle.lb_machine.specs.Correct.{IsPlaneFor}
use Rattle.lb_machine.specs.Listed.{listed}
use Rattle.lb_machine.specs.Meaning.{Lane, HasRun}
use Rattle.lb_machine.specs.declared.code.Code.{Code}
use Rattle.lb_machine.specs.declared.instruction.PlaneId.{PlaneId}
use Rattle.lb_sim.specs.Allotted.{HasKinds, HasConstant}
use Rattle.lb_sim.specs.Compiled.{given_at}
use Rattle.lb_sim.specs.Showing.{scalar_at, row_at, kind_of, value_kind}
use Rattle.lb_sim.specs.States.{holding_of, IsShown}
use Rattle.lb_sim.specs.declared.place.Holding.{Holding}
use Rattle.lb_sim.specs.declared.place.Place.{Place}
use Rattle.lb_sim.specs.declared.place.Value.{Value}

-- ## One equation

-- a holding is of a kind, and shows the result of the operation on its operands in each lane that
-- has run the code
pub record IsHeld (code : Code) (places : List Place) (inputs : List Value)
    (constant kept : Holding) (o : Operation) (kind : Kind) (h : Holding) : Type 0 where
  pub kind_is : kind_of h ≡ kind
  pub shows :
      (s : Lane) → HasRun (listed code.instructions) s → HasConstant s o constant →
      IsShown (given_at s inputs) s places kept o (scalar_at s h)

-- `IsHeld` where the kinds of the operands fit the operation
abbrev pub IsEmitted : Code → List Place → List Value → (constant kept : Holding) → Operation →
    Kind → Holding → Type 0
IsEmitted code places inputs constant kept o kind h =
    (N : ℕ → Kind) → OperandKinds (map value_kind inputs) N kind o →
    Every (λ a. kind_of (holding_of places a) ≡ N a) (reads o) → HasKinds kind o constant kept →
    IsHeld code places inputs constant kept o kind h

-- ## Clocks

-- each plane that `known` has for a clock of a table is the plane of that clock
abbrev pub AreKnown : Code → List Place → List Clock → List (Option PlaneId) → Type 0
AreKnown code places clocks known =
    (k : ClockId) (p : PlaneId) → get_or known k.0 None ≡ Some p →
    IsPlaneFor code (λ s. is_now (row_at s places) (clock_of clocks (Some k))) p

-- `clock` reads each element that `above` reads
abbrev pub IsReadBy : List Clock → (clock above : Option ClockId) → Type 0
IsReadBy clocks clock above =
    (e : ℕ) → In e (clock_reads (clock_of clocks above)) →
    In e (clock_reads (clock_of clocks clock))

-- `p` is the plane of a clock; `new` may add to `old` planes of clocks, each of which reads only
-- elements that `clock` reads
pub record IsKnownAfter (code : Code) (places : List Place) (clocks : List Clock)
    (clock : Option ClockId) (old new : List (Option PlaneId)) (p : PlaneId) : Type 0 where
  pub plane : IsPlaneFor code (λ s. is_now (row_at s places) (clock_of clocks clock)) p
  pub known : AreKnown code places clocks new
  pub newly :
      (k : ClockId) (q : PlaneId) → get_or new k.0 None ≡ Some q →
      (get_or old k.0 None ≡ Some q) ⊎ IsReadBy clocks clock (Some k)
