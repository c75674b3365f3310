-- The parts of a prepared program, which are found once, before the instants of any trace.
-- This file says what data of the program mean; no definition of the language stands on it.
use mathlib.Core.Sum.{⊎_set}
use Rattle.std.specs.Prelude.{◌≡◌, ℕ, ◌<◌, List, [], ◌∷◌, length, map, All}
use Rattle.std.specs.Coded.{×_prop, Unit-prop}
use Rattle.std.proofs.Props.{props}
use Rattle.lb_syntax.specs.Lists.{Every}
use Rattle.lb_flat.specs.declared.cell.Cell.{Cell}
use Rattle.lb_flat.specs.declared.equation.Equation.{Equation}
use Rattle.lb_flat.specs.declared.equation.InputPlace.{InputPlace}
use Rattle.lb_flat.specs.declared.program.FlatProgram.{FlatProgram}
use Rattle.lb_flat.specs.Flat.{FlatClock-set}
use Rattle.lb_flat.specs.Prepared.{inputs_in, steps_in, memory_places, place_equation, AreFixed}
use Rattle.lb_flat.specs.Programs.{flat_equations, program_of}
use Rattle.lb_flat.specs.Values.{cell_of}
use Rattle.lb_flat.specs.Within.{IsWithin}

-- the parts of a prepared program: the elements that hold inputs, the equations that are computed
-- at each instant, the places of those that have a memory, and a row that holds the constants
pub record IsPrepared (p : FlatProgram) (inputs : List InputPlace) (steps : List Equation)
    (memories : List ℕ) (row : List Cell) : Type 0 where
  pub inputs_are : map place_equation inputs ≡ inputs_in (program_of p).equations
  pub inputs_within : All (λ i. i.element.0 < p.size) inputs
  pub steps_are : flat_equations p.clocks.items steps ≡ steps_in (program_of p).equations
  pub steps_within : All (IsWithin p.size p.clocks.items) steps
  pub memories_are : memories ≡ memory_places 0 (flat_equations p.clocks.items steps)
  pub has_all_elements : length row ≡ p.size
  pub constants_set : AreFixed (map cell_of row) (program_of p).equations

-- `Every P xs` has at most one proof, where each `P x` has at most one
pub Every-prop :
    {A : Type 0} {P : A → Type 0} → ((x : A) → IsProp (P x)) → (xs : List A) → IsProp (Every P xs)
Every-prop one [] = Unit-prop
Every-prop one (x ∷ xs) = ×_prop (one x) (Every-prop one xs)

-- the rules that show that `IsPrepared` has at most one proof
pub ruleset prepared_props = (FlatClock-set, Every-prop, ⊎_set, props)
