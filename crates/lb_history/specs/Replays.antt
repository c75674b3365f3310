-- The words of contracts on a trace that is replayed.
-- This file says what data of the program mean; no definition of the language stands on it.
use mathlib.Core.Sum.{⊎_set}
use Rattle.std.specs.Prelude.{◌≡◌, ℕ, suc, List, length, map, All}
use Rattle.std.specs.Coded.{×_prop, Unit-prop}
use Rattle.std.proofs.Props.{props}
use Rattle.lb_check.specs.Solutions.{Inputs}
use Rattle.lb_flat.specs.declared.cell.Cell.{Cell}
use Rattle.lb_flat.specs.declared.equation.Equation.{Equation}
use Rattle.lb_flat.specs.declared.program.FlatProgram.{FlatProgram}
use Rattle.lb_flat.specs.Flat.{FlatClock-set}
use Rattle.lb_flat.specs.Programs.{flat_equations, program_of}
use Rattle.lb_flat.specs.Values.{cell_of}
use Rattle.lb_flat.specs.Within.{IsWithin}
use Rattle.lb_history.specs.Replaying.{equations_before, row_at}

-- the state before instant t: the equations have the memories that the earlier instants left, and
-- the row is that of the instant before, if there was one
pub record IsReplayed (p : FlatProgram) (X : Inputs) (t : ℕ) (equations : List Equation)
    (row : List Cell) : Type 0 where
  pub equations_are :
      flat_equations p.clocks.items equations
      ≡ equations_before p.size (program_of p).equations X t
  pub within : All (IsWithin p.size p.clocks.items) equations
  pub has_all_elements : length row ≡ p.size
  pub row_is : (s : ℕ) → t ≡ suc s → map cell_of row ≡ row_at (program_of p) X s

-- the rules by which `IsReplayed` has at most one proof
pub ruleset replayed_props = (FlatClock-set, ⊎_set, props)
