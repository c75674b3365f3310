-- A table of clocks by a formula: each variable of each instance has two rows, one for each sign.
-- This file mirrors code (the table of clocks of an expansion); no definition of the language
-- stands on it.
use Rattle.std.specs.Prelude.{◌≡◌, ◌≤◌, ℕ, ◌+◌, ◌*◌, Bool, true, false, Option, Some, None, List}
use Rattle.std.specs.Prelude.{length, slice_get}
use Rattle.lb_syntax.specs.Lists.{In}
use Rattle.lb_syntax.specs.Tree.{Name}
use Rattle.lb_static.specs.DataTypes.{variables}
use Rattle.lb_static.specs.Instances.{Program, Instance, Path, Root, Observer, Child, instance_at}
use Rattle.lb_static.specs.Instances.{instances}
use Rattle.lb_static.specs.Parts.{variable_names}
use Rattle.lb_check.specs.Clocks.{Clock, Base, On, declared_clock}
use Rattle.lb_check.specs.Needs.{call_at, site_clock}
use Rattle.lb_check.specs.Occurrences.{Occurrence}
use Rattle.lb_flat.specs.NumberedLayouts.{signs_of}
use Rattle.lb_flat.specs.declared.equation.ClockId.{ClockId}
use Rattle.lb_flat.specs.declared.equation.Clock as table

-- the distance of the row for a sign from the first row of its variable
abbrev pub sign_place : Bool → ℕ
sign_place false = 0
sign_place true = 1

-- the place of a clock of the instance at a path, where `place` gives the first row of each
-- variable and `runs` the clock of each instance
abbrev pub clock_place :
    (Path → Name → ℕ) → (Path → Option ClockId) → Path → Clock → Option ClockId
clock_place place runs p Base = runs p
clock_place place runs p (On k x sign) = Some (record { 0 = place p x + sign_place sign })

-- the row of a variable of an instance for a sign: its parent is the declared clock of the
-- variable, and its element is the first that serves for the variable
pub record IsClockRow (P : Program) (clocks : List table.Clock) (place : Path → Name → ℕ)
    (runs : Path → Option ClockId) (here : Instance) (x : Name) (sign : Bool) : Type 0 where
  pub row : table.Clock
  pub stands : slice_get clocks (place here.path x + sign_place sign) ≡ Some row
  pub parent : row.parent ≡ clock_place place runs here.path (declared_clock here.node x)
  pub signed : row.sign ≡ sign
  pub serves : slice_get (signs_of P here.path x) 0 ≡ Some row.element.0

-- each variable of each instance has its rows, each instance runs on the clock of its call and has
-- its variables after those of its caller, and the table is long enough for all
pub record IsClockTable (P : Program) (clocks : List table.Clock) (place : Path → Name → ℕ)
    (runs : Path → Option ClockId) (before : Path → ℕ) : Type 0 where
  pub rows :
      (here : Instance) → In here (instances P) → (x : Name) → In x (variable_names here.node) →
      (sign : Bool) → IsClockRow P clocks place runs here x sign
  pub root : runs Root ≡ None
  pub observer : runs Observer ≡ None
  pub called :
      (p : Path) (call index : ℕ) (c caller : Instance) (o : Occurrence) →
      instance_at P (Child p call index) ≡ Some c → instance_at P p ≡ Some caller →
      call_at P caller.node call ≡ Some o →
      runs (Child p call index) ≡ clock_place place runs p (site_clock P o.clock o.expr)
  pub deeper :
      (p : Path) (call index : ℕ) (c caller : Instance) →
      instance_at P (Child p call index) ≡ Some c → instance_at P p ≡ Some caller →
      before p + length (variables caller.node) ≤ before (Child p call index)
  pub enough :
      (here : Instance) → In here (instances P) →
      2 * (before here.path + length (variables here.node)) ≤ length clocks
