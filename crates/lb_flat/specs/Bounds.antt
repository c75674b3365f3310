-- Bounds of the size of a flat program; and the chain of parents of each clock in its table ends.
-- Source: this project's rule.
use Rattle.std.specs.Prelude.{◌≡◌, ◌≤◌, Some, List, length, slice_get}
use Rattle.std.proofs.Props.{props}
use Rattle.lb_flat.specs.declared.equation.Clock.{Clock}
use Rattle.lb_flat.specs.declared.equation.ClockId.{ClockId}
use Rattle.lb_flat.specs.declared.program.FlatProgram.{FlatProgram}
use Rattle.lb_flat.specs.Flat.{FlatClock-set, Where}
use Rattle.lb_flat.specs.Values.{clock_of}

-- each clock of a table stands for the instants of its parent at which its element has its sign
abbrev pub AreWhole : List Clock → Type 0
AreWhole clocks =
    (k : ClockId) (t : Clock) → slice_get clocks k.0 ≡ Some t →
    clock_of clocks (Some k) ≡ Where (clock_of clocks t.parent) t.element.0 t.sign

-- a program has at most 327,680 elements (five times the greatest size), 65,536 inputs and 131,072
-- clocks (two for each variable of an instance), and each clock stands on its parent
pub record IsBounded (p : FlatProgram) : Type 0 where
  pub elements : p.size ≤ 327680
  pub inputs : length p.inputs.items ≤ 65536
  pub clocks : AreWhole p.clocks.items
  pub clock_count : length p.clocks.items ≤ 131072

-- the rules that show that `IsBounded` has at most one proof
pub ruleset bounded_props = (FlatClock-set, props)
