-- Conditions under which indexes of the code are in range.
-- Source: this project's rule.
use Rattle.std.specs.Prelude.{ℕ, ◌<◌, Option, List, length, All}
use Rattle.std.specs.Option.{ForSome}
use Rattle.lb_flat.specs.declared.equation.ClockId.{ClockId}
use Rattle.lb_flat.specs.declared.equation.Clock.{Clock}
use Rattle.lb_flat.specs.declared.equation.Equation.{Equation}
use Rattle.lb_flat.specs.Run.{reads, keeps}
use Rattle.lb_flat.specs.Values.{operation_of}

-- the base clock, or a clock of the table
abbrev pub IsClock : List Clock → Option ClockId → Type 0
IsClock clocks k = ForSome k (λ i. i.0 < length clocks)

-- a clock waits for one of `size` elements, and its parent is a clock of the table or the base
-- clock
pub record IsTableClock (size : ℕ) (clocks : List Clock) (t : Clock) : Type 0 where
  pub element : t.element.0 < size
  pub parent : IsClock clocks t.parent

-- each clock of a table waits for one of `size` elements, with its parent in the table
abbrev pub AreClocks : ℕ → List Clock → Type 0
AreClocks size clocks = All (IsTableClock size clocks) clocks

-- an equation gives one of `size` elements, from others of them, on a clock of the table
pub record IsWithin (size : ℕ) (clocks : List Clock) (q : Equation) : Type 0 where
  pub element : q.element.0 < size
  pub clock : IsClock clocks q.clock
  pub operands : All (λ i. i < size) (reads (operation_of q.operation))
  pub memory_operands : All (λ i. i < size) (keeps (operation_of q.operation))
