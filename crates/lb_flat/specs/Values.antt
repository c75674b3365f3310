-- The meaning of the scalars, clocks and equations of the code.
-- Source: this project's rule.
use Rattle.std.specs.Prelude.{ℕ, zero, suc, Option, Some, None, List, length, slice_get}
use Rattle.lb_check.specs.Scalars as scalars
use Rattle.lb_flat.specs.declared.scalar.Scalar.{Scalar}
use Rattle.lb_flat.specs.declared.scalar.Scalar.TheVariants.{Integer, Boolean, Nil, Bad}
use Rattle.lb_flat.specs.declared.cell.Cell as code
use Rattle.lb_flat.specs.declared.cell.Cell.TheVariants as cells
use Rattle.lb_flat.specs.declared.equation.ClockId.{ClockId}
use Rattle.lb_flat.specs.declared.equation.Clock.{Clock}
use Rattle.lb_flat.specs.declared.equation.Operation.{Operation}
use Rattle.lb_flat.specs.declared.equation.Operation.TheVariants.{Input, Constant, Copy, ApplyUnary}
use Rattle.lb_flat.specs.declared.equation.Operation.TheVariants.{ApplyBinary, Choose, FirstThen}
use Rattle.lb_flat.specs.declared.equation.Operation.TheVariants.{Previous, Latest, Sample}
use Rattle.lb_flat.specs.declared.equation.Equation.{Equation}
use Rattle.lb_flat.specs.Flat as flat

-- the meaning of a scalar of the code
abbrev pub scalar_of : Scalar → scalars.Scalar
scalar_of (Integer z) = scalars.Integer z
scalar_of (Boolean b) = scalars.Boolean b
scalar_of Nil = scalars.Nil
scalar_of Bad = scalars.Bad

-- the meaning of a cell of the code
abbrev pub cell_of : code.Cell → scalars.Cell
cell_of cells.Absent = None
cell_of cells.Nil = Some scalars.Nil
cell_of cells.Bad = Some scalars.Bad
cell_of (cells.Integer z) = Some (scalars.Integer z)
cell_of (cells.Boolean b) = Some (scalars.Boolean b)

-- the meaning of a clock of the table, where `above` gives that of its parent
abbrev pub clock_from : (Option ClockId → flat.FlatClock) → Option Clock → flat.FlatClock
clock_from above None = flat.Always
clock_from above (Some t) = flat.Where (above t.parent) t.element.0 t.sign

-- the clock at a place of a table, at most n clocks deep
abbrev pub clock_within : ℕ → List Clock → Option ClockId → flat.FlatClock
clock_within n clocks None = flat.Always
clock_within zero clocks (Some i) = flat.Always
clock_within (suc n) clocks (Some i) =
    clock_from (clock_within n clocks) (slice_get clocks i.0)

-- the clock at a place of a table; none is the base clock
abbrev pub clock_of : List Clock → Option ClockId → flat.FlatClock
clock_of clocks k = clock_within (length clocks) clocks k

-- the meaning of an operation, with the content of its memory
abbrev pub operation_of : Operation → flat.Operation
operation_of (Input j) = flat.Input j.0
operation_of (Constant v) = flat.Constant (scalar_of v)
operation_of (Copy a) = flat.Copy a.0
operation_of (ApplyUnary op a) = flat.ApplyUnary op a.0
operation_of (ApplyBinary op a b) = flat.ApplyBinary op a.0 b.0
operation_of (Choose c a b) = flat.Choose c.0 a.0 b.0
operation_of (FirstThen started a b) = flat.FirstThen started a.0 b.0
operation_of (Previous v a) = flat.Previous (scalar_of v) a.0
operation_of (Latest v a) = flat.Latest (scalar_of v) a.0
operation_of (Sample a) = flat.Sample a.0

-- the meaning of an equation, under the table of its clocks
abbrev pub equation_of : List Clock → Equation → flat.FlatEquation
equation_of clocks q = record {
  element = q.element.0;
  clock = clock_of clocks q.clock;
  operation = operation_of q.operation;
}
