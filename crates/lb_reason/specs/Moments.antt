-- The parts of an instant of a trace that contracts name.
-- This file says what data of the program mean; no definition of the language stands on it.
use Rattle.std.specs.Prelude.{List}
use Rattle.lb_check.specs.Solutions.{Inputs}
use Rattle.lb_flat.specs.Flat.{FlatEquation}
use Rattle.lb_flat.specs.Inputs.{inputs_of}
use Rattle.lb_flat.specs.Judging.{FlatProgram}
use Rattle.lb_flat.specs.Programs.{flat_equations, program_of}
use Rattle.lb_flat.specs.Run.{Row}
use Rattle.lb_history.specs.ReplayParts.{recording_in, trace_in}
use Rattle.lb_history.specs.Replaying.{row_at}
use Rattle.lb_reason.specs.declared.moment.Moment.{Moment}

-- the program of an instant, and its inputs on the trace
abbrev pub program_now : Moment → FlatProgram
program_now m = program_of m.program.now

abbrev pub inputs_now : Moment → Inputs
inputs_now m = inputs_of (recording_in m.after) (trace_in m.after)

-- the row of the instant: the cell of each element
abbrev pub row_now : Moment → Row
row_now m = row_at (program_now m) (inputs_now m) m.instant

-- the equations, with their memories as they are before the instant
abbrev pub equations_now : Moment → List FlatEquation
equations_now m = flat_equations m.program.now.clocks.items m.equations.items
