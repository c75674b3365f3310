-- The parts of a replay that contracts name.
-- This file says what data of the program mean; no definition of the language stands on it.
use Rattle.std.specs.Prelude.{ℕ, List}
use Rattle.lb_flat.specs.Flat.{FlatEquation}
use Rattle.lb_flat.specs.Inputs.{inputs_of}
use Rattle.lb_flat.specs.Programs.{program_of}
use Rattle.lb_flat.specs.Run.{Row}
use Rattle.lb_traces.specs.Traces.{Recording}
use Rattle.lb_flat.specs.declared.program.FlatProgram.{FlatProgram}
use Rattle.lb_history.specs.Replaying.{equations_before, row_at}
use Rattle.lb_history.specs.declared.replay.Replay.{Replay}

-- the program that is replayed
abbrev pub program_in : Replay → FlatProgram
program_in r = r.program.now

-- the traces that the replayed trace is one of
abbrev pub recording_in : Replay → Recording
recording_in r = r.set.now

-- the number of the trace among them
abbrev pub trace_in : Replay → ℕ
trace_in r = r.trace

-- the instant that comes next
abbrev pub next_in : Replay → ℕ
next_in r = r.next

-- the row of an instant of the trace
abbrev pub row_in : Replay → ℕ → Row
row_in r t = row_at (program_of (program_in r)) (inputs_of (recording_in r) (trace_in r)) t

-- the equations, with their memories as they are before the instant that comes next
abbrev pub equations_in : Replay → List FlatEquation
equations_in r =
    let f = program_of (program_in r) in
    equations_before f.size f.equations (inputs_of (recording_in r) (trace_in r)) (next_in r)
