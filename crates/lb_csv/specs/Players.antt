-- The parts of a player that contracts name.
-- This file says what data of the program mean; no definition of the language stands on it.
use Rattle.std.specs.Prelude.{ℕ}
use Rattle.lb_check.specs.Solutions.{Inputs}
use Rattle.lb_flat.specs.Inputs.{inputs_of}
use Rattle.lb_flat.specs.Judging.{FlatProgram}
use Rattle.lb_flat.specs.Programs.{program_of}
use Rattle.lb_history.specs.ReplayParts.{program_in, recording_in, trace_in, next_in}
use Rattle.lb_csv.specs.declared.player.Player.{Player}

-- the program of a player, and its inputs on the trace
abbrev pub program_played : Player → FlatProgram
program_played p = program_of (program_in p.replay)

abbrev pub inputs_played : Player → Inputs
inputs_played p = inputs_of (recording_in p.replay) (trace_in p.replay)

-- the instant that comes next
abbrev pub next_played : Player → ℕ
next_played p = next_in p.replay
