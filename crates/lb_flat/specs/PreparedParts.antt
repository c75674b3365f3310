-- Statements of contracts on prepared programs, on traces that are ready to be read, and on room.
-- This file says what data of the program mean; no definition of the language stands on it.
use Rattle.std.specs.Prelude.{◌≡◌, vec_len}
use Rattle.lb_traces.specs.Traces.{Recording}
use Rattle.lb_flat.specs.declared.prepared.Prepared.{Prepared}
use Rattle.lb_flat.specs.declared.program.FlatProgram.{FlatProgram}
use Rattle.lb_flat.specs.declared.recorded.Recorded.{Recorded}
use Rattle.lb_flat.specs.declared.scratch.Scratch.{Scratch}

-- the program that was prepared
abbrev pub program_in : Prepared → FlatProgram
program_in p = p.program.now

-- the traces that are ready to be read
abbrev pub recording_in : Recorded → Recording
recording_in r = r.set.now

-- the room has a place for each step and each element of a program, with any contents
pub record IsRoomFor (p : Prepared) (s : Scratch) : Type 0 where
  pub steps : vec_len s.steps ≡ vec_len p.steps
  pub row : vec_len s.row ≡ vec_len p.row
