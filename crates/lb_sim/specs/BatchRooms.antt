-- Room for the batches of a program.
-- This file says what data of the program mean.
use Rattle.std.specs.Prelude.{◌≡◌, length}
use Rattle.lb_sim.specs.declared.program.LaneProgram.{LaneProgram}
use Rattle.lb_sim.specs.declared.room.BatchRoom.{BatchRoom}

-- there is a place for each plane and each word of a program, and its inputs have their columns
pub record IsRoomFor (p : LaneProgram) (room : BatchRoom) : Type 0 where
  pub planes_room : length room.planes.items ≡ p.planes
  pub words_room : length room.words.items ≡ p.words
  pub kinds : room.inputs.columns.kinds.items ≡ p.program.now.inputs.items
