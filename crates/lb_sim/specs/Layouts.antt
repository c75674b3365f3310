-- The places of a flat program before its code.
-- This file says what data of the program mean.
use Rattle.std.specs.Prelude.{◌≡◌, ◌≤◌, ◌+◌, ◌*◌, length}
use Rattle.lb_flat.specs.Judging.{FlatProgram}
use Rattle.lb_sim.specs.InputRows.{places_of, truth_columns, number_columns}
use Rattle.lb_sim.specs.Presets.{AreConstants, AreMemories}
use Rattle.lb_sim.specs.declared.allotted.Allotted.{Allotted}

-- the order of places: inputs, then constants, then memories; their number has a bound
pub record AreAllotted (f : FlatProgram) (a : Allotted) : Type 0 where
  pub inputs_at : a.inputs.items ≡ places_of 2 1 f.inputs
  pub inputs_planes : 2 + length (truth_columns 0 f.inputs) ≤ a.memory_plane
  pub inputs_words : 1 + length (number_columns 0 f.inputs) ≤ a.constant_word
  pub constants_words : a.constant_word ≤ a.memory_word
  pub constants :
      AreConstants f a.constant_word a.memory_word a.preset.words.items a.constants.items
  pub memories : AreMemories f a.memory_plane a.memory_word a.preset a.kept.items
  pub planes_room : a.memory_plane ≤ length a.preset.planes.items
  pub words_room : a.memory_word ≤ length a.preset.words.items
  pub few :
      length a.preset.planes.items + length a.preset.words.items
      ≤ 2 * length f.inputs + 5 * length f.equations + 3
