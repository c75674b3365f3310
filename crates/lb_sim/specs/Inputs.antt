-- The row of inputs that a lane has.
-- This file says what data of the program mean.
use Rattle.std.specs.Prelude.{ℕ, List, ◌<◌, ◌≤◌}
use Rattle.lb_check.specs.Scalars.{Scalar}
use Rattle.lb_traces.specs.Traces.{Recording}
use Rattle.lb_sim.specs.InputRows.{lane_row, number_columns, truth_columns}
use Rattle.lb_sim.specs.Loads.{AreAhead, AreAmong, AreTruthsAhead}
use Rattle.lb_sim.specs.declared.ahead.Loaded.{Loaded}
use Rattle.lb_sim.specs.declared.inputs.Inputs.{Inputs}

abbrev pub inputs_row : Inputs → ℕ → List Scalar
inputs_row x i = lane_row x.columns.kinds.items x.planes.items x.words.items i

-- the integers at `places` and the Booleans are loaded for the instants of `loaded`; where `t` is
-- such an instant, they are loaded in all lanes of `live`
pub record IsAhead (r : Recording) (members begins places : List ℕ) (x : Inputs) (t live : ℕ)
    (loaded : Loaded) : Type 0 where
  pub numbers_begun : loaded.numbers.first ≤ t
  pub numbers :
      AreAhead r members begins loaded.numbers.first loaded.numbers.until loaded.numbers.lanes.0
      (number_columns 0 x.columns.kinds.items) places x.room.items
  pub numbers_there : t < loaded.numbers.until → AreAmong live loaded.numbers.lanes.0
  pub truths_begun : loaded.truths.first ≤ t
  pub truths :
      AreTruthsAhead r members begins loaded.truths.first loaded.truths.until loaded.truths.lanes.0
      (truth_columns 0 x.columns.kinds.items) x.rows.items
  pub truths_there : t < loaded.truths.until → AreAmong live loaded.truths.lanes.0
