-- The refusal of a row of cells, where it is known whether there is room for one more.
-- This file mirrors code (src/roll.rt); no definition of the language stands on it.
use Rattle.std.specs.Prelude.{ℕ, if◌then◌else◌, Bool as Truth, [], Option, Some, None}
use Rattle.std.specs.Prelude.{Result, Ok, Err}
use Rattle.lb_traces.specs.Traces.{Row, Traces}

-- 16 where a cell is no value of its column, or else 18 where there is no room
abbrev pub room_by : Truth → Option Row → Result Traces ℕ
room_by room None = Err 16
room_by room (Some row) = if room then Ok [] else Err 18
