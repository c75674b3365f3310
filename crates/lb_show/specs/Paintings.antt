-- The parts of a text that is painted that contracts name.
-- This file says what data of the program mean; no definition of the language stands on it.
use Rattle.std.specs.Prelude.{ℕ, ◌+◌, ◌-◌}
use Rattle.lb_csv.specs.Csv.{headers_left}
use Rattle.lb_csv.specs.Players.{next_played}
use Rattle.lb_show.specs.declared.show.Painting.{Painting}

-- the number of instants that are left
abbrev pub instants_left : Painting → ℕ
instants_left p = p.player.end - next_played p.player

-- the most parts that are left
abbrev pub parts_left : Painting → ℕ
parts_left p = headers_left p.is_begun + instants_left p
