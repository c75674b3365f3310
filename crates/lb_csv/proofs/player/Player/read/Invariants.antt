use Rattle.std.proofs.Common.{◌≡◌, ℕ, suc, map, take}
use Rattle.lb_flat.specs.Values.{cell_of}
use Rattle.lb_history.specs.Replaying.{row_at}
use Rattle.lb_csv.specs.CsvTexts.{cells_in}
use Rattle.lb_csv.specs.Players.{program_played, inputs_played, next_played}
use Rattle.lb_csv.specs.Shown.{numbers_of}
use Rattle.lb_csv.proofs.player.Player.read.Given as goal

abbrev pub invariant-loop-column : goal.invariant-loop-column
invariant-loop-column l =
    (t : ℕ) → next_played l.self ≡ suc t →
    map cell_of l.cells.items
    ≡ cells_in (row_at (program_played l.self) (inputs_played l.self) t)
    (numbers_of (take l.column-index l.columns))
