use Rattle.std.proofs.Common.{◌≡◌, get_or, map, pos, take}
use Rattle.lb_trace.specs.declared.header.Column.{Column}
use Rattle.lb_trace.proofs.placed_rows.fill_places.Given as goal

abbrev pub invariant-loop-i : goal.invariant-loop-i
invariant-loop-i l =
    take l.i l.row ≡ map (λ (column : Column). get_or l.values column.at (pos 0))
    (take l.i l.columns)
