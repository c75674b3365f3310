-- Four cells from place `i` on are written.
use Rattle.std.proofs.Common.{get_or, pos, rules, w32}
use Rattle.std.proofs.lemmas.Int.{to_z-of_z}
use Rattle.lb_trace.proofs.WrittenCells.{four-written}
use Rattle.lb_trace.proofs.row_cells.put_four.Goals as goal

pub returns-clause-front : goal.returns-clause-front
returns-clause-front c =
    let vs = c.args.values in
    four-written c.args.cells.now vs c.args.i _ _ _ _ c.requires (search rules)
    (to_z-of_z w32 (get_or vs 0 (pos 0)) (search rules))
    (to_z-of_z w32 (get_or vs 1 (pos 0)) (search rules))
    (to_z-of_z w32 (get_or vs 2 (pos 0)) (search rules))
    (to_z-of_z w32 (get_or vs 3 (pos 0)) (search rules))
