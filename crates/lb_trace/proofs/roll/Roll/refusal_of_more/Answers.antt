-- The refusal of the cells of a record of the last trace.
use Rattle.csv.specs.Records.{fields_of}
use Rattle.lb_trace.specs.Mirrors.{row_by}
use Rattle.lb_trace.specs.Spelling.{after_first}
use Rattle.lb_trace.proofs.RollRefusals.{more_cells_refused}
use Rattle.lb_trace.proofs.roll.Roll.refusal_of_more.Goals as goal

pub returns : goal.returns
returns c = λ elements traces of.
    more_cells_refused c.args.self elements traces
    (row_by c.args.table.now.columns.items (after_first (fields_of c.args.entry.now)))
    c.has_room_in_last-has_room.result _ of c.requires.started
    c.has_room_in_last-has_room.ensures c.refusal_of_cells.ensures
