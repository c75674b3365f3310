use Rattle.std.proofs.Common.{◌∙◌, ◌++◌, ap, ap₂, map, add-one}
use Rattle.lb_flat.specs.Values.{cell_of}
use Rattle.lb_history.specs.Replaying.{row_at}
use Rattle.lb_csv.specs.CsvTexts.{record_text, cells_in}
use Rattle.lb_csv.specs.Players.{program_played, inputs_played, next_played}
use Rattle.lb_csv.specs.Shown.{names_of, numbers_of}
use Rattle.lb_csv.proofs.Records.{rest_written}
use Rattle.lb_csv.proofs.csv.CsvText.write_record.Goals as goal

pub returns-clause-text : goal.returns-clause-text
returns-clause-text c =
    let before = c.args.self.now in
    let played = c.advance.new.self in
    let columns = before.columns.items in
    let t = next_played before.player in
    let cells = c.read.new.cells.items in
    rest_written (names_of columns) (numbers_of columns) before.is_begun before.is_begun
    (program_played before.player) (program_played played) (inputs_played before.player)
    (inputs_played played) t (next_played played) before.player.end played.end
    c.requires.begun c.requires.begun c.advance.ensures.program c.advance.ensures.inputs
    c.advance.ensures.next c.advance.ensures.end c.requires.next c.args.text.now.items
    c.push_record.new.text.items (map cell_of cells)
    (c.in_ok-push_record.ensures
    ∙ ap₂ (λ n xs. c.args.text.now.items ++ record_text n (map cell_of xs)) c.next-t.ensures
    c.as_slice-2.ensures.value)
    (c.in_ok-read.ensures t (c.advance.ensures.next ∙ add-one t)
    ∙ ap
    (λ cs. cells_in (row_at (program_played played) (inputs_played played) t) (numbers_of cs))
    c.as_slice.ensures.value)
