use Rattle.std.proofs.Common.{ap, ◌∙◌}
use Rattle.std.proofs.lemmas.List.{take_all}
use Rattle.lb_history.specs.Replaying.{row_at}
use Rattle.lb_csv.specs.CsvTexts.{cells_in}
use Rattle.lb_csv.specs.Players.{program_played, inputs_played}
use Rattle.lb_csv.specs.Shown.{numbers_of}
use Rattle.lb_csv.proofs.Rows.{read_more}
use Rattle.lb_csv.proofs.player.Player.read.Goals as goal

pub loop-column-preserved : goal.loop-column-preserved
loop-column-preserved c = λ t is.
    let p = c.args.self.now in
    read_more (row_at (program_played p) (inputs_played p) t) c.args.columns.now
    c.loop-column.cells.items _ c.loop-column.column-index c.column-item.result
    c.column-item.result c.cell.result c.loop-column-test.true c.column-item.is
    (c.cell.ensures.row t is) c.in_ok-push.ensures.items (c.loop-column.invariant t is)

pub returns : goal.returns
returns c = λ t is.
    let p = c.args.self.now in
    c.loop-column.invariant t is
    ∙ ap (λ cs. cells_in (row_at (program_played p) (inputs_played p) t) (numbers_of cs))
    (take_all c.loop-column.column-index c.args.columns.now c.loop-column-test.false)
