use Rattle.std.proofs.Common.{◌∙◌, ◌++◌, ap, refl}
use Rattle.lb_csv.specs.CsvTexts.{header}
use Rattle.lb_csv.specs.Players.{program_played, inputs_played, next_played}
use Rattle.lb_csv.specs.Shown.{names_of, numbers_of}
use Rattle.lb_csv.proofs.Records.{header_written}
use Rattle.lb_csv.proofs.csv.CsvText.begin.Goals as goal

pub returns-clause-text : goal.returns-clause-text
returns-clause-text c =
    let before = c.args.self.now in
    let columns = before.columns.items in
    let f = program_played before.player in
    let X = inputs_played before.player in
    let t = next_played before.player in
    let end = before.player.end in
    header_written (names_of columns) (numbers_of columns) before.is_begun _ f f X X t t end end
    c.requires refl _ _
    (c.in_ok-push_header.ensures
    ∙ ap (λ cs. c.args.text.now.items ++ header (names_of cs)) c.as_slice.ensures.value)
