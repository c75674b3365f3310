-- The line with which the rest begins is kept.
use Rattle.std.proofs.Common.{ap, ◌∙◌}
use Rattle.lb_trace.specs.Lines.{record_of}
use Rattle.lb_trace.specs.Plain.{is_comma, split_at}
use Rattle.lb_trace.proofs.FrontLines.{line_of-same}
use Rattle.lb_report.proofs.rounds.Rounds.cut_at.Goals as goal

pub returns-in-Ok : goal.returns-in-Ok
returns-in-Ok c =
    ap record_of (c.in-Ok.ensures.items_if_clones_equal (λ x y e. e) ∙ c.first_line.ensures)
    ∙ ap (split_at is_comma) (line_of-same c.args.stopped.rest.now)
