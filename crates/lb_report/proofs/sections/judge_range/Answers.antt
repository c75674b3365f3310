-- A section is judged by itself; it is kept where it ends with a line and all its bytes were read.
use Rattle.std.proofs.Common.{◌∙◌, Result, arith, inl, inr, refl, sym}
use Rattle.std.proofs.lemmas.Bool.{eqb-true, false≢true}
use Rattle.lb_trace.specs.declared.error.TraceError.TheVariants.{Memory}
use Rattle.lb_report.specs.Ranges.{IsRangeTold}
use Rattle.lb_report.specs.declared.rounds.Halt.{Halt}
use Rattle.lb_report.specs.declared.rounds.Halt.TheVariants.{Refused}
use Rattle.lb_report.specs.declared.rounds.Judged.{Judged}
use Rattle.lb_report.proofs.RangeReads.{failed_as, range_judged}
use Rattle.lb_report.proofs.sections.judge_range.Goals as goal
use Rattle.lb_report.proofs.sections.judge_range.Goals.{then-is_last, else-is_last+then-is_ended}
use Rattle.lb_report.proofs.sections.judge_range.Goals.{else-is_last+else-is_ended}

pub returns-in_err-window : goal.returns-in_err-window
returns-in_err-window g c =
    let p = c.args.rounds.now.runner.program.now.program.now in
    let elements = c.args.rounds.now.signature.now in
    let bytes = g.F.PlacedFile.bytes c.args.file.now in
    let e = c.in_err-window.field-0.0 in
    let Is : Result Judged Halt → Type 0 =
    IsRangeTold p elements c.args.table.now bytes c.args.start c.args.past c.args.is_last in
    failed_as Is c.from_residual.result (Refused (Memory e)) c.from_residual.ensures.1 refl

pub returns-then-at-past : goal.returns-then-at-past
returns-then-at-past g c =
    let p = c.args.rounds.now.runner.program.now.program.now in
    let elements = c.args.rounds.now.signature.now in
    let bytes = g.F.PlacedFile.bytes c.args.file.now in
    let read = c.in_ok-judged.ensures in
    let feed = c.judge_section.new.feed in
    let begun = c.in_ok-window.ensures in
    range_judged p elements c.args.table.now bytes c.args.start c.args.past c.args.is_last
    c.in_ok-window.window c.judge_section.new.window _ _ begun.empty begun.begun.2 begun.begun.1
    c.new-feed.ensures.coming c.new-feed.ensures.given (omega (arith, feed.ordered, feed.short))
    c.in_ok-judged.judged read.ok read.roll
    (elim c.if-is_last.branch [
      | then-is_last w ↦ inl w.if-is_last.true
      | else-is_last+then-is_ended w ↦
          inr (
            sym w.is_ended.ensures ∙ w.if-is_ended.true,
            sym c.at-at.ensures
                ∙ eqb-true c.at-at.result c.args.past (sym w.value-is ∙ c.if-at-past.true),
          )
      | else-is_last+else-is_ended w ↦
          absurd (false≢true (cc (w.if-is_ended.false, w.value-is, c.if-at-past.true)))
    ])
