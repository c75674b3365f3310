-- The rest of a file is judged behind what was judged before.
use Rattle.std.proofs.Common.{List, arith, refl}
use Rattle.std.proofs.lemmas.Result.{IfErr-weaker, IfOk-weaker}
use Rattle.lb_trace.specs.Spelling.{Record}
use Rattle.lb_trace.specs.declared.error.TraceError.TheVariants.{Memory}
use Rattle.lb_feed.proofs.Passing.{passes_on}
use Rattle.lb_report.specs.JudgedParts.{IsJudgedPart}
use Rattle.lb_report.specs.Ranges.{IsRangesHalt}
use Rattle.lb_report.specs.declared.rounds.Halt.{Halt}
use Rattle.lb_report.specs.declared.rounds.Halt.TheVariants.{Refused}
use Rattle.lb_report.proofs.RangeReads.{ranges_memory, rest_halted, rest_judged}
use Rattle.lb_report.proofs.sections.judge_onward.Goals as goal

pub returns-in_err-window-clause-err : goal.returns-in_err-window-clause-err
returns-in_err-window-clause-err g c =
    let p = c.args.rounds.now.runner.program.now.program.now in
    let elements = c.args.rounds.now.signature.now in
    let bytes = g.F.PlacedFile.bytes c.args.file.now in
    let may_fail = g.F.PlacedFile.may_fail in
    let table = c.args.table.now in
    let e = c.in_err-window.field-0.0 in
    let Is : Halt → Type 0 = λ halt. (rows : List Record)
    → IsJudgedPart p elements table rows c.args.judged
    → IsRangesHalt elements table rows bytes may_fail c.args.start c.args.size halt in
    passes_on c.from_residual.result (Refused (Memory e)) Is c.from_residual.ensures.1
    (λ rows part.
    ranges_memory elements table rows bytes c.args.start c.args.size (Memory e) c.requires.ordered
    c.requires.short refl)

pub returns-in_err-begin_with-clause-err : goal.returns-in_err-begin_with-clause-err
returns-in_err-begin_with-clause-err g c =
    let p = c.args.rounds.now.runner.program.now.program.now in
    let elements = c.args.rounds.now.signature.now in
    let bytes = g.F.PlacedFile.bytes c.args.file.now in
    let may_fail = g.F.PlacedFile.may_fail in
    let table = c.args.table.now in
    let e = c.in_err-begin_with.field-0.0 in
    let Is : Halt → Type 0 = λ halt. (rows : List Record)
    → IsJudgedPart p elements table rows c.args.judged
    → IsRangesHalt elements table rows bytes may_fail c.args.start c.args.size halt in
    passes_on c.from_residual-in_err-begin_with.result (Refused (Memory e)) Is
    c.from_residual-in_err-begin_with.ensures.1
    (λ rows part.
    ranges_memory elements table rows bytes c.args.start c.args.size (Memory e) c.requires.ordered
    c.requires.short refl)

pub returns-clause-ok : goal.returns-clause-ok
returns-clause-ok g c =
    let p = c.args.rounds.now.runner.program.now.program.now in
    let elements = c.args.rounds.now.signature.now in
    let bytes = g.F.PlacedFile.bytes c.args.file.now in
    let table = c.args.table.now in
    let feed = c.judge_rest.new.feed in
    IfOk-weaker c.judge_rest.result _ _
    (λ j known rows part.
    rest_judged p elements table bytes c.args.start c.args.size rows c.in_ok-window.window
    c.judge_rest.new.window _ _ c.in_ok-window.ensures.empty c.in_ok-window.ensures.begun.1
    c.new-feed.ensures.coming c.new-feed.ensures.given
    (omega (arith, feed.ordered, feed.short)) j
    (known rows (c.in_ok-begin_with.ensures.part table rows part)))
    c.judge_rest.ensures.ok

pub returns-clause-err : goal.returns-clause-err
returns-clause-err g c =
    let p = c.args.rounds.now.runner.program.now.program.now in
    let elements = c.args.rounds.now.signature.now in
    let bytes = g.F.PlacedFile.bytes c.args.file.now in
    let table = c.args.table.now in
    let feed = c.judge_rest.new.feed in
    IfErr-weaker c.judge_rest.result _ _
    (λ h known rows part.
    rest_halted p elements table bytes c.args.start c.args.size rows c.in_ok-window.window
    c.judge_rest.new.window _ _ c.in_ok-window.ensures.empty c.in_ok-window.ensures.begun.1
    c.new-feed.ensures.coming c.new-feed.ensures.given
    (omega (arith, feed.ordered, feed.short)) c.requires.ordered c.requires.short
    g.F.PlacedFile.may_fail c.in_ok-window.ensures.begun.0 c.new-feed.ensures.failures feed.failed h
    (known rows (c.in_ok-begin_with.ensures.part table rows part)))
    c.judge_rest.ensures.err
