-- All that is left stands in the window, behind what was read.
use Rattle.std.proofs.Common.{◌∷◌, List, ap}
use Rattle.std.proofs.lemmas.Result.{IfErr-weaker, IfOk-weaker}
use Rattle.lb_trace.specs.Spelling.{Record}
use Rattle.lb_feed.proofs.Passing.{passes_on}
use Rattle.lb_feed.specs.Windows.{left}
use Rattle.lb_report.specs.JudgedParts.{HasRoll, IsPartRead, IsRestHalted, IsRestJudged}
use Rattle.lb_report.specs.declared.rounds.Halt.{Halt}
use Rattle.lb_report.specs.declared.rounds.Halt.TheVariants.{Load}
use Rattle.lb_report.proofs.QuotedReads.{rest_judged, rest_stopped}
use Rattle.lb_report.proofs.rounds.Rounds.judge_quoted.Goals as goal

pub returns-clause-ok : goal.returns-clause-ok
returns-clause-ok g c =
    let p = c.args.self.now.runner.program.now.program.now in
    let elements = c.args.self.now.signature.now in
    let table = c.args.table.now in
    let w = c.fill_all.new.self in
    let f = c.args.feed.now in
    let h = c.fill_all.new.feed in
    let old = left (g.F.Feed.coming f) (g.F.Feed.given f) (g.F.Feed.failures f) in
    let new = left (g.F.Feed.coming h) (g.F.Feed.given h) (g.F.Feed.failures h) in
    IfOk-weaker c.judge_behind.result _
    (λ judged. (rows : List Record) → IsPartRead p elements table rows c.args.state
    → IsRestJudged p elements table rows c.args.window.now w old new judged)
    (λ judged given rows is.
    rest_judged p elements table rows c.args.window.now w old new (10 ∷ c.text.result.now) judged
    c.in_ok-fill_all.ensures.taken (ap (λ t. 10 ∷ t) c.text.ensures) c.in_ok-fill_all.ensures.over
    (given rows is))
    c.judge_behind.ensures.ok

pub returns-clause-err : goal.returns-clause-err
returns-clause-err g c =
    let p = c.args.self.now.runner.program.now.program.now in
    let elements = c.args.self.now.signature.now in
    let table = c.args.table.now in
    let w = c.fill_all.new.self in
    let f = c.args.feed.now in
    let h = c.fill_all.new.feed in
    let old = left (g.F.Feed.coming f) (g.F.Feed.given f) (g.F.Feed.failures f) in
    let new = left (g.F.Feed.coming h) (g.F.Feed.given h) (g.F.Feed.failures h) in
    IfErr-weaker c.judge_behind.result _
    (λ halt. (rows : List Record) → IsPartRead p elements table rows c.args.state
    → IsRestHalted elements table rows c.args.window.now w old new halt)
    (λ halt given rows is.
    rest_stopped elements table rows c.args.window.now w old new (10 ∷ c.text.result.now) halt
    c.in_ok-fill_all.ensures.taken (ap (λ t. 10 ∷ t) c.text.ensures) c.in_ok-fill_all.ensures.over
    (given rows is))
    c.judge_behind.ensures.err

pub returns-in_err-fill_all-clause-err : goal.returns-in_err-fill_all-clause-err
returns-in_err-fill_all-clause-err g c =
    let p = c.args.self.now.runner.program.now.program.now in
    let elements = c.args.self.now.signature.now in
    let table = c.args.table.now in
    let w = c.fill_all.new.self in
    let f = c.args.feed.now in
    let h = c.fill_all.new.feed in
    let old = left (g.F.Feed.coming f) (g.F.Feed.given f) (g.F.Feed.failures f) in
    let new = left (g.F.Feed.coming h) (g.F.Feed.given h) (g.F.Feed.failures h) in
    let Is : Halt → Type 0 = λ halt. (rows : List Record)
    → IsPartRead p elements table rows c.args.state
    → IsRestHalted elements table rows c.args.window.now w old new halt in
    passes_on c.from_residual.result (Load c.in_err-fill_all.field-0.0) Is
    c.from_residual.ensures.1 (λ rows is. c.in_err-fill_all.ensures.err)

pub returns-in_err-fill_all-clause-kept : goal.returns-in_err-fill_all-clause-kept
returns-in_err-fill_all-clause-kept g c =
    passes_on c.from_residual.result (Load c.in_err-fill_all.field-0.0) HasRoll
    c.from_residual.ensures.1 tt
