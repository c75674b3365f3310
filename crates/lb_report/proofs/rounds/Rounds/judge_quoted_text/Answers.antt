-- All that is left stands in the window.
use Rattle.std.proofs.Common.{subst, List, ℕ}
use Rattle.std.proofs.lemmas.Result.{IfErr-weaker, IfOk-weaker}
use Rattle.lb_feed.specs.Windows.{left}
use Rattle.lb_report.specs.JudgedParts.{IsTextJudged, IsTextRefused}
use Rattle.lb_report.specs.QuotedTexts.{IsWholeJudged, IsWholeRefused}
use Rattle.lb_report.proofs.QuotedTexts.{taken_judged, taken_refused}
use Rattle.lb_report.proofs.rounds.Rounds.judge_quoted_text.Goals as goal

pub returns-clause-ok : goal.returns-clause-ok
returns-clause-ok g c =
    let p = c.args.self.now.runner.program.now.program.now in
    let elements = c.args.self.now.signature.now in
    let w = c.fill_all.new.self in
    let f = c.args.feed.now in
    let h = c.fill_all.new.feed in
    let old = left (g.F.Feed.coming f) (g.F.Feed.given f) (g.F.Feed.failures f) in
    let new = left (g.F.Feed.coming h) (g.F.Feed.given h) (g.F.Feed.failures h) in
    IfOk-weaker c.judge_whole.result _
    (λ judged. IsTextJudged p elements c.args.window.now w old new judged)
    (λ judged given.
    taken_judged p elements c.args.window.now w old new judged c.in_ok-fill_all.ensures.taken
    c.in_ok-fill_all.ensures.over
    (subst (λ (t : List ℕ). IsWholeJudged p elements t judged) c.text.ensures given))
    c.judge_whole.ensures.ok

pub returns-clause-err : goal.returns-clause-err
returns-clause-err g c =
    let elements = c.args.self.now.signature.now in
    let w = c.fill_all.new.self in
    let f = c.args.feed.now in
    let h = c.fill_all.new.feed in
    let old = left (g.F.Feed.coming f) (g.F.Feed.given f) (g.F.Feed.failures f) in
    let new = left (g.F.Feed.coming h) (g.F.Feed.given h) (g.F.Feed.failures h) in
    IfErr-weaker c.judge_whole.result _
    (λ halt. IsTextRefused elements c.args.window.now w old new halt)
    (λ halt given.
    taken_refused elements c.args.window.now w old new halt c.in_ok-fill_all.ensures.taken
    c.in_ok-fill_all.ensures.over
    (subst (λ (t : List ℕ). IsWholeRefused elements t halt) c.text.ensures given))
    c.judge_whole.ensures.err
