-- A text behind its header, or as a whole where its first line has a quote.
use Rattle.std.proofs.lemmas.Result.{IfErr-weaker, IfOk-weaker}
use Rattle.lb_feed.specs.Windows.{left}
use Rattle.lb_report.specs.JudgedParts.{IsTextJudged, IsTextRefused}
use Rattle.lb_report.proofs.QuotedTexts.{head_refused, judged_on, refused_further}
use Rattle.lb_report.proofs.RestReads.{text_judged, text_refused}
use Rattle.lb_report.proofs.rounds.Rounds.judge.Goals as goal

pub returns-in_ok-state-in-Ok-clause-ok : goal.returns-in_ok-state-in-Ok-clause-ok
returns-in_ok-state-in-Ok-clause-ok g c =
    let p = c.args.self.now.runner.program.now.program.now in
    let elements = c.args.self.now.signature.now in
    let f = c.args.feed.now in
    let h = c.judge_rest.new.feed in
    let old = left (g.F.Feed.coming f) (g.F.Feed.given f) (g.F.Feed.failures f) in
    let new = left (g.F.Feed.coming h) (g.F.Feed.given h) (g.F.Feed.failures h) in
    IfOk-weaker c.judge_rest.result _
    (λ judged. IsTextJudged p elements c.args.window.now c.judge_rest.new.window old new judged)
    (λ judged given.
    text_judged p elements c.in-Ok.table _ _ _ _ _ _ judged c.in-Ok.ensures.ok
    (given _ (c.in_ok-state-in-Ok.ensures.part c.in-Ok.table)))
    c.judge_rest.ensures.ok

pub returns-in_ok-state-in-Ok-clause-err : goal.returns-in_ok-state-in-Ok-clause-err
returns-in_ok-state-in-Ok-clause-err g c =
    let elements = c.args.self.now.signature.now in
    let f = c.args.feed.now in
    let h = c.judge_rest.new.feed in
    let old = left (g.F.Feed.coming f) (g.F.Feed.given f) (g.F.Feed.failures f) in
    let new = left (g.F.Feed.coming h) (g.F.Feed.given h) (g.F.Feed.failures h) in
    IfErr-weaker c.judge_rest.result _
    (λ halt. IsTextRefused elements c.args.window.now c.judge_rest.new.window old new halt)
    (λ halt given.
    text_refused elements c.in-Ok.table _ _ _ _ _ _ halt c.in-Ok.ensures.ok
    (given _ (c.in_ok-state-in-Ok.ensures.part c.in-Ok.table)))
    c.judge_rest.ensures.err

pub returns-in-Err-Quoted-clause-ok : goal.returns-in-Err-Quoted-clause-ok
returns-in-Err-Quoted-clause-ok g c =
    let p = c.args.self.now.runner.program.now.program.now in
    let elements = c.args.self.now.signature.now in
    let f = c.args.feed.now in
    let h = c.judge_quoted_text.new.feed in
    let old = left (g.F.Feed.coming f) (g.F.Feed.given f) (g.F.Feed.failures f) in
    let new = left (g.F.Feed.coming h) (g.F.Feed.given h) (g.F.Feed.failures h) in
    let head = rw c.in-Err-Quoted.field-0-is at c.in-Err-Quoted.ensures.err in
    IfOk-weaker c.judge_quoted_text.result _
    (λ judged. IsTextJudged p elements c.args.window.now c.judge_quoted_text.new.window old new
    judged)
    (λ judged given. judged_on p elements _ _ _ _ _ _ judged head.0 given)
    c.judge_quoted_text.ensures.ok

pub returns-in-Err-Quoted-clause-err : goal.returns-in-Err-Quoted-clause-err
returns-in-Err-Quoted-clause-err g c =
    let elements = c.args.self.now.signature.now in
    let f = c.args.feed.now in
    let h = c.judge_quoted_text.new.feed in
    let old = left (g.F.Feed.coming f) (g.F.Feed.given f) (g.F.Feed.failures f) in
    let new = left (g.F.Feed.coming h) (g.F.Feed.given h) (g.F.Feed.failures h) in
    let head = rw c.in-Err-Quoted.field-0-is at c.in-Err-Quoted.ensures.err in
    IfErr-weaker c.judge_quoted_text.result _
    (λ halt. IsTextRefused elements c.args.window.now c.judge_quoted_text.new.window old new halt)
    (λ halt given. refused_further elements _ _ _ _ _ _ halt head.0 given)
    c.judge_quoted_text.ensures.err

pub judge_quoted_text-requires-clause-window : goal.judge_quoted_text-requires-clause-window
judge_quoted_text-requires-clause-window g c κs within =
    let head = rw c.in-Err-Quoted.field-0-is at c.in-Err-Quoted.ensures.err in head.1

pub returns-in-Err-clause-err : goal.returns-in-Err-clause-err
returns-in-Err-clause-err g c =
    head_refused c.args.self.now.signature.now _ _ _ _ c.in-Err.halt c.in-Err.ensures.err
