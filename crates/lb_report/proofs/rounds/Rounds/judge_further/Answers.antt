-- The pieces without quotes, and then the rest.
use Rattle.std.proofs.lemmas.Result.{IfErr-weaker, IfOk-weaker}
use Rattle.std.proofs.Common.{List}
use Rattle.lb_trace.specs.Spelling.{Record}
use Rattle.lb_feed.specs.Windows.{left}
use Rattle.lb_report.specs.JudgedParts.{IsPartRead, IsRestHalted, IsRestJudged}
use Rattle.lb_report.proofs.RestReads.{rest_halted_on, rest_on}
use Rattle.lb_report.proofs.rounds.Rounds.judge_further.Goals as goal

pub returns-in-Ok-clause-ok : goal.returns-in-Ok-clause-ok
returns-in-Ok-clause-ok g c = λ rows is. (c.in-Ok.ensures.ok rows is).rest

pub returns-in-Err-Halted-clause-err : goal.returns-in-Err-Halted-clause-err
returns-in-Err-Halted-clause-err g c = rw c.in-Err-Halted.field-0-is at c.in-Err-Halted.ensures.err

pub returns-in-Err-Halted-clause-kept : goal.returns-in-Err-Halted-clause-kept
returns-in-Err-Halted-clause-kept g c = rw c.in-Err-Halted.field-0-is at c.in-Err-Halted.ensures.on

pub judge_quoted-requires-clause-window : goal.judge_quoted-requires-clause-window
judge_quoted-requires-clause-window g c κs within =
    let on = rw c.in-Err-Quoted.field-0-is at c.in-Err-Quoted.ensures.on in on.1

pub judge_quoted-requires-clause-state : goal.judge_quoted-requires-clause-state
judge_quoted-requires-clause-state g c κs within =
    let on = rw c.in-Err-Quoted.field-0-is at c.in-Err-Quoted.ensures.on in on.0

pub returns-in-Err-Quoted-clause-ok : goal.returns-in-Err-Quoted-clause-ok
returns-in-Err-Quoted-clause-ok g c =
    let p = c.args.self.now.runner.program.now.program.now in
    let elements = c.args.self.now.signature.now in
    let table = c.args.table.now in
    let f = c.args.feed.now in
    let h = c.judge_quoted.new.feed in
    let old = left (g.F.Feed.coming f) (g.F.Feed.given f) (g.F.Feed.failures f) in
    let new = left (g.F.Feed.coming h) (g.F.Feed.given h) (g.F.Feed.failures h) in
    IfOk-weaker c.judge_quoted.result _
    (λ judged. (rows : List Record) → IsPartRead p elements table rows c.args.begun
    → IsRestJudged p elements table rows c.args.window.now c.judge_quoted.new.window old new judged)
    (λ judged given rows is.
    let at = rw c.in-Err-Quoted.field-0-is at (c.in-Err-Quoted.ensures.err rows is) in
    rest_on p elements table rows _ _ _ _ _ _ _ judged at
    (given _ at.part))
    c.judge_quoted.ensures.ok

pub returns-in-Err-Quoted-clause-err : goal.returns-in-Err-Quoted-clause-err
returns-in-Err-Quoted-clause-err g c =
    let p = c.args.self.now.runner.program.now.program.now in
    let elements = c.args.self.now.signature.now in
    let table = c.args.table.now in
    let f = c.args.feed.now in
    let h = c.judge_quoted.new.feed in
    let old = left (g.F.Feed.coming f) (g.F.Feed.given f) (g.F.Feed.failures f) in
    let new = left (g.F.Feed.coming h) (g.F.Feed.given h) (g.F.Feed.failures h) in
    IfErr-weaker c.judge_quoted.result _
    (λ halt. (rows : List Record) → IsPartRead p elements table rows c.args.begun
    → IsRestHalted elements table rows c.args.window.now c.judge_quoted.new.window old new halt)
    (λ halt given rows is.
    let at = rw c.in-Err-Quoted.field-0-is at (c.in-Err-Quoted.ensures.err rows is) in
    rest_halted_on p elements table rows _ _ _ _ _ _ _ halt at
    (given _ at.part))
    c.judge_quoted.ensures.err
