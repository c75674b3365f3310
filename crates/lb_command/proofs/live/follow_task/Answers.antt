use Rattle.std.proofs.Common.{refl, subst}
use Rattle.clap.specs.Words.{Text}
use Rattle.lb_output.proofs.SinkBytes.{takes_nothing}
use Rattle.lb_command.specs.Outcomes.{AreTexts, HasPath, IsLoaded}
use Rattle.lb_command.proofs.Living.{live_of, live_on, unread_with}
use Rattle.lb_command.proofs.live.follow_task.Goals as goal

pub returns-in-Texts-clause-live : goal.returns-in-Texts-clause-live
returns-in-Texts-clause-live g c =
    let known = g.F.Feed.coming c.args.reader.now in
    let is = subst (IsLoaded c.args.task.now known) c.in-Texts.is c.in-Ok.ensures.ok in
    live_of (AreTexts c.args.task.now known) (HasPath c.args.task.now) _ _ _ _ _
    c.follow_texts.result is c.in-Ok.ensures.read c.follow_texts.ensures.live

pub returns-in-Open-clause-live : goal.returns-in-Open-clause-live
returns-in-Open-clause-live g c =
    let known = g.F.Feed.coming c.args.reader.now in
    let is = subst (IsLoaded c.args.task.now known) c.in-Open.is c.in-Ok.ensures.ok in
    let Are : Text → Text → Type 0 = λ source traces. Unit {0} in
    live_on Are (AreTexts c.args.task.now known) (Unit {0}) (HasPath c.args.task.now) _ _ _
    c.follow_open.result (λ source traces are. is.1 source traces) (λ none. is.0)
    (c.follow_open.ensures.live _ c.in-Ok.ensures.read)

pub returns-in-Err-clause-live : goal.returns-in-Err-clause-live
returns-in-Err-clause-live g c =
    unread_with (AreTexts c.args.task.now (g.F.Feed.coming c.args.reader.now))
    (HasPath c.args.task.now) _ _ _ c.in-Err.refusal c.in-Err.ensures.err c.in-Err.ensures.read
    (record { kept = takes_nothing _; never_failed = refl })
