use Rattle.std.proofs.Common.{Global, List, Vec, ℕ, Option, None, Err, ap, map, refl, subst}
use Rattle.std.proofs.Common.{sym, ◌∙◌}
use Rattle.std.specs.Prelude.{string_bytes}
use Rattle.lb_command.specs.Live.{IsLiveOn}
use Rattle.lb_command.specs.Live.IsLiveRun.{refused, stopped, whole}
use Rattle.lb_command.specs.Lines.{line}
use Rattle.lb_command.specs.Outcomes.{AreTexts, HasPath, IsTold, refusal_status}
use Rattle.lb_command.specs.Streams.{change, input}
use Rattle.lb_command.specs.Warnings.{AreWarnings}
use Rattle.lb_command.specs.declared.live.LiveFault.{LiveFault}
use Rattle.lb_command.proofs.live.run_live.Goals as goal

pub returns-in-Ok : goal.returns-in-Ok
returns-in-Ok g c =
    let Are : List ℕ → Type 0 =
    AreWarnings (map string_bytes c.args.words.now) c.args.task.now.options in
    whole c.as_slice.result.now c.in-Ok.ensures.live refl
    (subst Are (sym c.as_slice.ensures.value) c.in-Ok.ensures.warned) c.warn.ensures.warned

pub returns-in-Refused : goal.returns-in-Refused
returns-in-Refused g c =
    let taken = g.W.Sink.taken in
    let failures = g.W.Sink.failures in
    let writer = c.args.writer.now in
    let after = c.follow_task.new.writer in
    let known = g.F.Feed.coming c.args.reader.now in
    let Is : LiveFault → Type 0 = λ fault.
    IsLiveOn {T = Vec ℕ Global} (AreTexts c.args.task.now known) (HasPath c.args.task.now)
    c.args.task.now.options
    (input known (g.F.Feed.given c.args.reader.now) (g.F.Feed.given c.follow_task.new.reader)
    (g.F.Feed.failures c.args.reader.now) (g.F.Feed.failures c.follow_task.new.reader))
    (change (taken writer) (taken after) (failures writer) (failures after)) (Err fault) in
    refused c.in-Refused.refusal (subst Is c.in-Refused.is c.in-Err.ensures.live)
    c.tell.ensures.status c.tell.ensures.told

pub returns-in-Stopped : goal.returns-in-Stopped
returns-in-Stopped g c =
    let taken = g.W.Sink.taken in
    let failures = g.W.Sink.failures in
    let writer = c.args.writer.now in
    let after = c.follow_task.new.writer in
    let known = g.F.Feed.coming c.args.reader.now in
    let Is : LiveFault → Type 0 = λ fault.
    IsLiveOn {T = Vec ℕ Global} (AreTexts c.args.task.now known) (HasPath c.args.task.now)
    c.args.task.now.options
    (input known (g.F.Feed.given c.args.reader.now) (g.F.Feed.given c.follow_task.new.reader)
    (g.F.Feed.failures c.args.reader.now) (g.F.Feed.failures c.follow_task.new.reader))
    (change (taken writer) (taken after) (failures writer) (failures after)) (Err fault) in
    let gives = c.from.ensures in
    let number = c.from.result.number in
    let errors = c.args.errors.now in
    let last = c.tell-in-Stopped.new.errors in
    let told = change (g.E.Sink.taken errors) (g.E.Sink.taken last) (g.E.Sink.failures errors)
    (g.E.Sink.failures last) in
    let Told : ℕ → Option (ℕ × ℕ) → Type 0 = λ n position.
    IsTold (map string_bytes c.args.words.now) told (line n position) in
    stopped c.in-Stopped.cause (subst Is c.in-Stopped.is c.in-Err.ensures.live)
    (c.tell-in-Stopped.ensures.status ∙ ap refusal_status gives.0)
    (subst (λ n. Told n None) gives.0
    (subst (λ position. Told number position) gives.1 c.tell-in-Stopped.ensures.told))
