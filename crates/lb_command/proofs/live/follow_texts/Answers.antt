-- A refusal of the texts is reported with its number and its place.
use Rattle.std.proofs.Common.{Err, Global, Ok, Vec, ℕ, subst}
use Rattle.lb_report.specs.LiveReports.{IsFollowAnswer}
use Rattle.lb_report.specs.declared.live.FollowFault.{FollowFault}
use Rattle.lb_command.specs.Streams.{change}
use Rattle.lb_command.specs.declared.live.LiveFault.TheVariants.{Refused, Stopped}
use Rattle.lb_command.proofs.Living.{are_refused, live_in}
use Rattle.lb_command.proofs.live.follow_texts.Goals as goal

pub returns-in-Ok-clause-live : goal.returns-in-Ok-clause-live
returns-in-Ok-clause-live g c =
    let taken = g.W.Sink.taken in
    let failures = g.W.Sink.failures in
    let writer = c.args.writer.now in
    let after = c.follow.new.sink in
    live_in {T = Vec ℕ Global} c.args.texts c.parts.result.0.now c.parts.result.1.now
    c.args.task.now.options
    (change (taken writer) (taken after) (failures writer) (failures after))
    (Ok c.warnings_of.result) c.parts.ensures.source c.parts.ensures.traces c.in-Ok.ensures

pub returns-in-Refused-clause-live : goal.returns-in-Refused-clause-live
returns-in-Refused-clause-live g c =
    let taken = g.W.Sink.taken in
    let failures = g.W.Sink.failures in
    let writer = c.args.writer.now in
    let after = c.follow.new.sink in
    let source = c.parts.result.0.now in
    let traces = c.parts.result.1.now in
    let output = change (taken writer) (taken after) (failures writer) (failures after) in
    let Is : FollowFault → Type 0 = λ fault.
    IsFollowAnswer source traces c.args.task.now.options (taken writer)
    (taken after) (failures writer) (failures after) (Err fault) in
    live_in {T = Vec ℕ Global} c.args.texts source traces c.args.task.now.options output
    (Err (Refused c.of_texts.result)) c.parts.ensures.source c.parts.ensures.traces
    (are_refused source traces c.args.task.now.options output c.in-Refused.cause c.of_texts.result
    (subst Is c.in-Refused.is c.in-Err.ensures) c.of_texts.ensures.told)

pub returns-in-Stopped-clause-live : goal.returns-in-Stopped-clause-live
returns-in-Stopped-clause-live g c =
    let taken = g.W.Sink.taken in
    let failures = g.W.Sink.failures in
    let writer = c.args.writer.now in
    let after = c.follow.new.sink in
    let source = c.parts.result.0.now in
    let traces = c.parts.result.1.now in
    let output = change (taken writer) (taken after) (failures writer) (failures after) in
    let Is : FollowFault → Type 0 = λ fault.
    IsFollowAnswer source traces c.args.task.now.options (taken writer)
    (taken after) (failures writer) (failures after) (Err fault) in
    live_in {T = Vec ℕ Global} c.args.texts source traces c.args.task.now.options output
    (Err (Stopped c.in-Stopped.cause)) c.parts.ensures.source c.parts.ensures.traces
    (subst Is c.in-Stopped.is c.in-Err.ensures)
