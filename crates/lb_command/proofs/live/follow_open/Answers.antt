use Rattle.std.proofs.Common.{Global, Result, Vec, ℕ, subst}
use Rattle.lb_output.specs.declared.follow_error.FollowError.{FollowError}
use Rattle.lb_command.specs.Live.{GoesTo}
use Rattle.lb_command.specs.Streams.{change}
use Rattle.lb_command.proofs.Living.{live_run}
use Rattle.lb_command.proofs.live.follow_open.Goals as goal

pub returns-in-Ok-clause-live : goal.returns-in-Ok-clause-live
returns-in-Ok-clause-live g c = λ i never.
    let taken = g.W.Sink.taken in
    let failures = g.W.Sink.failures in
    let writer = c.args.writer.now in
    let after = c.follow_file.new.sink in
    let found = c.in-Some.ensures.some in
    let output = change (taken writer) (taken after) (failures writer) (failures after) in
    let Goes : Result (Unit {0}) FollowError → Type 0 =
    GoesTo c.as_slice.result.now found.traces c.args.task.now.options output in
    live_run {T = Vec ℕ Global} c.as_slice.result.now found.traces c.args.task.now.options i output
    c.warnings_of.result never
    (subst Goes c.in-Ok.is found.goes)

pub returns-clause-live : goal.returns-clause-live
returns-clause-live g c = λ i never.
    rw (← c.in-None.ensures.none) (c.follow_loaded.ensures.live i never)
