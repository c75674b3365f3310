-- The run of what is ready gives the report on the texts; else the sink is as it was.
use Rattle.std.proofs.lemmas.Result.{err_from_is_err_and}
use Rattle.lb_report.proofs.UnderWay.{is_turned_away, is_under_way}
use Rattle.lb_report.proofs.live.follow.Goals as goal

pub returns-in_err-prepared : goal.returns-in_err-prepared
returns-in_err-prepared g c =
    let exit = c.from_residual in
    let p = err_from_is_err_and exit.result exit.ensures.1 in
    rw (p.1, p.2) (is_turned_away c.args.source.now c.args.traces.now c.args.options.now
    c.in_err-prepared.field-0.0 (g.S.Sink.taken c.args.sink.now)
    (g.S.Sink.failures c.args.sink.now) c.in_err-prepared.ensures.err)

pub returns-in-Ok : goal.returns-in-Ok
returns-in-Ok g c =
    is_under_way c.args.source.now c.args.traces.now c.args.options.now
    c.in_ok-prepared.prepared (g.S.Sink.taken c.args.sink.now)
    (g.S.Sink.taken c.follow_prepared.new.sink) (g.S.Sink.failures c.args.sink.now)
    (g.S.Sink.failures c.follow_prepared.new.sink) _ c.in_ok-prepared.ensures.ok
    c.follow_prepared.ensures.right c.in-Ok.ensures.followed

pub returns : goal.returns
returns g c =
    is_under_way c.args.source.now c.args.traces.now c.args.options.now
    c.in_ok-prepared.prepared (g.S.Sink.taken c.args.sink.now)
    (g.S.Sink.taken c.follow_prepared.new.sink) (g.S.Sink.failures c.args.sink.now)
    (g.S.Sink.failures c.follow_prepared.new.sink) _ c.in_ok-prepared.ensures.ok
    c.follow_prepared.ensures.right c.in-Err.ensures.followed
