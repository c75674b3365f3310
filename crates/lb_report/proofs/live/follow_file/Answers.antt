use Rattle.lb_report.proofs.UnderWay.{is_under_way}
use Rattle.lb_report.proofs.live.follow_file.Goals as goal

pub returns-clause-some : goal.returns-clause-some
returns-clause-some g c =
    let found = c.in-Some.ensures in
    record {
      traces = found.traces;
      is = found.is;
      goes = is_under_way c.args.source.now found.traces c.args.options.now c.in-Some.prepared
          (g.S.Sink.taken c.args.sink.now) (g.S.Sink.taken c.follow_prepared.new.sink)
          (g.S.Sink.failures c.args.sink.now) (g.S.Sink.failures c.follow_prepared.new.sink) _
          found.ready c.follow_prepared.ensures.right c.follow_prepared.ensures.followed;
    }
