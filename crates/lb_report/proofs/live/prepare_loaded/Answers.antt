-- The traces are those of the text of the chunks that were loaded.
use Rattle.std.proofs.Common.{◌++◌}
use Rattle.lb_trace.specs.Chunks.{text_of}
use Rattle.lb_report.proofs.UnderWay.{has_kinds}
use Rattle.lb_report.proofs.live.prepare_loaded.Goals as goal

pub returns : goal.returns
returns g c =
    let found = c.in-Some.ensures in
    let text = c.args.first.now ++ text_of found.0 in
    let program = c.in-Ok.program in
    let set = c.in-Some.set in (
      found.0,
      found.1,
      record {
        program = c.in-Ok.ensures.ok;
        reading = found.2;
        over_all = c.in-Ok-plan_of.ensures;
        kinds = has_kinds c.args.source.now text c.args.options.now program set
            c.in-Ok.ensures.ok found.2.signature;
      },
    )
