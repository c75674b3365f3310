use Rattle.std.proofs.Common.{◌∙◌}
use Rattle.lb_output.proofs.SinkBytes.{takes_further, further}
use Rattle.lb_output.proofs.sink.send.Goals as goal

pub loop-count-preserved : goal.loop-count-preserved
loop-count-preserved g c =
    let before = c.loop-count.invariant in
    let wrote = c.in-Ok.ensures in (
      record {
        within = further c.args.bytes.now _ _ wrote.within c.loop-count-test.true;
        gone = takes_further _ _ _ _ _ _ before.0.gone wrote.next;
      },
      wrote.some c.if-more-gt0.true ∙ before.1,
    )
