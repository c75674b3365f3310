use Rattle.lb_listing.specs.Junit.{escaped}
use Rattle.lb_listing.proofs.Pieces.{bytes_more}
use Rattle.lb_listing.proofs.junit_text.push_all_escaped.Goals as goal

pub loop-b-preserved : goal.loop-b-preserved
loop-b-preserved c =
    bytes_more escaped c.args.bytes.now c.loop-b.b-index _ c.args.text.now.items _ _
    c.loop-b-test.true c.loop-b.invariant c.in_ok-push_escaped.ensures
