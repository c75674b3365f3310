use Rattle.lb_listing.specs.Compared.{change}
use Rattle.lb_listing.specs.Indexed.{listed}
use Rattle.lb_listing.proofs.Counts.{text_more}
use Rattle.lb_listing.proofs.comparison.push_changes.Goals as goal

pub loop-entry-preserved : goal.loop-entry-preserved
loop-entry-preserved c =
    text_more (change (listed c.args.before.now)) c.args.entries.now c.loop-entry.entry-index _
    c.args.text.now.items _ _ c.loop-entry-test.true c.loop-entry.invariant
    c.in_ok-push_change.ensures
