use Rattle.lb_listing.specs.Compared.{loss}
use Rattle.lb_listing.specs.Indexed.{listed}
use Rattle.lb_listing.proofs.Counts.{text_more}
use Rattle.lb_listing.proofs.comparison.push_losses.Goals as goal

pub loop-entry-preserved : goal.loop-entry-preserved
loop-entry-preserved c =
    text_more (loss (listed c.args.now.now)) c.args.entries.now c.loop-entry.entry-index _
    c.args.text.now.items _ _ c.loop-entry-test.true c.loop-entry.invariant
    c.in_ok-push_loss.ensures
