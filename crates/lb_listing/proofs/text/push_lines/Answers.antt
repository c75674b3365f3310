use Rattle.lb_listing.specs.Listings.{spelled}
use Rattle.lb_listing.proofs.Counts.{text_more}
use Rattle.lb_listing.proofs.text.push_lines.Goals as goal

pub loop-entry-preserved : goal.loop-entry-preserved
loop-entry-preserved c =
    text_more spelled c.args.entries.now c.loop-entry.entry-index _ c.args.text.now.items _ _
    c.loop-entry-test.true c.loop-entry.invariant c.in_ok-push_line.ensures.text
