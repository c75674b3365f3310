use Rattle.std.proofs.Common.{sym, ◌∙◌}
use Rattle.lb_listing.specs.Listings.{Line}
use Rattle.lb_listing.specs.Verdicts.{fails}
use Rattle.lb_listing.proofs.Counts.{any_at, none_more}
use Rattle.lb_listing.proofs.status.some_fails.Goals as goal

pub returns-then-fails : goal.returns-then-fails
returns-then-fails c =
    sym (any_at (λ (l : Line). fails c.args.measure l.1) c.args.entries.now
    c.loop-entry.entry-index _ c.loop-entry-test.true (sym c.fails.ensures ∙ c.if-fails.true))

pub loop-entry-preserved : goal.loop-entry-preserved
loop-entry-preserved c =
    none_more (λ (l : Line). fails c.args.measure l.1) c.args.entries.now
    c.loop-entry.entry-index _ c.loop-entry-test.true c.loop-entry.invariant
    (sym c.fails.ensures ∙ c.if-fails.false)
