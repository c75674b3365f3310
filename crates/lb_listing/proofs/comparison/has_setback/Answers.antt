use Rattle.std.proofs.Common.{sym, ◌∙◌}
use Rattle.lb_listing.specs.Compared.{is_setback}
use Rattle.lb_listing.specs.Indexed.{listed}
use Rattle.lb_listing.proofs.Counts.{any_at, none_more}
use Rattle.lb_listing.proofs.comparison.has_setback.Goals as goal

pub returns-then-is_setback : goal.returns-then-is_setback
returns-then-is_setback c =
    sym (any_at (is_setback c.args.measure (listed c.args.before.now)) c.args.entries.now
    c.loop-entry.entry-index _ c.loop-entry-test.true (sym c.is_setback.ensures ∙
    c.if-is_setback.true))

pub loop-entry-preserved : goal.loop-entry-preserved
loop-entry-preserved c =
    none_more (is_setback c.args.measure (listed c.args.before.now)) c.args.entries.now
    c.loop-entry.entry-index _ c.loop-entry-test.true c.loop-entry.invariant
    (sym c.is_setback.ensures ∙ c.if-is_setback.false)
