-- The end of the first line.
use Rattle.std.proofs.Common.{refl, sym}
use Rattle.lb_trace.proofs.FrontLines.{ended-at, first-all, first-found, no_end-more}
use Rattle.lb_trace.proofs.front_line.line_len.Goals as goal

pub loop-i-preserved : goal.loop-i-preserved
loop-i-preserved c =
    no_end-more _ _ _ c.loop-i-test.true refl (sym c.if-ends_line.ensures) c.loop-i.invariant

pub returns-then-ends_line-clause-first : goal.returns-then-ends_line-clause-first
returns-then-ends_line-clause-first c =
    first-found _ _ _ c.loop-i-test.true refl (sym c.if-ends_line.ensures)
    c.requires c.loop-i.invariant

pub returns-then-ends_line-clause-ended : goal.returns-then-ends_line-clause-ended
returns-then-ends_line-clause-ended c = λ short.
    ended-at _ _ _ c.loop-i-test.true refl (sym c.if-ends_line.ensures)

pub returns-clause-first : goal.returns-clause-first
returns-clause-first c =
    first-all c.args.text.now c.loop-i.i c.loop-i-test.false c.loop-i.invariant
