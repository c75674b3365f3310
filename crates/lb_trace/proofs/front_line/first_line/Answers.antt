use Rattle.std.proofs.Common.{refl, sym}
use Rattle.lb_trace.proofs.FrontLines.{in_line-all, in_line-end, in_line-more}
use Rattle.lb_trace.proofs.front_line.first_line.Goals as goal

pub returns-then-ends_line : goal.returns-then-ends_line
returns-then-ends_line c =
    sym (in_line-end _ _ _ c.loop-i-test.true refl (sym c.if-ends_line.ensures) c.loop-i.invariant)

pub loop-i-preserved : goal.loop-i-preserved
loop-i-preserved c =
    in_line-more _ _ _ c.loop-i-test.true refl (sym c.if-ends_line.ensures) c.loop-i.invariant

pub returns : goal.returns
returns c = sym (in_line-all c.args.text.now c.loop-i.i c.loop-i-test.false c.loop-i.invariant)
