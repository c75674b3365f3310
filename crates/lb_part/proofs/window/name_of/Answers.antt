use Rattle.std.proofs.Common.{sym, arith}
use Rattle.lb_part.proofs.WindowNames.{name-ended, name-last}
use Rattle.lb_part.proofs.window.name_of.Goals as goal

pub returns-then-ends_cell : goal.returns-then-ends_cell
returns-then-ends_cell c =
    λ more last.
    name-ended c.args.text.now more c.loop-i.i c.loop-i-test.true c.loop-i.invariant
    (sym c.if-ends_cell.ensures)

pub returns-then-is_last : goal.returns-then-is_last
returns-then-is_last c =
    λ more last.
    name-last c.args.text.now more
    (λ k below. c.loop-i.invariant k (omega (arith, below, c.loop-i-test.false)))
    (last c.if-is_last.true)
