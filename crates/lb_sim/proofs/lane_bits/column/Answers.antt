use Rattle.std.proofs.Common.{arith}
use Rattle.lb_sim.proofs.LaneBits.{column_none, column_more}
use Rattle.lb_sim.proofs.lane_bits.column.Goals as goal

pub loop-i-init : goal.loop-i-init
loop-i-init c = column_none c.args.rows.now c.args.from c.args.c

pub loop-i-preserved : goal.loop-i-preserved
loop-i-preserved c =
    column_more c.args.rows.now c.args.from c.args.c c.loop-i.plane c.with_bit-more.result
    c.loop-i.i c.get-bit.result c.loop-i.invariant (omega arith) c.get-bit.ensures
    c.with_bit-more.ensures

pub returns : goal.returns
returns c i h = c.loop-i.invariant.done i (omega (arith, h))
