use Rattle.std.proofs.Common.{refl, arith}
use Rattle.lb_sim.proofs.LaneBits.{put_none, put_more}
use Rattle.lb_sim.proofs.lane_bits.put_planes.Goals as goal

pub loop-c-init : goal.loop-c-init
loop-c-init c = put_none 0 c.args.first c.args.words.now c.args.planes.now

pub loop-c-preserved : goal.loop-c-preserved
loop-c-preserved c =
    put_more 0 c.args.first c.args.words.now c.args.planes.now c.loop-c.c c.loop-c.planes _
    c.loop-c.invariant (omega (arith, c.requires.room, c.loop-c-test.true)) refl

pub returns-clause-put : goal.returns-clause-put
returns-clause-put c k h = c.loop-c.invariant.put k (omega (arith, h, c.loop-c-test.false))
