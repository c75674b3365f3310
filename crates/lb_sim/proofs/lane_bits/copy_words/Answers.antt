use Rattle.std.proofs.Common.{[], arith}
use Rattle.lb_sim.proofs.LaneBits.{put_none}
use Rattle.lb_sim.proofs.lane_bits.copy_words.Goals as goal

pub loop-c-init : goal.loop-c-init
loop-c-init c = put_none [] c.args.first c.args.from.now c.args.words.now

pub returns-clause-put : goal.returns-clause-put
returns-clause-put c k h = c.loop-c.invariant.put k (omega (arith, h, c.loop-c-test.false))
