use Rattle.std.proofs.Common.{arith}
use Rattle.lb_sim.proofs.Loading.{words_put_none, words_put_more}
use Rattle.lb_sim.proofs.loads.put_words.Goals as goal

pub loop-n-init : goal.loop-n-init
loop-n-init c = words_put_none c.args.bits.now c.args.i c.args.rows.now

pub loop-n-preserved : goal.loop-n-preserved
loop-n-preserved c =
    words_put_more c.args.bits.now c.args.i c.args.rows.now c.loop-n.rows c.loop-n.n
    c.loop-n.invariant c.requires.lane
    (omega (arith, c.requires.lane, c.requires.room, c.loop-n-test.true))

pub returns-clause-put : goal.returns-clause-put
returns-clause-put c n h = c.loop-n.invariant.put n (omega (arith, h, c.loop-n-test.false))

pub returns-clause-others : goal.returns-clause-others
returns-clause-others c = c.loop-n.invariant.others
