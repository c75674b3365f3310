use Rattle.std.proofs.Common.{◌≡◌, length, subst, arith}
use Rattle.lb_sim.specs.Loads.{AreFourPut}
use Rattle.lb_sim.proofs.Loading.{four_put_none, four_put_more}
use Rattle.lb_sim.proofs.loads.put_four_words.Goals as goal

pub loop-n-init : goal.loop-n-init
loop-n-init c =
    four_put_none c.args.a.now c.args.b.now c.args.c.now c.args.d.now c.args.first c.args.rows.now

pub loop-n-preserved : goal.loop-n-preserved
loop-n-preserved c =
    four_put_more c.args.a.now c.args.b.now c.args.c.now c.args.d.now c.args.first c.args.rows.now
    c.loop-n.rows c.loop-n.n c.requires.lanes c.loop-n.invariant
    (omega (arith, c.requires.room, c.loop-n-test.true))

pub returns : goal.returns
returns c =
    let all : c.loop-n.n ≡ length c.args.a.now = omega arith in
    subst
    (AreFourPut c.args.a.now c.args.b.now c.args.c.now c.args.d.now c.args.first c.args.rows.now
    c.loop-n.rows)
    all c.loop-n.invariant
