use Rattle.std.proofs.Common.{◌+◌, ap, get_or, arith}
use Rattle.lb_sim.proofs.RunningLanes.{running_none, running_more, running_all}
use Rattle.lb_sim.proofs.running.running_at.Goals as goal

pub loop-i-init : goal.loop-i-init
loop-i-init c =
    running_none c.args.set.now c.args.members.now c.args.begins.now c.args.t _
    (omega (arith, c.requires.instant))

pub loop-i-preserved : goal.loop-i-preserved
loop-i-preserved c =
    let e = c.earlier_end-until.ensures in
    running_more c.args.set.now c.args.members.now c.args.begins.now c.args.t c.loop-i.lanes
    c.with_running-lanes.result c.loop-i.until c.earlier_end-until.result c.loop-i.i
    _ c.loop-i.invariant (omega (arith, c.requires.few, c.loop-i-test.true))
    (ap (λ n. get_or c.args.begins.now c.loop-i.i 0 + n) c.length.ensures.instants) e.later
    e.until e.end c.with_running-lanes.ensures

pub returns : goal.returns
returns c =
    running_all c.args.set.now c.args.members.now c.args.begins.now c.args.t c.loop-i.lanes
    c.loop-i.until c.loop-i.i
    (omega (arith, c.loop-i-test.false)) c.loop-i.invariant (omega arith)
