use Rattle.std.proofs.Common.{◌<◌, ◌+◌, ◌*◌, ◌∙◌, ap, get_or, arith}
use Rattle.lb_lanes.specs.Planes.{on}
use Rattle.lb_sim.proofs.Loading.{turned_none, turned_more}
use Rattle.lb_sim.proofs.loads.turn.Goals as goal

pub loop-g-init : goal.loop-g-init
loop-g-init c = turned_none c.args.rows.now (c.args.d * c.groups_of-width.result) c.args.planes.now

pub loop-g-preserved : goal.loop-g-preserved
loop-g-preserved c =
    let e = c.turn_group.ensures in
    turned_more c.args.rows.now (c.args.d * c.groups_of-width.result) c.args.planes.now
    c.loop-g.planes c.turn_group.new.planes c.loop-g.g c.size_of_group-count.result
    c.loop-g.invariant e.planes c.size_of_group-count.ensures.all e.put e.below

pub returns-clause-put : goal.returns-clause-put
returns-clause-put c g k i h l lb =
    let width = c.groups_of-width in
    let under : g < width.result = omega (arith, lb, width.ensures.all) in
    c.loop-g.invariant.done g k i (omega (arith, under, c.loop-g-test.false)) h l lb
    ∙ ap (λ n. on (get_or c.args.rows.now (72 * (c.args.d * n + g) + i) 0) k) width.ensures.words
