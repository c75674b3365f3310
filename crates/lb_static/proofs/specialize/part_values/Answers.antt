-- The values that are done stand before those that are left.
use Rattle.lb_static.specs.Specialized.{given_by, part_value, part_values}
use Rattle.lb_static.proofs.Options.{one_more, one_missing, all_done}
use Rattle.lb_static.proofs.specialize.part_values.Goals as goal

pub loop-part-preserved : goal.loop-part-preserved
loop-part-preserved c =
    let given = given_by c.args.values.now in
    one_more (part_value given) c.args.parts.now c.loop-part.part-index c.part-item.result
    c.in-Some.value c.loop-part.all.items c.push.new.self.items
    (part_values given c.args.parts.now)
    c.loop-part-test.true c.part-item.is c.in-Some.ensures c.in_ok-push-in-Some.ensures.items
    c.loop-part.invariant

pub returns-in-None : goal.returns-in-None
returns-in-None c =
    let given = given_by c.args.values.now in
    one_missing (part_value given) c.args.parts.now c.loop-part.part-index c.part-item.result
    c.loop-part.all.items (part_values given c.args.parts.now)
    c.loop-part-test.true c.part-item.is c.in-None.ensures c.loop-part.invariant

pub returns : goal.returns
returns c =
    let given = given_by c.args.values.now in
    all_done (part_value given) c.args.parts.now c.loop-part.part-index c.loop-part.all.items
    (part_values given c.args.parts.now) c.loop-part-test.false c.loop-part.invariant
