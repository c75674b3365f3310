-- The numbers that are done stand before those that are left.
use Rattle.lb_static.specs.StaticValues.{natural}
use Rattle.lb_static.specs.StoredTypes.{naturals}
use Rattle.lb_static.proofs.Options.{one_more, one_missing, all_done}
use Rattle.lb_static.proofs.data_type.naturals.Goals as goal

pub loop-value-preserved : goal.loop-value-preserved
loop-value-preserved c =
    one_more natural c.args.values.now c.loop-value.value-index c.value-item.result
    c.in-Some.number c.loop-value.numbers.items c.push.new.self.items (naturals c.args.values.now)
    c.loop-value-test.true c.value-item.is c.in-Some.ensures c.in_ok-push-in-Some.ensures.items
    c.loop-value.invariant

pub returns-in-None : goal.returns-in-None
returns-in-None c =
    one_missing natural c.args.values.now c.loop-value.value-index c.value-item.result
    c.loop-value.numbers.items (naturals c.args.values.now)
    c.loop-value-test.true c.value-item.is c.in-None.ensures c.loop-value.invariant

pub returns : goal.returns
returns c =
    all_done natural c.args.values.now c.loop-value.value-index c.loop-value.numbers.items
    (naturals c.args.values.now) c.loop-value-test.false c.loop-value.invariant
