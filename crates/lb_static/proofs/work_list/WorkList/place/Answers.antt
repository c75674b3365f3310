-- A place that came up is a place of the list.
use Rattle.std.proofs.Common.{ap}
use Rattle.lb_static.proofs.WorkLists.{looked_up}
use Rattle.lb_static.proofs.work_list.WorkList.place.Goals as goal

pub returns-clause-within : goal.returns-clause-within
returns-clause-within c =
    looked_up c.self.inside.order.items c.deref.result.now c.self.inside.turns.items
    c.args.self.now.count c.args.turn c.get.result c.copied.result
    c.self.invariant c.deref.ensures.value (ap (λ v. v.count) c.self.view_is) c.get.ensures.lookup.3
    c.copied.ensures
