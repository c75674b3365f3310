use Rattle.lb_static.proofs.Lookups.{looked_up}
use Rattle.lb_check.proofs.nodes.node_at.Goals as goal

pub returns : goal.returns
returns c =
    looked_up c.get.result c.deref.result.now c.args.reached.now.nodes.items c.args.id.0
    c.deref.ensures.value c.get.ensures.lookup.3
