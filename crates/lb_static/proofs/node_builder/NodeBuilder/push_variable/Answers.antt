-- The progress with one more variable.
use Rattle.lb_static.proofs.Growth.{one_more_variable}
use Rattle.lb_static.proofs.node_builder.NodeBuilder.push_variable.Goals as goal

pub returns-clause-after : goal.returns-clause-after
returns-clause-after c =
    let here = c.args.self.now in
    one_more_variable here.node_scope here.statics.parts.items here.calls.items here.variables.items
    c.push.new.self.items c.args.variable c.in_ok-push.ensures.items
