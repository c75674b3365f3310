-- The nodes that are left are visited next.
use Rattle.std.proofs.Common.{ap, ◌∙◌}
use Rattle.std.specs.Prelude.{flat_map}
use Rattle.lb_static.specs.NamedConstants.{node_constants, part_constants}
use Rattle.lb_static.specs.WorkLists.{visited_after_all}
use Rattle.lb_static.proofs.ConstantPlaces.{visit_end, visit_item}
use Rattle.lb_static.proofs.constant_names.visit_nodes.Goals as goal

pub loop-node-preserved : goal.loop-node-preserved
loop-node-preserved c =
    let g = c.args.globals.now in
    let order = c.loop-node.work_list.order in
    let statics = c.node-item.result.statics.items in
    let hidden = c.deref-in-loop-node.result.now in
    let visited = c.in_ok-visit_parts.ensures.order
    ∙ ap (λ l. visited_after_all order (flat_map (part_constants g hidden) l)) c.deref.ensures.value
    ∙ ap (λ l. visited_after_all order (flat_map (part_constants g l) statics))
    c.deref-in-loop-node.ensures.value in
    record {
      count = c.in_ok-visit_parts.ensures.count ∙ c.loop-node.invariant.count;
      order =
          visit_item (node_constants g) order c.visit_parts.new.work_list.order _ c.args.nodes.now
          c.loop-node.node-index c.node-item.result c.loop-node-test.true
          (visited ∙ ap (λ n. visited_after_all order (node_constants g n)) c.node-item.is)
          c.loop-node.invariant.order;
    }

pub returns-clause-order : goal.returns-clause-order
returns-clause-order c =
    visit_end (node_constants c.args.globals.now) c.loop-node.work_list.order _ c.args.nodes.now
    c.loop-node.node-index c.loop-node-test.false c.loop-node.invariant.order
