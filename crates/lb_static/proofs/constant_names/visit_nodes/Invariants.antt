use Rattle.std.proofs.Common.{◌≡◌, drop}
use Rattle.std.specs.Prelude.{flat_map}
use Rattle.lb_static.specs.NamedConstants.{node_constants}
use Rattle.lb_static.specs.WorkLists.{visited_after_all}
use Rattle.lb_static.proofs.constant_names.visit_nodes.Given as goal

abbrev pub invariant-loop-node : goal.invariant-loop-node
invariant-loop-node l = record {
  count : l.work_list.count ≡ l.initial.work_list.count;
  order : visited_after_all l.work_list.order
      (flat_map (node_constants l.globals) (drop l.node-index l.nodes))
      ≡ visited_after_all l.initial.work_list.order (flat_map (node_constants l.globals) l.nodes);
}
