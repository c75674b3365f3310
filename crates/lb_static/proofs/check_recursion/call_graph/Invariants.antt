use Rattle.std.proofs.Common.{◌≡◌, ◌++◌, map, drop}
use Rattle.lb_static.specs.CallGraphs.{callees_of, graph_of}
use Rattle.lb_static.proofs.check_recursion.call_graph.Given as goal

abbrev pub invariant-loop-node : goal.invariant-loop-node
invariant-loop-node l =
    map (λ v. v.items) l.graph.items
    ++ map (λ n. callees_of l.reached n.calls.items) (drop l.node-index l.node-items)
    ≡ graph_of l.reached
