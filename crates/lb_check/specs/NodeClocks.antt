-- The reached nodes that keep the rules of clocks, as the code finds them.
-- This file mirrors code (src/clock_rules.rt); no definition of the language stands on it.
use Rattle.std.specs.Prelude.{Bool, ◌&&◌, List, slice_get}
use Rattle.std.specs.List.{list_all}
use Rattle.lb_syntax.specs.Lists.{holds}
use Rattle.lb_static.specs.ResolvedNodes.{node_of}
use Rattle.lb_static.specs.declared.reachable.NodeId.{NodeId}
use Rattle.lb_static.specs.declared.reachable.Reached.{Reached}
use Rattle.lb_static.specs.declared.resolved.ResolvedNode.{ResolvedNode}
use Rattle.lb_static.specs.declared.table.Specialization.{Specialization}
use Rattle.lb_check.specs.ClockRules.{are_declared_clocks}
use Rattle.lb_check.specs.TermClocks.{is_body_clocked}

-- whether the declared clocks of a node keep the rules of clocks, and each statement does
abbrev pub is_node_clocked : Reached → ResolvedNode → Bool
is_node_clocked r n = are_declared_clocks (node_of n) && is_body_clocked r n

-- whether the reached node `id` keeps the rules of clocks
abbrev pub is_clocked_at : Reached → NodeId → Bool
is_clocked_at r id = holds (is_node_clocked r) (slice_get r.nodes.items id.0)

-- whether the node of each specialization of a list keeps the rules of clocks
abbrev pub are_clocked_at : Reached → List Specialization → Bool
are_clocked_at r ss = list_all (λ s. is_clocked_at r s.node) ss
