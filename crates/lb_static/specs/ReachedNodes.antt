-- The promise of the reached nodes of a program to the steps above.
-- This file says what data of the program mean; no definition of the language stands on it.
use Rattle.std.specs.Prelude.{◌≡◌, ◌<◌, ◌↔◌, Bool, true, Option, Some, List, map, length, slice_get}
use Rattle.std.specs.Prelude.{nat_lt, All}
use Rattle.std.specs.List.{list_all, Contains}
use Rattle.lb_syntax.specs.Lists.{◌>>=◌, holds}
use Rattle.lb_syntax.specs.Tree.{Name, Node}
use Rattle.lb_static.specs.Instances.{Program, node_named}
use Rattle.lb_static.specs.Names.{reached_nodes}
use Rattle.lb_static.specs.ResolvedNodes.{IsResolved, node_of}
use Rattle.lb_static.specs.declared.reachable.NodeId.{NodeId}
use Rattle.lb_static.specs.declared.reachable.Reached.{Reached}
use Rattle.lb_static.specs.declared.resolved.CallId.{CallId}
use Rattle.lb_static.specs.declared.resolved.CallSite.{CallSite}
use Rattle.lb_static.specs.declared.resolved.NodePlace.{NodePlace}
use Rattle.lb_static.specs.declared.resolved.ResolvedNode.{ResolvedNode}

-- the names of the nodes of a source
abbrev pub source_names : Program → List Name
source_names P = map (λ n. n.name) P.source.nodes

-- the trees of the reached nodes
abbrev pub trees : Reached → List Node
trees r = map node_of r.nodes.items

-- the tree of the reached node `id`
abbrev pub tree_at : Reached → NodeId → Option Node
tree_at r id = slice_get (trees r) id.0

-- the place of a node of the source among the reached nodes, if it is reached
abbrev pub id_at : Reached → NodePlace → Option NodeId
id_at r place = slice_get r.ids.items place.0 >>= λ id. id

-- the node that the call `c` of a node calls
abbrev pub callee_in : Reached → ResolvedNode → CallId → Option ResolvedNode
callee_in r n c =
    slice_get n.calls.items c.0 >>= λ site.
    id_at r site.callee >>= λ id.
    slice_get r.nodes.items id.0

-- the callee of a call is a reached node
abbrev pub is_linked : Reached → CallSite → Bool
is_linked r s = holds (λ id. nat_lt id.0 (length r.nodes.items)) (id_at r s.callee)

abbrev pub are_linked : Reached → ResolvedNode → Bool
are_linked r n = list_all (is_linked r) n.calls.items

pub record IsReached (P : Program) (r : Reached) : Type 0 where
  pub resolved : All (IsResolved (source_names P)) r.nodes.items
  pub same : (n : Node) → Contains (trees r) n ↔ Contains (reached_nodes P) n
  pub root : tree_at r r.root ≡ node_named P P.root
  pub root_within : r.root.0 < length r.nodes.items
  pub observer : (r.observer >>= tree_at r) ≡ (P.observer >>= node_named P)
  pub as_many : length r.ids.items ≡ length P.source.nodes
  pub found : (place : NodePlace) (id : NodeId) → id_at r place ≡ Some id →
      tree_at r id ≡ slice_get P.source.nodes place.0
  pub linked : list_all (are_linked r) r.nodes.items ≡ true
