-- The nodes that the walk along the calls visits, in the order in which they come up.
-- This file says what data of the program mean; no definition of the language stands on it.
use Rattle.std.specs.Prelude.{◌≡◌, ◌<◌, ◌≤◌, ℕ, Bool, true, ◌&&◌, Option, Some, is_some}
use Rattle.std.specs.Prelude.{option_map, List, map, length, slice_get, All, Result, Ok, Err}
use Rattle.std.specs.List.{list_all}
use Rattle.lb_syntax.specs.Lists.{◌>>=◌}
use Rattle.lb_syntax.specs.Tree.{Name, Node, Source}
use Rattle.lb_static.specs.Instances.{Program, node_named}
use Rattle.lb_static.specs.Names.{calls, is_named, reached_nodes, start_names, starts}
use Rattle.lb_static.specs.Parts.{among}
use Rattle.lb_static.specs.CountedNames.{NameUse}
use Rattle.lb_static.specs.NameFaults.{alone, named_in, is_told, IsNameFault}
use Rattle.lb_static.specs.ReachedNodes.{IsReached}
use Rattle.lb_static.specs.ResolvedNodes.{IsResolved, node_of}
use Rattle.lb_static.specs.WorkLists.{AreReachable, Grows, is_visited, visited_after}
use Rattle.lb_static.specs.declared.error.StaticError.{StaticError}
use Rattle.lb_static.specs.declared.reachable.NodeId.{NodeId}
use Rattle.lb_static.specs.declared.reachable.Reached.{Reached}
use Rattle.lb_static.specs.declared.resolved.CallSite.{CallSite}
use Rattle.lb_static.specs.declared.resolved.ResolvedNode.{ResolvedNode}

-- the places of the nodes that some calls call
abbrev pub callees : List CallSite → List ℕ
callees sites = map (λ s. s.callee.0) sites

-- each call of a node calls a node that came up
abbrev pub are_called : List ℕ → ResolvedNode → Bool
are_called order r = list_all (λ s. is_visited order s.callee.0) r.calls.items

-- The nodes that came up, with their names resolved, in the order in which they came up; their
-- callees came up too. Each node that came up is reached by calls from a start, if that holds of
-- those before.
pub record AreResolved (s : Source) (before after : List ℕ) (nodes : List ResolvedNode)
    : Type 0 where
  pub resolved : All (IsResolved (map (λ n. n.name) s.nodes)) nodes
  pub named : list_all (λ r. named_in s (node_of r)) nodes ≡ true
  pub few : length nodes ≤ length after
  pub stands : (turn place : ℕ) → turn < length nodes → slice_get after turn ≡ Some place
      → slice_get (map node_of nodes) turn ≡ slice_get s.nodes place
  pub grows : Grows before after
  pub linked : list_all (are_called after) nodes ≡ true
  pub reachable : (start : Node → Bool) → AreReachable s.nodes start calls before
      → AreReachable s.nodes start calls after

-- ## The starts of the walk

-- The node with the name `name` came up, at turn `id`.
pub record IsStart (s : Source) (name : Name) (before after : List ℕ) (id : NodeId) : Type 0 where
  pub place : ℕ
  pub visited : after ≡ visited_after before place
  pub at : slice_get after id.0 ≡ Some place
  pub within : place < length s.nodes
  pub found : slice_get s.nodes place ≡ node_named (alone s) name

-- the node whose place came up at a turn
abbrev pub node_at : Source → List ℕ → NodeId → Option Node
node_at s order id = slice_get order id.0 >>= slice_get s.nodes

-- The node under test and the observer, if there is one, came up, and calls lead from these two to
-- each node that came up.
pub record AreStarts (P : Program) (order : List ℕ) (root : NodeId)
    (observer : Option NodeId) : Type 0 where
  pub there : list_all is_some (starts P) ≡ true
  pub reachable : AreReachable P.source.nodes (λ n. among n.name (start_names P)) calls order
  pub all : (place : ℕ) (n : Node) → slice_get P.source.nodes place ≡ Some n
      → among n.name (start_names P) ≡ true → is_visited order place ≡ true
  pub at_root : node_at P.source order root ≡ node_named P P.root
  pub came : (id : NodeId) → observer ≡ Some id → is_some (node_at P.source order id) ≡ true
  pub at_observer : (observer >>= node_at P.source order) ≡ (P.observer >>= node_named P)

-- the starts are there, and each name of a reached node has a meaning
abbrev pub are_named : Program → Bool
are_named P = list_all is_some (starts P) && list_all (is_named P) (reached_nodes P)

-- An answer of the walk: the reached nodes with their names resolved, and then the program passes
-- `test`; or an error with a name that fails `test_where`, where that name alone counts.
abbrev pub Reaches :
    (Program → Bool) → ((NameUse → Name → Bool) → Program → Bool) → Program
    → Result Reached StaticError → Type 0
Reaches test test_where P (Ok r) = (test P ≡ true) × IsReached P r
Reaches test test_where P (Err e) = IsNameFault e (test_where (is_told e) P)

-- for each place the id of its node, which is the turn at which it came up
abbrev pub ids_of : List (Option ℕ) → List (Option NodeId)
ids_of turns = map (option_map (λ turn. record { 0 = turn })) turns
