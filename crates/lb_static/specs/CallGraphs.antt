-- The calls between the reached nodes. A node is known by its place in the list of them.
-- This file says what data of the program mean; no definition of the language stands on it.
use Rattle.std.specs.Prelude.{◌≡◌, ◌<◌, ℕ, true, false, Option, Some, None, Result, Ok, Err, List}
use Rattle.std.specs.Prelude.{[], ◌∷◌, map, length, slice_get, nat_lt, if◌then◌else◌, string_bytes}
use Rattle.std.specs.Prelude.{option_map, Vec}
use Rattle.std.specs.declared.alloc.Global.{Global}
use Rattle.std.specs.List.{filter_map}
use Rattle.lb_syntax.specs.Lists.{◌>>=◌, either_or, In}
use Rattle.lb_syntax.specs.Tree.{Name, Node}
use Rattle.lb_static.specs.Instances.{Program}
use Rattle.lb_static.specs.Names.{calls, is_well_founded, reached_nodes}
use Rattle.lb_static.specs.ReachedNodes.{id_at, trees}
use Rattle.lb_static.specs.declared.error.StaticError.{StaticError}
use Rattle.lb_static.specs.declared.error.StaticError.TheVariants as error
use Rattle.lb_static.specs.declared.causes.CallCycle.{CallCycle}
use Rattle.lb_static.specs.declared.reachable.Reached.{Reached}
use Rattle.lb_static.specs.declared.resolved.CallSite.{CallSite}

-- ## Graphs of calls: for each node, in order, the nodes that it calls

abbrev pub called : List (List ℕ) → ℕ → List ℕ
called graph i = either_or (slice_get graph i) []

-- each call leads to a node
abbrev pub AreWithin : List (List ℕ) → Type 0
AreWithin graph = (i j : ℕ) → In j (called graph i) → j < length graph

-- a chain of calls from `i` to `j`: each of `i`, the nodes of the list and `j` calls the next one
abbrev pub Leads : List (List ℕ) → ℕ → List ℕ → ℕ → Type 0
Leads graph i [] j = In j (called graph i)
Leads graph i (k ∷ ks) j = In k (called graph i) × Leads graph k ks j

-- node `i` reaches itself by one call or more
abbrev pub IsOnCycle : List (List ℕ) → ℕ → Type 0
IsOnCycle graph i = (ks : List ℕ) × Leads graph i ks i

-- a list of nodes in which each node calls only nodes that stand after it
abbrev pub IsOrder : List (List ℕ) → List ℕ → Type 0
IsOrder graph [] = Unit {0}
IsOrder graph (i ∷ rest) =
    ((j : ℕ) → In j (called graph i) → In j rest) × IsOrder graph rest

-- all nodes stand in an order (`IsOrder`); so no node reaches itself
abbrev pub IsOrdered : List (List ℕ) → Type 0
IsOrdered graph =
    (order : List ℕ) × IsOrder graph order × ((i : ℕ) → i < length graph → In i order)

-- a list of nodes in which each node calls the next one, and the last calls the first
abbrev pub IsCycle : List (List ℕ) → List ℕ → Type 0
IsCycle graph [] = ⊥
IsCycle graph (i ∷ ks) = (i < length graph) × Leads graph i ks i

-- an answer of the search: a cycle of calls, or none, and then the nodes stand in an order
abbrev pub IsCycleAnswer : List (List ℕ) → Option (Vec ℕ Global) → Type 0
IsCycleAnswer graph None = IsOrdered graph
IsCycleAnswer graph (Some cycle) = IsCycle graph cycle.items

-- ## The graph of the nodes that are reached

-- the place of the callee of a call, if it is a reached node
abbrev pub callee_of : Reached → CallSite → Option ℕ
callee_of r s =
    id_at r s.callee >>= λ id.
    if nat_lt id.0 (length r.nodes.items) then Some id.0 else None

abbrev pub callees_of : Reached → List CallSite → List ℕ
callees_of r sites = filter_map (callee_of r) sites

abbrev pub graph_of : Reached → List (List ℕ)
graph_of r = map (λ n. callees_of r n.calls.items) r.nodes.items

-- ## Whether a program is well founded

abbrev pub IsCallsAnswer : Program → Result (Unit {0}) StaticError → Type 0
IsCallsAnswer P (Ok done) = is_well_founded P ≡ true
IsCallsAnswer P (Err error.Memory) = Unit {0}
IsCallsAnswer P (Err (error.Name x)) = ⊥
IsCallsAnswer P (Err (error.Recursion x)) = is_well_founded P ≡ false
IsCallsAnswer P (Err (error.Root x)) = ⊥
IsCallsAnswer P (Err (error.Value x)) = ⊥
IsCallsAnswer P (Err (error.Range x)) = ⊥
IsCallsAnswer P (Err (error.Instances x)) = ⊥

-- ## The cycle of a refusal

-- the names on a cycle of calls
abbrev pub names_on : CallCycle → List Name
names_on c = map (λ call. string_bytes call.node) c.calls.items

-- the name of the node at a place
abbrev pub name_in : Reached → ℕ → Name
name_in r i = either_or (option_map (λ n. n.name) (slice_get (trees r) i)) []

abbrev pub names_at : Reached → List ℕ → List Name
names_at r places = map (name_in r) places

-- a chain of calls from `n` to `m`: each of `n`, the nodes of the list and `m` calls the next one
abbrev pub CallsAlong : Node → List Node → Node → Type 0
CallsAlong n [] m = calls n m ≡ true
CallsAlong n (k ∷ ks) m = (calls n k ≡ true) × CallsAlong k ks m

-- a cycle of reached nodes with these names: each node calls the next one, and the last the first
pub record IsCallCycle (P : Program) (names : List Name) : Type 0 where
  pub first : Node
  pub rest : List Node
  pub named : map (λ n. n.name) (first ∷ rest) ≡ names
  pub reached : (n : Node) → In n (first ∷ rest) → In n (reached_nodes P)
  pub calls_along : CallsAlong first rest first

-- a refusal for recursion holds a cycle of calls
abbrev pub IsCycleTold : Program → Result (Unit {0}) StaticError → Type 0
IsCycleTold P (Ok done) = Unit {0}
IsCycleTold P (Err error.Memory) = Unit {0}
IsCycleTold P (Err (error.Name x)) = Unit {0}
IsCycleTold P (Err (error.Recursion x)) = IsCallCycle P (names_on x.value)
IsCycleTold P (Err (error.Root x)) = Unit {0}
IsCycleTold P (Err (error.Value x)) = Unit {0}
IsCycleTold P (Err (error.Range x)) = Unit {0}
IsCycleTold P (Err (error.Instances x)) = Unit {0}
