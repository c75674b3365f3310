-- The state of the search for a cycle while it runs.
-- This file says what data of the program mean; no definition of the language stands on it.
use Rattle.std.specs.Prelude.{◌≡◌, ◌<◌, ◌⊎◌, ◌+◌, ℕ, Option, Some, None, List, [], ◌∷◌, map, length}
use Rattle.std.specs.Prelude.{slice_get, nat_eq, if◌then◌else◌, Vec}
use Rattle.std.specs.declared.alloc.Global.{Global}
use Rattle.std.specs.List.{sum_by}
use Rattle.lb_syntax.specs.Lists.{In}
use Rattle.lb_static.specs.CallGraphs.{IsCycle, IsOrder, called}
use Rattle.lb_static.specs.declared.cycle.Visit.{Visit}
use Rattle.lb_static.specs.declared.cycle.Progress.{Progress}
use Rattle.lb_static.specs.declared.cycle.Progress.TheVariants.{Unseen, Open, Done}

abbrev pub IsAt : List Progress → ℕ → Progress → Type 0
IsAt progress i p = slice_get progress i ≡ Some p

-- the nodes that are done stand in an order (`IsOrder`)
abbrev pub AreDone : List (List ℕ) → List Progress → Type 0
AreDone graph progress =
    (order : List ℕ) × IsOrder graph order × ((i : ℕ) → IsAt progress i Done → In i order)

-- no node is open: each node that was begun is done
abbrev pub IsNoneOpen : List Progress → Type 0
IsNoneOpen progress = (i : ℕ) → IsAt progress i Open → ⊥

-- each node that was done stays done
abbrev pub Keeps : List Progress → List Progress → Type 0
Keeps before after = (i : ℕ) → IsAt before i Done → IsAt after i Done

-- between two searches: each node is unseen or done
pub record IsBetween (graph : List (List ℕ)) (progress : List Progress) : Type 0 where
  pub as_many : length progress ≡ length graph
  pub done : AreDone graph progress
  pub none_open : IsNoneOpen progress

-- a node on the path: each callee of it is left to be followed, done, or the next node on the path
pub record IsVisit (graph : List (List ℕ)) (progress : List Progress) (next : Option ℕ)
    (f : Visit) : Type 0 where
  pub within : f.node < length graph
  pub each : (j : ℕ) → In j (called graph f.node)
      → In j f.left.now ⊎ (IsAt progress j Done ⊎ (next ≡ Some j))
  pub left : (j : ℕ) → In j f.left.now → In j (called graph f.node)
  pub calls_next : (j : ℕ) → next ≡ Some j → In j (called graph f.node)

-- the path of a search, its end first
abbrev pub IsPath : List (List ℕ) → List Progress → Option ℕ → List Visit → Type 0
IsPath graph progress next [] = Unit {0}
IsPath graph progress next (f ∷ fs) =
    IsVisit graph progress next f × IsPath graph progress (Some f.node) fs

-- in a search, with the path, its end first: each open node stands on the path
pub record IsSearch (graph : List (List ℕ)) (progress : List Progress) (path : List Visit)
    : Type 0 where
  pub as_many : length progress ≡ length graph
  pub done : AreDone graph progress
  pub open_on_path : (i : ℕ) → IsAt progress i Open → In i (map (λ f. f.node) path)
  pub is_path : IsPath graph progress None path

-- in a search from a node: what was done before stays done, and this node was begun
pub record IsSearchFrom (graph : List (List ℕ)) (before : List Progress) (start : ℕ)
    (progress : List Progress) (path : List Visit) : Type 0 where
  pub searched : IsSearch graph progress path
  pub kept : Keeps before progress
  pub begun : IsAt progress start Open ⊎ IsAt progress start Done

-- a bound of the steps at the nodes that are not seen yet: for each node one, and one for each call
abbrev pub unseen : List Progress → List (List ℕ) → ℕ
unseen [] graph = 0
unseen (p ∷ progress) [] = 0
unseen (Unseen ∷ progress) (calls ∷ graph) = 1 + length calls + unseen progress graph
unseen (Open ∷ progress) (calls ∷ graph) = unseen progress graph
unseen (Done ∷ progress) (calls ∷ graph) = unseen progress graph

-- a bound of the steps left on the path: for each visit one, and one for each callee that is left
abbrev pub on_path : List Visit → ℕ
on_path path = sum_by (λ f. 1 + length f.left.now) path

-- the part of a list of places from the first that is `i` on
abbrev pub from_first : ℕ → List ℕ → List ℕ
from_first i [] = []
from_first i (k ∷ ks) = if nat_eq k i then k ∷ ks else from_first i ks

-- an answer of a search from a node: a cycle of calls; or none, and then the node is done, and what
-- was done before stays done
abbrev pub IsSearchAnswer :
    List (List ℕ) → List Progress → ℕ → List Progress → Option (Vec ℕ Global) → Type 0
IsSearchAnswer graph before start after (Some cycle) = IsCycle graph cycle.items
IsSearchAnswer graph before start after None =
    IsBetween graph after × Keeps before after × IsAt after start Done
