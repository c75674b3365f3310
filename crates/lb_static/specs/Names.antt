-- The rules of names and recursion, each a test (E4, E7).
-- Source: Lustre V6 reference manual, declarations and scope. What is reached, and that only that
-- is judged, is this project's rule.
use Rattle.std.specs.Prelude.{ℕ, zero, suc, Bool, true, ◌&&◌, ◌||◌, not, nat_eq, Option, is_some}
use Rattle.std.specs.Prelude.{List, [], ◌∷◌, ◌++◌, map, length, filter, flat_map}
use Rattle.std.specs.Str.{bytes_eq}
use Rattle.std.specs.List.{list_all, list_any}
use Rattle.lb_syntax.specs.Lists.{holds, listed}
use Rattle.lb_syntax.specs.Tree.{Name, Node, Constant}
use Rattle.lb_static.specs.Instances.{Program, Site, node_named, node_sites}
use Rattle.lb_static.specs.Parts.{among, left_names, node_names, static_names, node_static_names}
use Rattle.lb_static.specs.Parts.{clock_names, variable_names, declared_names}

abbrev pub are_distinct : List Name → Bool
are_distinct [] = true
are_distinct (x ∷ xs) = not (among x xs) && are_distinct xs

-- the first node calls or iterates the second
abbrev pub calls : Node → Node → Bool
calls n m = list_any (λ s. bytes_eq s.callee m.name) (node_sites n)

module _ (P : Program) where
  abbrev pub is_constant : Name → Bool
  is_constant x = among x (map (λ c. c.name) P.source.constants)

  -- ## The names of one node

  -- inputs, outputs, locals and static parameters are distinct
  abbrev pub declares_once : Node → Bool
  declares_once n = are_distinct (declared_names n)

  -- a called or iterated name is that of a node or function with as many static parameters
  abbrev pub is_callable : Site → Bool
  is_callable s =
      holds (λ callee. nat_eq (length s.arguments) (length callee.parameters))
      (node_named P s.callee)

  -- a name in an expression is a variable, a static parameter or a constant
  abbrev pub is_known : Node → Name → Bool
  is_known n x = among x (declared_names n) || is_constant x

  -- a name in a static expression is a static parameter or a constant, and no variable
  abbrev pub is_static_name : Node → Name → Bool
  is_static_name n x =
      not (among x (variable_names n)) && (among x n.parameters || is_constant x)

  -- a clock name or a left name is a variable
  abbrev pub is_variable : Node → Name → Bool
  is_variable n x = among x (variable_names n)

  -- every name of a node has a meaning
  abbrev pub is_named : Node → Bool
  is_named n =
      declares_once n
      && (list_all is_callable (node_sites n)
      && (list_all (is_known n) (node_names n)
      && (list_all (is_static_name n) (node_static_names n)
      && list_all (is_variable n) (clock_names n ++ flat_map left_names n.body))))

  -- ## What is reached by name

  -- the node under test, and the observer if there is one
  abbrev pub start_names : List Name
  start_names = P.root ∷ listed (λ o. o ∷ []) P.observer

  abbrev pub starts : List (Option Node)
  starts = map (node_named P) start_names

  -- the nodes reached from the starts by at most `k` calls
  abbrev pub reached_within : (Node → Bool) → ℕ → List Node
  reached_within start zero = filter start P.source.nodes
  reached_within start (suc k) =
      let before = reached_within start k in
      filter (λ m. start m || list_any (λ n. calls n m) before) P.source.nodes

  abbrev pub reached_nodes : List Node
  reached_nodes = reached_within (λ n. among n.name start_names) (length P.source.nodes)

  -- the names of constants in a node, except those that it hides
  abbrev pub named_constants : Node → List Name
  named_constants n =
      filter (λ x. not (among x (declared_names n))) (node_names n ++ node_static_names n)

  -- the constants reached from the names `xs` by at most `k` steps from a constant to one in its
  -- value
  abbrev pub constants_within : List Name → ℕ → List Constant
  constants_within xs zero = filter (λ c. among c.name xs) P.source.constants
  constants_within xs (suc k) =
      let before = constants_within xs k in
      filter (λ c. among c.name xs || list_any (λ d. among c.name (static_names d.value)) before)
      P.source.constants

  abbrev pub reached_constants : List Constant
  reached_constants =
      constants_within (flat_map named_constants reached_nodes) (length P.source.constants)

  -- ## E4: names

  -- constants, nodes and functions share one name space
  abbrev pub global_names : List Name
  global_names = map (λ c. c.name) P.source.constants ++ map (λ n. n.name) P.source.nodes

  abbrev pub keeps_names : Bool
  keeps_names =
      are_distinct global_names
      && (list_all is_some starts
      && (list_all is_named reached_nodes
      && list_all (λ c. list_all is_constant (static_names c.value)) reached_constants))

  -- ## E7: recursion

  -- a node reaches itself by one call or more
  abbrev pub is_recursive : Node → Bool
  is_recursive n =
      let reached = reached_within (calls n) (length P.source.nodes) in
      list_any (λ m. bytes_eq m.name n.name) reached

  abbrev pub is_well_founded : Bool
  is_well_founded = list_all (λ n. not (is_recursive n)) reached_nodes
