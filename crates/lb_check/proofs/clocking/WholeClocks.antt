-- The rules of clocks of a whole program, and the clocks that break them.
use Rattle.lb_check.proofs.Words
use Words.{Bool, CallId, Child, Declaration, HasClocks, Instance, IsCircle, IsDeclaredClock}
use Words.{IsIllClocked, IsJudged, IsReached, IsResolved, List, Name, Node, NodeId, None, Option}
use Words.{Part, Program, Reached, ResolvedNode, ResolvedStatement, Root, SeesClocks, Site, Some}
use Words.{Specialization, Table, Variable, [], all_at, all_some, and-false, and_first, ap}
use Words.{append_assoc, ap₂, are_declared_clocks, are_distinct, arith, at_place, bind_some}
use Words.{both_ways, callee_in, callee_of, context_of, counts_of, declaration_of, drop, false}
use Words.{find, first_broken, get_or_from_slice_get, holds, id_at, if◌then◌else◌, instance_of}
use Words.{instances, is_body_clocked, is_call, is_clocked, is_clocked_at, is_clocked_by}
use Words.{is_part_clocked, is_resolved_statement_clocked, is_some, is_statement_single}
use Words.{is_statement_unhidden, is_typed, item_at, keeps_names, le-ltb, length, length-append}
use Words.{list_all, lt-ltb, map, nat_lt, node_named, node_of, node_sites, not, option_map, refl}
use Words.{same_Some, slice_get, slice_get-map, slice_get_within, source_names, static_value}
use Words.{statics_of, subst, suc, sym, take, texts_of, tree_at, trees, true, variable_clock}
use Words.{variable_names, variables, waits_below, ℕ, ◌&&◌, ◌++◌, ◌+◌, ◌-◌, ◌<◌, ◌>>=◌, ◌∙◌, ◌∷◌}
use Words.{◌≡◌, ◌≤◌}
use Rattle.lb_check.proofs.clocking.{ClockDepths.first_names, StatementClockSets.node_clocked}
use Rattle.lb_check.proofs.clocking.StatementClockSets.{statement_broken}
use Rattle.lb_check.proofs.definitions.{BrokenRules.{find_mapped, not_all}, NodePlaces.callee_found}
use Rattle.lb_check.proofs.definitions.NodePlaces.{distinct_variables, node_resolved, site_found}
use Rattle.lb_check.proofs.lists.ListPairs.{all_pass, fails_at, fails_there, found_item}
use Rattle.lb_check.proofs.lists.ListPairs.{get_dropped, get_taken, not_all_pass}
use Rattle.lb_check.proofs.typing.FittedTypes.{node_at, specialized_instance}
use Rattle.lb_check.proofs.typing.SingleCalls.{single_statements}
use Rattle.lb_check.proofs.typing.Specializations.{all_specializations}
use Rattle.lb_check.proofs.typing.TypedSpecializations.{instances_typed}
use Rattle.lb_check.specs.{BrokenParts.{awaitable, is_declared_clock}, FoundParts.IsClockedPart}
use Rattle.lb_check.specs.{FoundParts.{IsPartIllClocked, broken_part}, NodeClocks.are_clocked_at}
use Rattle.lb_check.specs.{NodeClocks.is_node_clocked, declared.part.IllFormed.IllFormed}
use Rattle.std.proofs.lemmas.{Bool.and_left, Option.slice_get_past}
use Rattle.lb_check.specs.declared.part.Part.TheVariants as part
use Rattle.lb_check.proofs.clocking.ClockDepths as clocked

-- A reached node keeps the rules of clocks where its declared clocks and its statements do.

-- ## A reached node

module _ (P : Program) (r : Reached) (names : keeps_names P ≡ true) (reached : IsReached P r)
    (k : ℕ) (n : ResolvedNode)
    (at : slice_get r.nodes.items k ≡ Some n) where
  pub resolved_at : IsResolved (source_names P) n
  resolved_at = node_resolved P r names reached k n at

  pub distinct_at : are_distinct (variable_names (node_of n)) ≡ true
  distinct_at =
      let tree : slice_get (trees r) k ≡ Some (node_of n) = slice_get-map node_of r.nodes.items k
      ∙ ap (option_map node_of) at in
      let lt = slice_get_within (trees r) k (node_of n) tree in
      distinct_variables P names (node_of n)
      ((reached.same (node_of n)).0
      (k, lt, get_or_from_slice_get (trees r) k (node_of n) (node_of n) tree))

  pub clocks_at : are_declared_clocks (node_of n) ≡ true → HasClocks n
  clocks_at kept = record {
    nodes = source_names P;
    resolved = resolved_at;
    distinct = distinct_at;
    declared = kept;
  }

-- the answer of the code on a reached node
module _ (r : Reached) (id : NodeId) (n : ResolvedNode)
    (at : slice_get r.nodes.items id.0 ≡ Some n) where
  abbrev kept : ResolvedStatement → Bool
  kept = is_resolved_statement_clocked (context_of r n)

  both : is_clocked_at r id ≡ (are_declared_clocks (node_of n) && is_body_clocked r n)
  both = ap (holds (is_node_clocked r)) at

  here : (p : Part) → IsPartIllClocked r n p → (m : ResolvedNode) →
      slice_get r.nodes.items id.0 ≡ Some m → IsPartIllClocked r m p
  here p e m is =
      let one : Some n ≡ Some m = sym at ∙ is in
      let same : n ≡ m = cc in
      subst (λ (m : ResolvedNode). IsPartIllClocked r m p) same e

  declared_found : (i : ℕ) → IsDeclaredClock (node_of n) (Some i) →
      IsIllClocked r id (part.Variable (record { 0 = i }))
  declared_found i e = (
    both ∙ ap (λ b. b && is_body_clocked r n) e.0,
    here (part.Variable (record { 0 = i })) e.1,
  )

  statement_found : (j : ℕ) → are_declared_clocks (node_of n) ≡ true →
      first_broken (is_resolved_statement_clocked (context_of r n)) n.body.items ≡ Some j
      → IsIllClocked r id (part.Statement j)
  statement_found j declared e = (
    both ∙ ap (λ b. are_declared_clocks (node_of n) && b)
        (not_all_pass kept n.body.items j e)
        ∙ and-false (are_declared_clocks (node_of n)),
    here (part.Statement j) (declared, fails_there kept n.body.items j e),
  )

  all_clocked : are_declared_clocks (node_of n) ≡ true →
      first_broken (is_resolved_statement_clocked (context_of r n)) n.body.items ≡ None
      → is_clocked_at r id ≡ true
  all_clocked declared e = both ∙ ap (λ b. b && is_body_clocked r n) declared
      ∙ all_pass kept n.body.items e

  pub part_found : (declared statement : Option ℕ) → IsDeclaredClock (node_of n) declared →
      statement ≡ first_broken (is_resolved_statement_clocked (context_of r n)) n.body.items →
      IsClockedPart r id (broken_part declared statement)
  part_found (Some i) statement d e = declared_found i d
  part_found None (Some j) d e = statement_found j d (sym e)
  part_found None None d e = all_clocked d (sym e)

-- a node that is not reached breaks the rules of clocks, in each part
pub none_clocked : (r : Reached) (id : NodeId) (p : Part) → length r.nodes.items ≤ id.0 →
    IsIllClocked r id p
none_clocked r id p le =
    let past = slice_get_past r.nodes.items id.0 le in (
      ap (holds (is_node_clocked r)) past,
      λ n at. absurd (let no = sym past ∙ at in cc),
    )

-- A declared clock that the code finds to break the rules breaks them.

-- ## A node

module _ (nodes : List Name) (r : ResolvedNode) (e : IsResolved nodes r)
    (distinct : are_distinct (variable_names (node_of r)) ≡ true) where
  abbrev node : Node
  node = node_of r

  abbrev names : List Name
  names = variable_names (node_of r)

  abbrev vs : List Variable
  vs = r.variables.items

  many : length r.variables.items ≡ length (variable_names (node_of r))
  many = clocked.as_many_names nodes r e distinct

  abbrev Fails : ℕ → Type 0
  Fails i = at_place (is_declared_clock (node_of r) i) (variables (node_of r)) i ≡ false

  -- a variable, by its place, whose declaration stands at this place
  abbrev IsAt : ℕ → Variable → Type 0
  IsAt i v =
      (x : Name) × (slice_get (variable_names (node_of r)) i ≡ Some x)
      × (slice_get (variables (node_of r)) i ≡ Some
      (declaration_of (variable_names (node_of r)) (statics_of r) x v))

  declared_at : (i : ℕ) (v : Variable) → slice_get r.variables.items i ≡ Some v → IsAt i v
  declared_at i v at =
      let lt = slice_get_within vs i v at in
      let x = item_at names i (omega (arith, many, lt)) in (
        x.0,
        x.1,
        clocked.at_place names (statics_of r) vs (variables node) e.declared many refl distinct
            (clocked.are_awaited nodes r e) i x.0 v x.1 at,
      )

  -- a variable fails that waits for none of the first `k`, where it may wait for these alone
  waits_past : (k i : ℕ) (allowed : List Declaration) (v : Variable) →
      slice_get r.variables.items i ≡ Some v
      → map (λ d. d.name) allowed ≡ take k (variable_names (node_of r)) →
      awaitable (node_of r) i ≡ allowed → waits_below k v ≡ false → Fails i
  waits_past k i allowed v at firsts may past =
      let d = declared_at i v at in
      let decl = declaration_of names (statics_of r) d.0 v in
      let no = clocked.clocked_one names (statics_of r) vs (variables node) e.declared many refl
      distinct (clocked.are_awaited nodes r e) k allowed d.0 v v.clock refl firsts
      (all_at (waits_below (length names)) vs i v (clocked.within_names nodes r e distinct) at)
      ∙ past in
      fails_at (is_declared_clock node i) (variables node) i decl d.2
      (ap (λ ds. is_clocked_by ds decl && is_some (variable_clock node decl.name)) may
      ∙ ap (λ b. b && is_some (variable_clock node decl.name)) no)

  abbrev either : Bool → Bool → List Declaration
  either is_input is_output =
      if is_input then (node_of r).inputs else
      (if is_output then (node_of r).inputs ++ (node_of r).outputs else variables (node_of r))

  input_names : map (λ d. d.name) (node_of r).inputs ≡ take r.inputs (variable_names (node_of r))
  input_names = sym (first_names node.inputs (node.outputs ++ node.locals))
      ∙ ap (λ k. take k names) (sym e.inputs)

  -- the first input that waits for none of the inputs breaks the rules
  pub input_broken : (ls : List Variable) (i : ℕ) → ls ≡ r.variables.items →
      first_broken (waits_below r.inputs) (take r.inputs ls) ≡ Some i
      → IsDeclaredClock (node_of r) (Some i)
  input_broken ls i same found =
      let here : first_broken (waits_below r.inputs) (take r.inputs vs) ≡ Some i =
      ap (λ l. first_broken (waits_below r.inputs) (take r.inputs l)) (sym same) ∙ found in
      let v = found_item (waits_below r.inputs) (take r.inputs vs) i here in
      let at = get_taken r.inputs vs i v.0 v.1 in
      let below = at.1 in
      let count = e.inputs in
      let less : i < length node.inputs = omega (arith, below, count) in (
        clocked.inputs_refused nodes r e distinct
            (not_all_pass (waits_below r.inputs) (take r.inputs vs) i here),
        waits_past r.inputs i node.inputs v.0 at.0 input_names
            (ap (λ b. either b (nat_lt i (length node.inputs + length node.outputs)))
            (lt-ltb i (length node.inputs) less)) v.2,
      )

  output_names : map (λ d. d.name) ((node_of r).inputs ++ (node_of r).outputs)
      ≡ take (r.inputs + r.outputs) (variable_names (node_of r))
  output_names =
      let allowed = node.inputs ++ node.outputs in
      let count : length node.inputs + length node.outputs ≡ r.inputs + r.outputs =
      omega (arith, e.inputs, e.outputs) in
      sym (first_names allowed node.locals)
      ∙ ap (λ l. take (length allowed) (map (λ d. d.name) l))
      (append_assoc node.inputs node.outputs node.locals)
      ∙ ap (λ m. take m names) (length-append node.inputs node.outputs ∙ count)

  -- the first output that waits for none of the inputs and outputs breaks the rules
  pub output_broken : (ls : List Variable) (i : ℕ) → ls ≡ r.variables.items →
      first_broken (waits_below (r.inputs + r.outputs))
      (take (r.inputs + r.outputs - r.inputs) (drop r.inputs ls)) ≡ Some i
      → IsDeclaredClock (node_of r) (Some (r.inputs + i))
  output_broken ls i same found =
      let k = r.inputs + r.outputs in
      let rest : r.inputs + r.outputs - r.inputs ≡ r.outputs = omega arith in
      let here : first_broken (waits_below k) (take r.outputs (drop r.inputs vs)) ≡ Some i =
      ap (λ m. first_broken (waits_below k) (take m (drop r.inputs vs))) (sym rest)
      ∙ ap (λ l. first_broken (waits_below k) (take (k - r.inputs) (drop r.inputs l))) (sym same)
      ∙ found in
      let v = found_item (waits_below k) (take r.outputs (drop r.inputs vs)) i here in
      let at = get_taken r.outputs (drop r.inputs vs) i v.0 v.1 in
      let below = at.1 in
      let inputs = e.inputs in
      let outputs = e.outputs in
      let past : length node.inputs ≤ r.inputs + i = omega (arith, inputs) in
      let less : r.inputs + i < length node.inputs + length node.outputs =
      omega (arith, below, inputs, outputs) in (
        clocked.outputs_refused nodes r e distinct
            (not_all_pass (waits_below k) (take r.outputs (drop r.inputs vs)) i here),
        waits_past k (r.inputs + i) (node.inputs ++ node.outputs) v.0
            (sym (get_dropped r.inputs vs i) ∙ at.0) output_names
            (ap (λ b. either b (nat_lt (r.inputs + i) (length node.inputs + length node.outputs)))
            (le-ltb (r.inputs + i) (length node.inputs) past)
            ∙ ap (either false)
            (lt-ltb (r.inputs + i) (length node.inputs + length node.outputs) less)) v.2,
      )

  -- a declared clock that runs in a circle breaks the rules
  circle_broken : (i : ℕ) → IsCircle r.variables.items (Some i) →
      IsDeclaredClock (node_of r) (Some i)
  circle_broken i circle =
      let v = item_at vs i circle.0 in
      let d = declared_at i v.0 v.1 in
      let decl = declaration_of names (statics_of r) d.0 v.0 in
      let none = clocked.place_some nodes r e distinct i d.0 circle.0 d.1
      ∙ ap is_some circle.1 in (
        clocked.circle_refused nodes r e distinct i d.0 d.1 none,
        fails_at (is_declared_clock node i) (variables node) i decl d.2
            (ap (λ b. is_clocked_by (awaitable node i) decl && b) none
            ∙ and-false (is_clocked_by (awaitable node i) decl)),
      )

  -- the answer about circles is right, where inputs and outputs wait for variables that they may
  pub circle_found : (o : Option ℕ) (ls ms ns : List Variable) → ls ≡ r.variables.items →
      ms ≡ r.variables.items → ns ≡ r.variables.items
      → first_broken (waits_below r.inputs) (take r.inputs ls) ≡ None →
      first_broken (waits_below (r.inputs + r.outputs))
      (take (r.inputs + r.outputs - r.inputs) (drop r.inputs ms)) ≡ None
      → IsCircle ns o → IsDeclaredClock (node_of r) o
  circle_found (Some i) ls ms ns as_ls as_ms as_ns inputs outputs circle =
      circle_broken i (subst (λ l. IsCircle l (Some i)) as_ns circle)
  circle_found None ls ms ns as_ls as_ms as_ns inputs outputs circle =
      let k = r.inputs + r.outputs in
      let rest : r.inputs + r.outputs - r.inputs ≡ r.outputs = omega arith in
      clocked.clocks_accepted nodes r e distinct
      (all_pass (waits_below r.inputs) (take r.inputs vs)
      (ap (λ l. first_broken (waits_below r.inputs) (take r.inputs l)) (sym as_ls) ∙ inputs))
      (all_pass (waits_below k) (take r.outputs (drop r.inputs vs))
      (ap (λ m. first_broken (waits_below k) (take m (drop r.inputs vs))) (sym rest)
      ∙ ap (λ l. first_broken (waits_below k) (take (k - r.inputs) (drop r.inputs l))) (sym as_ms)
      ∙ outputs))
      (subst (λ l. IsCircle l None) as_ns circle)

-- A program keeps the rules of clocks exactly where the code finds it of its specializations'
-- nodes.

-- two tests that agree at each place of a list agree on the list
same_all : {A : Type 0} (f g : A → Bool) (xs : List A) →
    ((i : ℕ) (x : A) → slice_get xs i ≡ Some x → f x ≡ g x) → list_all f xs ≡ list_all g xs
same_all f g [] each = refl
same_all f g (x ∷ xs) each =
    ap₂ (λ b c. b && c) (each 0 x refl) (same_all f g xs (λ i y e. each (suc i) y e))

still_below : (a b c : ℕ) → a < b → b < c → a < c
still_below a b c low high = omega arith

module _ (P : Program) (r : Reached) (t : Table) (j : IsJudged P r t) where
  -- ## The callees of a node

  -- the node of a specialization keeps the rules of declared clocks
  abbrev IsDeclared : Specialization → Type 0
  IsDeclared s = (n : ResolvedNode) → slice_get r.nodes.items s.node.0 ≡ Some n →
      are_declared_clocks (node_of n) ≡ true

  -- the node of each specialization before place `m` keeps the rules of declared clocks
  abbrev AreDeclared : ℕ → Type 0
  AreDeclared m = (i : ℕ) (s : Specialization) → i < m →
      slice_get t.specializations.items i ≡ Some s → IsDeclared s

  abbrev AllDeclared : Type 0
  AllDeclared = (i : ℕ) (s : Specialization) → slice_get t.specializations.items i ≡ Some s →
      IsDeclared s

  -- the node of an instance of a call is the one with the name of its site
  called_node : (here : Instance) (site : Site) (c index : ℕ) (there : Instance) →
      callee_of P here site c index ≡ Some there → node_named P site.callee ≡ Some there.node
  called_node here site c index there e =
      let n = bind_some (node_named P site.callee) _ there e in
      let values = bind_some (all_some (map (static_value P here) site.arguments)) _ there n.2 in
      n.1 ∙ ap (option_map (λ (i : Instance). i.node)) values.2

  -- the callee of a call keeps the rules of declared clocks, where earlier specializations do
  callee_clocks : (i : ℕ) → AreDeclared i → (s : Specialization) →
      slice_get t.specializations.items i ≡ Some s
      → (n : ResolvedNode) → slice_get r.nodes.items s.node.0 ≡ Some n →
      (c : CallId) (m : ResolvedNode) → callee_in r n c ≡ Some m → HasClocks m
  callee_clocks i all s is n at c m e =
      let called_site = bind_some (slice_get n.calls.items c.0)
      (λ site. id_at r site.callee >>= λ id. slice_get r.nodes.items id.0) m e in
      let place = bind_some (id_at r called_site.0.callee)
      (λ id. slice_get r.nodes.items id.0) m called_site.2 in
      let is_there = slice_get_within n.calls.items c.0 called_site.0 called_site.1 in
      let in_node : is_call (counts_of n) c ≡ true = lt-ltb c.0 (length n.calls.items) is_there in
      let here_site = site_found P r j.names j.reached s.node.0 n at c in_node in
      let found = callee_found P r j.names j.reached s.node.0 n at c in_node in
      let site = here_site.0 in
      let site_is = here_site.1 in
      let sp = j.table.specialized i s is in
      let root = instance_of Root (node_of n) s.values.items in
      let root_is = specialized_instance P r t j.reached j.table s n Root at in
      let as_many = sp.0.as_many root root_is in
      let here_lt = slice_get_within (node_sites (node_of n)) c.0 site site_is in
      let called = subst (λ k. c.0 < k) (sym as_many) here_lt in
      let id = item_at s.callees.items c.0 called in
      let before = sp.1 id.0 (c.0, called, get_or_from_slice_get s.callees.items c.0 id.0 id.0 id.1)
      in
      let last = slice_get_within t.specializations.items i s is in
      let there = still_below id.0.0 i (length t.specializations.items) before last in
      let callee = item_at t.specializations.items id.0.0 there in
      let callee_sp = j.table.specialized id.0.0 callee.0 callee.1 in
      let callee_n = node_at P r t j.reached j.table callee.0 callee_sp.0 in
      let below = Child Root c.0 0 in
      let same = sp.0.callees root root_is c.0 site site_is id.0 id.1 callee.0 callee.1
      ∙ specialized_instance P r t j.reached j.table callee.0 callee_n.0 below callee_n.1 in
      let by_table : node_named P site.callee ≡ Some (node_of callee_n.0) =
      called_node root site c.0 0 (instance_of below (node_of callee_n.0) callee.0.values.items)
      same in
      let callee_is : found.0 ≡ m = same_Some found.0 m (sym found.1 ∙ e) in
      let by_name : node_named P site.callee ≡ Some (node_of m) =
      ap (λ s. node_named P s.callee) (sym here_site.2) ∙ found.2
      ∙ ap (λ m. Some (node_of m)) callee_is in
      let one : Some (node_of callee_n.0) ≡ Some (node_of m) = sym by_table ∙ by_name in
      let tree = same_Some (node_of callee_n.0) (node_of m) one in
      clocks_at P r j.names j.reached place.0.0 m place.2
      (subst (λ k. are_declared_clocks k ≡ true) tree
      (all id.0.0 callee.0 before callee.1 callee_n.0 callee_n.1))

  -- ## Each specialization

  sees : (i : ℕ) → AreDeclared i → (s : Specialization) →
      slice_get t.specializations.items i ≡ Some s
      → (n : ResolvedNode) → slice_get r.nodes.items s.node.0 ≡ Some n →
      are_declared_clocks (node_of n) ≡ true → SeesClocks P r n
  sees i all s is n at own = record {
    names = j.names;
    reached = j.reached;
    place = s.node.0;
    at = at;
    own = clocks_at P r j.names j.reached s.node.0 n at own;
    callees = callee_clocks i all s is n at;
  }

  abbrev by_tree : Specialization → Bool
  by_tree s = holds (is_clocked P) (tree_at r s.node)

  tree_of : (s : Specialization) (n : ResolvedNode) → slice_get r.nodes.items s.node.0 ≡ Some n →
      tree_at r s.node ≡ Some (node_of n)
  tree_of s n at = slice_get-map node_of r.nodes.items s.node.0 ∙ ap (option_map node_of) at

  -- a node that keeps the rules of clocks keeps the rules of declared clocks
  is_declared : (s : Specialization) → is_clocked_at r s.node ≡ true → IsDeclared s
  is_declared s kept n at = and_first _ (is_body_clocked r n)
      (sym (ap (holds (is_node_clocked r)) at) ∙ kept)

  from_code : are_clocked_at r t.specializations.items ≡ true → AllDeclared
  from_code all i s is = is_declared s
      (all_at (λ s. is_clocked_at r s.node) t.specializations.items i s all is)

  from_trees : list_all by_tree t.specializations.items ≡ true → AllDeclared
  from_trees all i s is n at =
      and_first (are_declared_clocks (node_of n)) _
      (sym (ap (holds (is_clocked P)) (tree_of s n at))
      ∙ all_at by_tree t.specializations.items i s all is)

  module _ (typed : list_all (is_typed P) (instances P) ≡ true) where
    one_is : (i : ℕ) → AreDeclared i → (s : Specialization) →
        slice_get t.specializations.items i ≡ Some s → IsDeclared s
        → is_clocked_at r s.node ≡ by_tree s
    one_is i all s is own =
        let n = node_at P r t j.reached j.table s (j.table.specialized i s is).0 in
        let single = single_statements P r t j (instances_typed P r t j ∙ typed) i s n.0 is n.1 in
        let body = node_clocked P r n.0 (sees i all s is n.0 n.1 (own n.0 n.1)) n.2.unhidden single
        in
        ap (holds (is_node_clocked r)) n.1 ∙ ap (λ b. b && is_body_clocked r n.0) (own n.0 n.1)
        ∙ sym body
        ∙ sym (ap (holds (is_clocked P)) (tree_of s n.0 n.1))

    all_are : AllDeclared → are_clocked_at r t.specializations.items ≡ list_all by_tree
        t.specializations.items
    all_are all =
        same_all (λ s. is_clocked_at r s.node) by_tree t.specializations.items
        (λ i s is. one_is i (λ k m lt. all k m) s is (all i s is))

    -- each instance keeps the rules of clocks exactly where the code finds it of the node of each
    -- specialization
    instances_clocked : are_clocked_at r t.specializations.items ≡ list_all
        (λ here. is_clocked P here.node) (instances P)
    instances_clocked =
        both_ways _ _ (λ e. sym (all_are (from_code e)) ∙ e) (λ e. all_are (from_trees e) ∙ e)
        ∙ all_specializations P r t j.table (is_clocked P)

    -- the node of a specialization, where each instance keeps the rules of clocks, with what is
    -- known of it
    pub record IsClockedNode (n : ResolvedNode) : Type 0 where
      pub sees : SeesClocks P r n
      pub unhidden : list_all (is_statement_unhidden (texts_of n)) n.body.items ≡ true
      pub single : list_all (is_statement_single r n) n.body.items ≡ true
      pub kept : is_clocked P (node_of n) ≡ true

    pub clocked_node : list_all (λ here. is_clocked P here.node) (instances P) ≡ true →
        (i : ℕ) (s : Specialization) (n : ResolvedNode) →
        slice_get t.specializations.items i ≡ Some s →
        slice_get r.nodes.items s.node.0 ≡ Some n → IsClockedNode n
    clocked_node clocked i s n is at =
        let all = all_specializations P r t j.table (is_clocked P) ∙ clocked in
        let declared = from_trees all in
        record {
          sees = sees i (λ k m lt. declared k m) s is n at (declared i s is n at);
          unhidden = (resolved_at P r j.names j.reached s.node.0 n at).unhidden;
          single = single_statements P r t j (instances_typed P r t j ∙ typed) i s n is at;
          kept =
              sym (ap (holds (is_clocked P)) (tree_of s n at))
              ∙ all_at by_tree t.specializations.items i s all is;
        }

    -- the first specialization whose node the code finds to break the rules of clocks breaks them
    pub first_broken_specialization : (i : ℕ) (s : Specialization) →
        slice_get t.specializations.items i ≡ Some s →
        is_clocked_at r s.node ≡ false
        → ((k : ℕ) (m : Specialization) → k < i → slice_get t.specializations.items k ≡ Some m →
        is_clocked_at r m.node ≡ true)
        → by_tree s ≡ false
    first_broken_specialization i s is broken earlier = by (are_declared_clocks (node_of n.0)) refl
      where
        n : (n : ResolvedNode) × (slice_get r.nodes.items s.node.0 ≡ Some n)
            × IsResolved (source_names P) n
        n = node_at P r t j.reached j.table s (j.table.specialized i s is).0

        declared : are_declared_clocks (node_of n.0) ≡ true → IsDeclared s
        declared own m at =
            let one : Some n.0 ≡ Some m = sym n.1 ∙ at in
            let same : n.0 ≡ m = cc in
            subst (λ (m : ResolvedNode). are_declared_clocks (node_of m) ≡ true) same own

        by : (b : Bool) → are_declared_clocks (node_of n.0) ≡ b → by_tree s ≡ false
        by false e = ap (holds (is_clocked P)) (tree_of s n.0 n.1)
            ∙ and_left (are_declared_clocks (node_of n.0)) _ e
        by true e = sym (one_is i (λ k m lt at. is_declared m (earlier k m lt at)) s is
            (declared e)) ∙ broken

    -- the part of it that the code finds breaks them too
    pub first_part : (i : ℕ) (s : Specialization) → slice_get t.specializations.items i ≡ Some s →
        is_clocked_at r s.node ≡ false
        → ((k : ℕ) (m : Specialization) → k < i → slice_get t.specializations.items k ≡ Some m →
        is_clocked_at r m.node ≡ true)
        → (p : Part) → IsIllClocked r s.node p → (here : Node) → tree_at r s.node ≡ Some here →
        is_part_clocked P here p ≡ false
    first_part i s is broken earlier (part.Variable x) found here tree =
        let n = node_at P r t j.reached j.table s (j.table.specialized i s is).0 in
        let one : Some (node_of n.0) ≡ Some here = sym (tree_of s n.0 n.1) ∙ tree in
        let same : node_of n.0 ≡ here = cc in
        subst (λ (k : Node). is_part_clocked P k (part.Variable x) ≡ false) same
        (found.1 n.0 n.1)
    first_part i s is broken earlier (part.Statement q) found here tree =
        let n = node_at P r t j.reached j.table s (j.table.specialized i s is).0 in
        let one : Some (node_of n.0) ≡ Some here = sym (tree_of s n.0 n.1) ∙ tree in
        let same : node_of n.0 ≡ here = cc in
        let own = found.1 n.0 n.1 in
        let single = single_statements P r t j (instances_typed P r t j ∙ typed) i s n.0 is n.1 in
        let all = sees i (λ k m lt at. is_declared m (earlier k m lt at)) s is n.0 n.1 own.0 in
        subst (λ (k : Node). is_part_clocked P k (part.Statement q) ≡ false) same
        (statement_broken P r n.0 all n.2.unhidden single q own.1)

    -- the code finds a node exactly where an instance breaks the rules of clocks
    pub found_is : (found : Option IllFormed) →
        option_map (λ f. f.node) found
        ≡ find (λ id. not (is_clocked_at r id)) (map (λ s. s.node) t.specializations.items) →
        is_some found ≡ not (list_all (λ here. is_clocked P here.node) (instances P))
    found_is found e =
        not_all (λ s. s.node) (λ s. is_clocked_at r s.node) t.specializations.items (λ f. f.node)
        found (e ∙ find_mapped (λ s. s.node) (λ id. not (is_clocked_at r id))
        t.specializations.items)
        ∙ ap not instances_clocked
