-- A node reaches itself exactly where its place lies on a cycle of calls.
use Rattle.std.proofs.Common.{◌≡◌, ℕ, zero, suc, ◌<◌, Bool, true, false, cond, List, [], ◌∷◌}
use Rattle.std.proofs.Common.{length, map, Option, Some, None, refl, ap, sym, subst, ◌∙◌, ◌⊎◌, inl}
use Rattle.std.proofs.Common.{inr, arith}
use Rattle.std.specs.Prelude.{◌||◌, not, nat_lt, slice_get, option_map, All}
use Rattle.std.specs.List.{list_any}
use Rattle.std.specs.Str.{bytes_eq}
use Rattle.std.proofs.lemmas.Bool.Decides.{nat_tests}
use Rattle.std.proofs.lemmas.List.{length-map}
use Rattle.std.proofs.lemmas.List.Elements.{All-contains}
use Rattle.std.proofs.lemmas.Option.{slice_get-map, slice_get_within}
use Rattle.std.proofs.lemmas.Slice.Eq.{bytes_eq-Decides}
use Rattle.std.proofs.lemmas.Bool.{or_right}
use Rattle.lb_syntax.specs.Lists.{◌>>=◌, either_or, holds, In}
use Rattle.lb_syntax.specs.Tree.{Static, Node}
use Rattle.lb_syntax.proofs.SameNames.{same_name}
use Rattle.lb_syntax.proofs.TruthValues.{and_first, and_second}
use Rattle.lb_syntax.proofs.ListPlaces.{item_at, all_in}
use Rattle.lb_static.specs.CallGraphs.{AreWithin, CallsAlong, IsCallCycle, IsCycle, IsOnCycle}
use Rattle.lb_static.specs.CallGraphs.{IsOrder, IsOrdered, Leads, called, callee_of, callees_of}
use Rattle.lb_static.specs.CallGraphs.{graph_of, name_in, names_at}
use Rattle.lb_static.specs.Instances.{Program, Site, node_sites}
use Rattle.lb_static.specs.Names.{are_distinct, calls, global_names, is_recursive, is_well_founded}
use Rattle.lb_static.specs.Names.{keeps_names, reached_nodes, reached_within, start_names}
use Rattle.lb_static.specs.Parts.{among}
use Rattle.lb_static.specs.ReachedNodes.{IsReached, are_linked, id_at, is_linked, source_names}
use Rattle.lb_static.specs.ReachedNodes.{trees}
use Rattle.lb_static.specs.ResolvedNodes.{IsResolved, node_of, statics_of}
use Rattle.lb_static.specs.ResolvedTerms.{site_of}
use Rattle.lb_static.specs.declared.reachable.NodeId.{NodeId}
use Rattle.lb_static.specs.declared.reachable.Reached.{Reached}
use Rattle.lb_static.specs.declared.resolved.CallSite.{CallSite}
use Rattle.lb_static.specs.declared.resolved.ResolvedNode.{ResolvedNode}
use Rattle.lb_static.proofs.Members.{in_at, place_in, in_contains, contains_in, in_map, map_in}
use Rattle.lb_static.proofs.Members.{in_filter, filter_in, in_filter_map, filter_map_in, any_in}
use Rattle.lb_static.proofs.Members.{in_any, from_all}
use Rattle.lb_static.proofs.Saturation.{enough_calls}
use Rattle.lb_static.proofs.ReachedPlaces.{distinct_last}

-- numbers that are each below `n` are all below `n`
all_below : (n : ℕ) (xs : List ℕ) → ((i : ℕ) → In i xs → i < n) → All (λ i. i < n) xs
all_below n [] h k d below = absurd (omega arith)
all_below n (x ∷ xs) h zero d below = h x (inl refl)
all_below n (x ∷ xs) h (suc k) d below = all_below n xs (λ i on. h i (inr on)) k d (omega arith)

-- ## Names that are distinct

-- two nodes of a list with distinct names are equal if their names are
same_named : (ns : List Node) (a b : Node) → are_distinct (map (λ n. n.name) ns) ≡ true → In a ns
    → In b ns → a.name ≡ b.name → a ≡ b
same_named [] a b e on other same = absurd on
same_named (n ∷ ns) a b e on other same =
    by (λ first second. same_named ns a b rest first second same) on other
  where
    rest : are_distinct (map (λ m. m.name) ns) ≡ true
    rest = and_second (not (among n.name (map (λ m. m.name) ns))) _ e

    alone : (m : Node) → In m ns → n.name ≡ m.name → ⊥
    alone m on is =
        let first = and_first (not (among n.name (map (λ k. k.name) ns)))
        (are_distinct (map (λ k. k.name) ns)) e in
        let twice : among n.name (map (λ k. k.name) ns)
        ≡ true = any_in (bytes_eq n.name) (map (λ k. k.name) ns) m.name
        (in_map (λ k. k.name) ns m on) (same_name n.name m.name is) in
        let both : not true ≡ true = ap not (sym twice) ∙ first in
        cc

    by : (In a ns → In b ns → a ≡ b) → (n ≡ a) ⊎ In a ns → (n ≡ b) ⊎ In b ns → a ≡ b
    by next (inl is) (inl also) = sym is ∙ also
    by next (inl is) (inr later) = absurd (alone b later (ap (λ (m : Node). m.name) is ∙ same))
    by next (inr later) (inl is) = absurd (alone a later (ap (λ (m : Node). m.name) is ∙ sym same))
    by next (inr later) (inr also) = next later also

names_distinct : (P : Program) → keeps_names P ≡ true → are_distinct (source_names P) ≡ true
names_distinct P e = distinct_last (map (λ c. c.name) P.source.constants) (source_names P)
    (and_first (are_distinct (global_names P)) _ e)

-- ## Calls, and the arrows of the graph that stand for them

node_at : (r : Reached) (i : ℕ) (n : Node) → slice_get (trees r) i ≡ Some n
    → (rn : ResolvedNode) × (slice_get r.nodes.items i ≡ Some rn) × (node_of rn ≡ n)
node_at r i n e = by (slice_get r.nodes.items i) refl
    (sym (slice_get-map node_of r.nodes.items i) ∙ e)
  where
    by : (o : Option ResolvedNode) → slice_get r.nodes.items i ≡ o → option_map node_of o ≡ Some n
        → (rn : ResolvedNode) × (slice_get r.nodes.items i ≡ Some rn) × (node_of rn ≡ n)
    by None at h = absurd cc
    by (Some rn) at h = (rn, at, cc)

calls_at : (r : Reached) (i : ℕ) (rn : ResolvedNode) → slice_get r.nodes.items i ≡ Some rn
    → called (graph_of r) i ≡ callees_of r rn.calls.items
calls_at r i rn e =
    ap (λ o. either_or o [])
    (slice_get-map (λ n. callees_of r n.calls.items) r.nodes.items i
    ∙ ap (option_map (λ n. callees_of r n.calls.items)) e)

-- the callee of an arrow: the reached node at the end of the arrow
id_found : (r : Reached) (s : CallSite) (j : ℕ) → callee_of r s ≡ Some j
    → (id : NodeId) × (id_at r s.callee ≡ Some id) × (id.0 ≡ j) × (j < length r.nodes.items)
id_found r s j e = by (id_at r s.callee) refl e
  where
    within : (id : NodeId) (b : Bool) → nat_lt id.0 (length r.nodes.items) ≡ b
        → id_at r s.callee ≡ Some id → cond b (Some id.0) None ≡ Some j
        → (k : NodeId) × (id_at r s.callee ≡ Some k) × (k.0 ≡ j) × (j < length r.nodes.items)
    within id true lt at h = let same : id.0 ≡ j = cc in (id, at, same, grind (arith, nat_tests))
    within id false lt at h = absurd cc

    by : (o : Option NodeId) → id_at r s.callee ≡ o
        → (o >>= λ id. cond (nat_lt id.0 (length r.nodes.items)) (Some id.0) None) ≡ Some j
        → (id : NodeId) × (id_at r s.callee ≡ Some id) × (id.0 ≡ j) × (j < length r.nodes.items)
    by None at h = absurd cc
    by (Some id) at h = within id (nat_lt id.0 (length r.nodes.items)) refl at h

-- each call that is linked has an arrow
arrow_of : (r : Reached) (s : CallSite) → is_linked r s ≡ true → (j : ℕ) × (callee_of r s ≡ Some j)
arrow_of r s e = by (id_at r s.callee) refl e
  where
    by : (o : Option NodeId) → id_at r s.callee ≡ o
        → holds (λ id. nat_lt id.0 (length r.nodes.items)) o ≡ true
        → (j : ℕ) × (callee_of r s ≡ Some j)
    by None at h = absurd cc
    by (Some id) at h = (
      id.0,
      ap (λ o. o >>= λ k. cond (nat_lt k.0 (length r.nodes.items)) (Some k.0) None) at
          ∙ ap (λ b. cond b (Some id.0) None) h,
    )

pub graph_within : (r : Reached) → AreWithin (graph_of r)
graph_within r i j on = by (slice_get (graph_of r) i) refl on
  where
    long : length (graph_of r) ≡ length r.nodes.items
    long = length-map r.nodes.items (λ n. callees_of r n.calls.items)

    by : (o : Option (List ℕ)) → slice_get (graph_of r) i ≡ o → In j (either_or o [])
        → j < length (graph_of r)
    by None at h = absurd h
    by (Some js) at h =
        let rn = map_in (λ n. callees_of r n.calls.items) r.nodes.items js
        (in_at (graph_of r) i js at) in
        let s = filter_map_in (callee_of r) rn.0.calls.items j (subst (λ l. In j l) (sym rn.2) h) in
        let id = id_found r s.0 j s.2 in
        omega (arith, long, id.3)

module _ (P : Program) (r : Reached) (is : IsReached P r) where
  resolved_at : (i : ℕ) (rn : ResolvedNode) → slice_get r.nodes.items i ≡ Some rn
      → IsResolved (source_names P) rn
  resolved_at i rn e = All-contains (IsResolved (source_names P)) r.nodes.items rn is.resolved
      (in_contains r.nodes.items rn (in_at r.nodes.items i rn e))

  -- the node at the end of an arrow is the callee in the source
  leads_to : (s : CallSite) (j : ℕ) → callee_of r s ≡ Some j
      → (m : Node) × (slice_get (trees r) j ≡ Some m)
      × (slice_get P.source.nodes s.callee.0 ≡ Some m)
  leads_to s j e =
      let id = id_found r s j e in
      let long = length-map r.nodes.items node_of in
      let below : j < length (trees r) = omega (arith, long, id.3) in
      let m = item_at (trees r) j below in
      (m.0, m.1, sym (is.found s.callee id.0 id.1) ∙ ap (slice_get (trees r)) id.2 ∙ m.1)

  site_name : (s : CallSite) (statics : List Static) (m : Node)
      → slice_get P.source.nodes s.callee.0 ≡ Some m
      → (site_of (source_names P) statics s).callee ≡ m.name
  site_name s statics m e = ap (λ o. either_or o [])
      (slice_get-map (λ n. n.name) P.source.nodes s.callee.0 ∙ ap (option_map (λ n. n.name)) e)

  -- a node calls the node at the end of each of its arrows
  arrow_calls : (i j : ℕ) (n : Node) → slice_get (trees r) i ≡ Some n → In j (called (graph_of r) i)
      → (m : Node) × (slice_get (trees r) j ≡ Some m) × In m P.source.nodes × (calls n m ≡ true)
  arrow_calls i j n at on =
      let rn = node_at r i n at in
      let s = filter_map_in (callee_of r) rn.0.calls.items j
      (subst (λ l. In j l) (calls_at r i rn.0 rn.1) on) in
      let m = leads_to s.0 j s.2 in
      let site = in_map (site_of (source_names P) (statics_of rn.0)) rn.0.calls.items s.0 s.1 in
      let here = subst (λ l. In (site_of (source_names P) (statics_of rn.0) s.0) l)
      ((resolved_at i rn.0 rn.1).calls ∙ ap node_sites rn.2) site in (
        m.0,
        m.1,
        in_at P.source.nodes s.0.callee.0 m.0 m.2,
        any_in (λ t. bytes_eq t.callee m.0.name)
            (node_sites n) _ here (same_name _ m.0.name (site_name s.0 (statics_of rn.0) m.0 m.2)),
      )

  arrow_in : (i j : ℕ) (rn : ResolvedNode) (s : CallSite) → slice_get r.nodes.items i ≡ Some rn
      → In s rn.calls.items → callee_of r s ≡ Some j
      → In j (called (graph_of r) i)
  arrow_in i j rn s at on e = subst (λ l. In j l) (sym (calls_at r i rn at))
      (in_filter_map (callee_of r) rn.calls.items s j on e)

  -- a call site that calls a node by its name has an arrow to it
  site_arrow : keeps_names P ≡ true → (i : ℕ) (m : Node) (rn : ResolvedNode) (s : CallSite)
      → In m P.source.nodes → slice_get r.nodes.items i ≡ Some rn
      → In s rn.calls.items → (site_of (source_names P) (statics_of rn) s).callee ≡ m.name → (j : ℕ)
      → callee_of r s ≡ Some j
      → (j : ℕ) × In j (called (graph_of r) i) × (slice_get (trees r) j ≡ Some m)
  site_arrow keeps i m rn s known at on meant j e =
      let to = leads_to s j e in
      let name : to.0.name ≡ m.name = sym (site_name s (statics_of rn) to.0 to.2) ∙ meant in
      let same = same_named P.source.nodes to.0 m (names_distinct P keeps)
      (in_at P.source.nodes s.callee.0 to.0 to.2) known name in
      (j, arrow_in i j rn s at on e, subst (λ n. slice_get (trees r) j ≡ Some n) same to.1)

  linked_at : (i : ℕ) (rn : ResolvedNode) (s : CallSite) → slice_get r.nodes.items i ≡ Some rn
      → In s rn.calls.items → is_linked r s ≡ true
  linked_at i rn s at on = all_in (is_linked r) rn.calls.items s
      (all_in (are_linked r) r.nodes.items rn is.linked (in_at r.nodes.items i rn at)) on

  -- a node that calls another has an arrow to it
  call_arrow : keeps_names P ≡ true → (i : ℕ) (n m : Node) → slice_get (trees r) i ≡ Some n
      → In m P.source.nodes → calls n m ≡ true
      → (j : ℕ) × In j (called (graph_of r) i) × (slice_get (trees r) j ≡ Some m)
  call_arrow keeps i n m at known e =
      let rn = node_at r i n at in
      let site = in_any (λ t. bytes_eq t.callee m.name) (node_sites n) e in
      let here = subst (λ l. In site.0 l)
      (sym ((resolved_at i rn.0 rn.1).calls ∙ ap node_sites rn.2)) site.1 in
      let s = map_in (site_of (source_names P) (statics_of rn.0)) rn.0.calls.items site.0 here in
      let asked : (site_of (source_names P) (statics_of rn.0) s.0).callee ≡ site.0.callee =
      ap (λ (t : Site). t.callee) s.2 in
      let meant : (site_of (source_names P) (statics_of rn.0) s.0).callee ≡ m.name =
      (bytes_eq-Decides _ m.name).0 (ap (λ x. bytes_eq x m.name) asked ∙ site.2) in
      let j = arrow_of r s.0 (linked_at i rn.0 s.0 rn.1 s.1) in
      site_arrow keeps i m rn.0 s.0 known rn.1 s.1 meant j.0 j.1

  within_source : (start : Node → Bool) (k : ℕ) (m : Node) → In m (reached_within P start k)
      → In m P.source.nodes
  within_source start zero m on = (filter_in start P.source.nodes m on).0
  within_source start (suc k) m on =
      (filter_in (λ n. start n || list_any (λ l. calls l n) (reached_within P start k))
      P.source.nodes m on).0

  tree_reached : (i : ℕ) (n : Node) → slice_get (trees r) i ≡ Some n → In n (reached_nodes P)
  tree_reached i n at = contains_in (reached_nodes P) n
      ((is.same n).0 (in_contains (trees r) n (in_at (trees r) i n at)))

  tree_known : (i : ℕ) (n : Node) → slice_get (trees r) i ≡ Some n → In n P.source.nodes
  tree_known i n at = within_source (λ m. among m.name (start_names P)) (length P.source.nodes) n
      (tree_reached i n at)

  -- ## A cycle

  -- a node that a chain of calls leads to is reached, if the first node of the chain is
  reached_along : (ks : List ℕ) (i j : ℕ) (n m : Node) → Leads (graph_of r) i ks j
      → slice_get (trees r) i ≡ Some n → slice_get (trees r) j ≡ Some m
      → (start : Node → Bool) (k : ℕ) → In n (reached_within P start k)
      → (l : ℕ) × In m (reached_within P start l)
  reached_along [] i j n m leads at to start k on =
      let next = arrow_calls i j n at leads in
      let both : Some next.0 ≡ Some m = sym next.1 ∙ to in
      let same : next.0 ≡ m = cc in
      let any = any_in (λ h. calls h m) (reached_within P start k) n on
      (subst (λ h. calls n h ≡ true) same next.3) in (
        suc k,
        in_filter (λ h. start h || list_any (λ l. calls l h) (reached_within P start k))
            P.source.nodes m (subst (λ h. In h P.source.nodes) same next.2)
            (or_right (start m) _ any),
      )
  reached_along (i' ∷ ks) i j n m leads at to start k on =
      let next = arrow_calls i i' n at leads.0 in
      let any = any_in (λ h. calls h next.0) (reached_within P start k) n on next.3 in
      reached_along ks i' j next.0 m leads.1 next.1 to start (suc k)
      (in_filter (λ h. start h || list_any (λ l. calls l h) (reached_within P start k))
      P.source.nodes next.0 next.2 (or_right (start next.0) _ any))

  recursive_from : (n : Node) (k : ℕ) → In n (reached_within P (calls n) k)
      → is_recursive P n ≡ true
  recursive_from n k on =
      enough_calls P (calls n) (λ m. bytes_eq m.name n.name) k
      (any_in (λ m. bytes_eq m.name n.name) (reached_within P (calls n) k) n on
      (same_name n.name n.name refl))

  -- a node with its place on a cycle reaches itself
  cycle_recursive : (i : ℕ) (n : Node) → IsOnCycle (graph_of r) i → slice_get (trees r) i ≡ Some n
      → is_recursive P n ≡ true
  cycle_recursive i n cycle at = by cycle.0 cycle.1
    where
      by : (ks : List ℕ) → Leads (graph_of r) i ks i → is_recursive P n ≡ true
      by [] leads =
          let next = arrow_calls i i n at leads in
          let both : Some next.0 ≡ Some n = sym next.1 ∙ at in
          let same : next.0 ≡ n = cc in
          recursive_from n 0 (in_filter (calls n) P.source.nodes n (tree_known i n at)
          (subst (λ h. calls n h ≡ true) same next.3))
      by (k ∷ ks) leads =
          let next = arrow_calls i k n at leads.0 in
          let here = reached_along ks k i next.0 n leads.1 next.1 at (calls n) 0
          (in_filter (calls n) P.source.nodes next.0 next.2 next.3) in
          recursive_from n here.0 here.1

  -- ## An order

  -- a node has its place in a list of places
  abbrev StandsIn : List ℕ → Node → Type 0
  StandsIn places m = (j : ℕ) × In j places × (slice_get (trees r) j ≡ Some m)

  ordered_closed : (order : List ℕ) (i j : ℕ) → IsOrder (graph_of r) order → In i order
      → In j (called (graph_of r) i) → In j order
  ordered_closed [] i j ordered on calls = absurd on
  ordered_closed (k ∷ order) i j ordered (inl same) calls =
      inr (ordered.0 j (subst (λ h. In j (called (graph_of r) h)) (sym same) calls))
  ordered_closed (k ∷ order) i j ordered (inr on) calls =
      inr (ordered_closed order i j ordered.1 on calls)

  -- from nodes with places in an order, only nodes with places in it are reached
  stays_in : keeps_names P ≡ true → (order : List ℕ) → IsOrder (graph_of r) order
      → (start : Node → Bool)
      → ((m : Node) → In m P.source.nodes → start m ≡ true → StandsIn order m) → (k : ℕ) (m : Node)
      → In m (reached_within P start k) → StandsIn order m
  stays_in keeps order ordered start first zero m on =
      let h = filter_in start P.source.nodes m on in first m h.0 h.1
  stays_in keeps order ordered start first (suc k) m on =
      let h = filter_in (λ n. start n || list_any (λ l. calls l n) (reached_within P start k))
      P.source.nodes m on in
      by (λ l. stays_in keeps order ordered start first k l) h.0 (start m) refl h.1
    where
      by : ((l : Node) → In l (reached_within P start k) → StandsIn order l) → In m P.source.nodes
          → (b : Bool) → start m ≡ b
          → (b || list_any (λ l. calls l m) (reached_within P start k)) ≡ true → StandsIn order m
      by before known true e any = first m known e
      by before known false e any =
          let l = in_any (λ n. calls n m) (reached_within P start k) any in
          let at = before l.0 l.1 in
          let j = call_arrow keeps at.0 l.0 m at.2 known l.2 in
          (j.0, ordered_closed order at.0 j.0 ordered at.1 j.1, j.2)

  -- no node in an order reaches itself
  not_recursive : keeps_names P ≡ true → (order : List ℕ) → IsOrder (graph_of r) order
      → (i : ℕ) (n : Node) → In i order → slice_get (trees r) i ≡ Some n
      → is_recursive P n ≡ true → ⊥
  not_recursive keeps [] ordered i n on at e = absurd on
  not_recursive keeps (k ∷ order) ordered i n (inr on) at e =
      not_recursive keeps order ordered.1 i n on at e
  not_recursive keeps (k ∷ order) ordered i n (inl same) at e =
      let m = in_any (λ h. bytes_eq h.name n.name)
      (reached_within P (calls n) (length P.source.nodes)) e in
      let known = within_source (calls n) (length P.source.nodes) m.0 m.1 in
      let one = same_named P.source.nodes m.0 n (names_distinct P keeps) known (tree_known i n at)
      ((bytes_eq-Decides m.0.name n.name).0 m.2) in
      let again = stays_in keeps order ordered.1 (calls n)
      (λ h on call. let j = call_arrow keeps i n h at on call in
      (j.0, ordered.0 j.0 (subst (λ l. In j.0 (called (graph_of r) l)) (sym same) j.1), j.2))
      (length P.source.nodes) m.0 m.1 in
      not_recursive keeps order ordered.1 again.0 n again.1 (again.2 ∙ ap Some one) e

  -- where all places stand in an order, no reached node reaches itself
  pub ordered_founded : keeps_names P ≡ true → IsOrdered (graph_of r) → is_well_founded P ≡ true
  ordered_founded keeps ordered = from_all (λ n. not (is_recursive P n)) (reached_nodes P)
      (λ n on. by n on (is_recursive P n) refl)
    where
      long : length (graph_of r) ≡ length (trees r)
      long = length-map r.nodes.items (λ n. callees_of r n.calls.items)
          ∙ sym (length-map r.nodes.items node_of)

      by : (n : Node) → In n (reached_nodes P) → (b : Bool) → is_recursive P n ≡ b → not b ≡ true
      by n on false e = refl
      by n on true e =
          let at = place_in (trees r) n
          (contains_in (trees r) n ((is.same n).1 (in_contains (reached_nodes P) n on))) in
          let within = slice_get_within (trees r) at.0 n at.1 in
          let below : at.0 < length (graph_of r) = omega (arith, long, within) in
          absurd (not_recursive keeps ordered.0 ordered.1 at.0 n (ordered.2 at.0 below) at.1 e)

  -- where a place is on a cycle, its node is reached and reaches itself
  place_unfounded : (i : ℕ) (n : Node) → IsOnCycle (graph_of r) i → slice_get (trees r) i ≡ Some n
      → is_well_founded P ≡ false
  place_unfounded i n cycle at = by (is_well_founded P) refl
    where
      by : (b : Bool) → is_well_founded P ≡ b → b ≡ false
      by false e = refl
      by true e =
          let founded = all_in (λ m. not (is_recursive P m)) (reached_nodes P) n e
          (tree_reached i n at) in
          let both : not true ≡ true = ap not (sym (cycle_recursive i n cycle at)) ∙ founded in
          absurd cc

  -- ## The cycle of a refusal

  reached_with : (h : Node) (hs : List Node) → In h (reached_nodes P)
      → ((l : Node) → In l hs → In l (reached_nodes P)) → (l : Node) → In l (h ∷ hs)
      → In l (reached_nodes P)
  reached_with h hs first rest l (inl is) = subst (λ q. In q (reached_nodes P)) is first
  reached_with h hs first rest l (inr on) = rest l on

  -- the nodes along a chain of places are a chain of calls
  nodes_along : (ks : List ℕ) (i j : ℕ) (n m : Node) → Leads (graph_of r) i ks j
      → slice_get (trees r) i ≡ Some n → slice_get (trees r) j ≡ Some m
      → (ns : List Node) × (map (λ h. h.name) ns ≡ names_at r ks)
      × ((h : Node) → In h ns → In h (reached_nodes P)) × CallsAlong n ns m
  nodes_along [] i j n m leads at to =
      let next = arrow_calls i j n at leads in
      let both : Some next.0 ≡ Some m = sym next.1 ∙ to in
      let same : next.0 ≡ m = cc in
      ([], refl, λ h on. absurd on, subst (λ h. calls n h ≡ true) same next.3)
  nodes_along (k ∷ ks) i j n m leads at to =
      let next = arrow_calls i k n at leads.0 in
      let rest = nodes_along ks k j next.0 m leads.1 next.1 to in
      let named : next.0.name ≡ name_in r k =
      sym (ap (λ o. either_or (option_map (λ h. h.name) o) []) next.1) in (
        next.0 ∷ rest.0,
        (λ x. named x ∷ rest.1 x),
        reached_with next.0 rest.0 (tree_reached k next.0 next.1) rest.2,
        (next.3, rest.3),
      )

  -- the nodes at the places of a cycle are a cycle of calls
  pub cycle_told : (cycle : List ℕ) → IsCycle (graph_of r) cycle
      → IsCallCycle P (names_at r cycle)
  cycle_told [] c = absurd c
  cycle_told (i ∷ ks) c =
      let long = length-map r.nodes.items (λ n. callees_of r n.calls.items) in
      let many = length-map r.nodes.items node_of in
      let n = item_at (trees r) i (omega (arith, c.0, long, many)) in
      let along = nodes_along ks i i n.0 n.0 c.1 n.1 n.1 in
      let named : n.0.name ≡ name_in r i =
      sym (ap (λ o. either_or (option_map (λ h. h.name) o) []) n.1) in
      record {
        first = n.0;
        rest = along.0;
        named = λ x. named x ∷ along.1 x;
        reached = reached_with n.0 along.0 (tree_reached i n.0 n.1) along.2;
        calls_along = along.3;
      }

  -- where there is a cycle, a node reaches itself
  pub cycle_unfounded : (cycle : List ℕ) → IsCycle (graph_of r) cycle → is_well_founded P ≡ false
  cycle_unfounded [] c = absurd c
  cycle_unfounded (i ∷ ks) c =
      let long = length-map r.nodes.items (λ n. callees_of r n.calls.items) in
      let many = length-map r.nodes.items node_of in
      let n = item_at (trees r) i (omega (arith, c.0, long, many)) in
      place_unfounded i n.0 (ks, c.1) n.1

-- each place of a cycle is the place of a node
pub cycle_within : (r : Reached) (cycle : List ℕ) → IsCycle (graph_of r) cycle
    → All (λ i. i < length r.nodes.items) cycle
cycle_within r [] c = absurd c
cycle_within r (i ∷ ks) c = all_below (length r.nodes.items) (i ∷ ks) by
  where
    below : (k : ℕ) → k < length (graph_of r) → k < length r.nodes.items
    below k less = omega (arith, less, length-map r.nodes.items (λ n. callees_of r n.calls.items))

    along : (ls : List ℕ) (j k : ℕ) → Leads (graph_of r) j ls k → (m : ℕ) → In m ls
        → m < length r.nodes.items
    along [] j k leads m on = absurd on
    along (l ∷ ls) j k leads m (inl same) =
        subst (λ h. h < length r.nodes.items) same (below l (graph_within r j l leads.0))
    along (l ∷ ls) j k leads m (inr on) = along ls l k leads.1 m on

    by : (m : ℕ) → In m (i ∷ ks) → m < length r.nodes.items
    by m (inl same) = subst (λ h. h < length r.nodes.items) same (below i c.0)
    by m (inr on) = along ks i i c.1 m on
