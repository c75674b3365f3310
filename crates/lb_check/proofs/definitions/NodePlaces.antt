-- Nodes and callees that are found by their names.
use Rattle.lb_check.proofs.Words
use Words.{◌≡◌, ℕ, zero, suc, true, List, [], ◌∷◌, map, Some, refl, ap, sym, ◌∙◌, subst, not}
use Words.{option_map, slice_get, Contains, slice_get-map, slice_get-get_or, bytes_eq-Decides}
use Words.{not-true, Node, all_at, and_first, and_second, Program, node_named, are_distinct}
use Words.{is_named, declares_once, reached_nodes, keeps_names, among, variable_names, named}
use Words.{distinct_last, Bool, Option, None, nat_lt, slice_get_within, get_or_from_slice_get}
use Words.{◌>>=◌, either_or, holds, Reached, CallId, CallSite, ResolvedNode, Site, node_sites}
use Words.{IsReached, id_at, source_names, tree_at, callee_in, IsResolved, node_of, statics_of}
use Words.{counts_of, is_call, no_site, site_at, site_of, length}
use Rattle.lb_static.specs.{Names.global_names, ReachedNodes.{are_linked, is_linked}}
use Rattle.lb_check.proofs.lists.Members.{distinct_first, not_among, held_at}

-- Where names are distinct a place is found by its name, and the name of a source node is the one
-- at its place.

-- ## Distinct names

-- where names are distinct, the node at a place is the one that is found by its name
found_at : (ns : List Node) (i : ℕ) (n : Node) → are_distinct (map (λ m. m.name) ns) ≡ true →
    slice_get ns i ≡ Some n
    → named (λ m. m.name) n.name ns ≡ Some n
found_at [] i n d e = absurd cc
found_at (m ∷ ns) zero n d e =
    let same : m ≡ n = cc in
    let z = (bytes_eq-Decides n.name n.name).1 refl in
    subst (λ (u : Node). named (λ k. k.name) n.name (u ∷ ns) ≡ Some n) (sym same) (rw z refl)
found_at (m ∷ ns) (suc i) n d e =
    let out = not-true _ (and_first (not (among m.name (map (λ k. k.name) ns))) _ d) in
    let at = slice_get-map (λ k. k.name) ns i ∙ ap (option_map (λ k. k.name)) e in
    let no = not_among m.name (map (λ k. k.name) ns) i n.name out at in
    rw no (found_at ns i n (and_second (not (among m.name (map (λ k. k.name) ns))) _ d) e)

-- ## Programs that keep the rules of names

module _ (P : Program) (names : keeps_names P ≡ true) where
  pub named_at : (i : ℕ) (n : Node) → slice_get P.source.nodes i ≡ Some n →
      node_named P n.name ≡ Some n
  named_at i n e =
      let all = and_first (are_distinct (global_names P)) _ names in
      found_at P.source.nodes i n (distinct_last (map (λ c. c.name) P.source.constants) _ all) e

  pub distinct_variables : (n : Node) → Contains (reached_nodes P) n →
      are_distinct (variable_names n) ≡ true
  distinct_variables n c =
      let all = and_first _ _ (and_second _ _ (and_second _ _ names)) in
      let at = slice_get-get_or (reached_nodes P) c.0 n c.1 ∙ ap (λ m. Some m) c.2 in
      let passes = all_at (is_named P) (reached_nodes P) c.0 n all at in
      distinct_first (variable_names n) n.parameters (and_first (declares_once P n) _ passes)

-- The callee of a call of a reached node, and the tree that its name stands for.

passing : {A : Type 0} (test : A → Bool) (o : Option A) → holds test o ≡ true →
    (x : A) × (o ≡ Some x) × (test x ≡ true)
passing test None e = absurd cc
passing test (Some x) e = (x, refl, e)

module _ (P : Program) (r : Reached) (names : keeps_names P ≡ true) (reached : IsReached P r) where
  pub node_resolved : (i : ℕ) (n : ResolvedNode) → slice_get r.nodes.items i ≡ Some n →
      IsResolved (source_names P) n
  node_resolved i n at =
      subst (IsResolved (source_names P)) (get_or_from_slice_get r.nodes.items i n n at)
      (reached.resolved i n (slice_get_within r.nodes.items i n at))

  -- the node that a linked call site names
  linked_node : (c : CallSite) → is_linked r c ≡ true
      → (m : ResolvedNode) × ((id_at r c.callee >>= λ id. slice_get r.nodes.items id.0) ≡ Some m)
      × (node_named P (either_or (slice_get (source_names P) c.callee.0) []) ≡ Some (node_of m))
      × IsResolved (source_names P) m
  linked_node c l =
      let id = passing (λ id. nat_lt id.0 (length r.nodes.items)) (id_at r c.callee) l in
      let m = held_at r.nodes.items id.0.0 id.2 in
      let tree_is : tree_at r id.0 ≡ Some (node_of m.0) = slice_get-map node_of r.nodes.items id.0.0
      ∙ ap (option_map node_of) m.1 in
      let place : slice_get P.source.nodes c.callee.0 ≡ Some (node_of m.0) =
      sym (reached.found c.callee id.0 id.1) ∙ tree_is in
      let name : slice_get (source_names P) c.callee.0 ≡ Some (node_of m.0).name =
      slice_get-map (λ n. n.name) P.source.nodes c.callee.0
      ∙ ap (option_map (λ n. n.name)) place in (
        m.0,
        ap (λ o. o >>= λ id. slice_get r.nodes.items id.0) id.1 ∙ m.1,
        ap (λ o. node_named P (either_or o [])) name
            ∙ named_at P names c.callee.0 (node_of m.0) place,
        node_resolved id.0.0 m.0 m.1,
      )

  -- the site of a call in the tree is the one for which the call site stands
  site_there : (i : ℕ) (n : ResolvedNode) → slice_get r.nodes.items i ≡ Some n →
      (c : CallId) (s : CallSite) → slice_get n.calls.items c.0 ≡ Some s
      → slice_get (node_sites (node_of n)) c.0 ≡ Some (site_of (source_names P) (statics_of n) s)
  site_there i n at c s e =
      ap (λ (ss : List Site). slice_get ss c.0) (sym (node_resolved i n at).calls)
      ∙ slice_get-map (site_of (source_names P) (statics_of n)) n.calls.items c.0
      ∙ ap (option_map (site_of (source_names P) (statics_of n))) e

  pub site_found : (i : ℕ) (n : ResolvedNode) → slice_get r.nodes.items i ≡ Some n → (c : CallId) →
      is_call (counts_of n) c ≡ true
      → (site : Site) × (slice_get (node_sites (node_of n)) c.0 ≡ Some site)
      × (site_at (node_sites (node_of n)) c ≡ site)
  site_found i n at c w =
      let s = held_at n.calls.items c.0 w in
      let site = site_of (source_names P) (statics_of n) s.0 in
      let is = site_there i n at c s.0 s.1 in
      (site, is, ap (λ o. either_or o no_site) is)

  -- the callee of a call is the node with the name of its site
  pub callee_found : (i : ℕ) (n : ResolvedNode) → slice_get r.nodes.items i ≡ Some n →
      (c : CallId) → is_call (counts_of n) c ≡ true
      → (m : ResolvedNode) × (callee_in r n c ≡ Some m)
      × (node_named P (site_at (node_sites (node_of n)) c).callee ≡ Some (node_of m))
      × IsResolved (source_names P) m
  callee_found i n at c w =
      let s = held_at n.calls.items c.0 w in
      let linked = all_at (is_linked r) n.calls.items c.0 s.0
      (all_at (are_linked r) r.nodes.items i n reached.linked at) s.1 in
      let m = linked_node s.0 linked in (
        m.0,
        ap (λ o. o >>= λ s. id_at r s.callee >>= λ id. slice_get r.nodes.items id.0) s.1 ∙ m.1,
        ap (λ o. node_named P (either_or o no_site).callee) (site_there i n at c s.0 s.1) ∙ m.2,
        m.3,
      )
