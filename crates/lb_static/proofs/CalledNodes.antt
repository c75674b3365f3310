-- The walk over the nodes that are reached by name: one more node, and a fault of a node.
use Rattle.std.proofs.Common.{◌≡◌, ℕ, zero, suc, ◌+◌, ◌<◌, ◌≤◌, Bool, true, false, cond, List, []}
use Rattle.std.proofs.Common.{◌∷◌, ◌++◌, length, map, drop, get_or, Option, Some, option_map, refl}
use Rattle.std.proofs.Common.{ap, sym, subst, ◌∙◌, arith, length-append}
use Rattle.std.specs.Prelude.{◌&&◌, filter, nat_lt, slice_get}
use Rattle.std.specs.List.{list_all}
use Rattle.std.specs.Str.{bytes_eq}
use Rattle.std.proofs.lemmas.Bool.Decides.{nat_tests}
use Rattle.std.proofs.lemmas.List.{length-map}
use Rattle.std.proofs.lemmas.List.Elements.{All-push}
use Rattle.std.proofs.lemmas.Option.{slice_get-map, slice_get-get_or, slice_get_within}
use Rattle.std.proofs.lemmas.Slice.Eq.{bytes_eq-Decides}
use Rattle.std.proofs.lemmas.List.Folds.{list_all-append}
use Rattle.std.proofs.lemmas.Bool.{and_from}
use Rattle.std.proofs.lemmas.Map.Keys.{any_passes_from_place}
use Rattle.lb_syntax.specs.Lists.{holds, either_or}
use Rattle.lb_syntax.specs.SourceView.{view_node}
use Rattle.lb_syntax.specs.Tree.{Name, Node, Source}
use Rattle.lb_syntax.specs.declared.tree.Node as written
use Rattle.lb_syntax.proofs.TruthValues.{and_first, and_second}
use Rattle.lb_syntax.proofs.ListPlaces.{all_at, all_from, get_before, get_last}
use Rattle.lb_static.specs.CalledNodes.{AreResolved, are_called, callees}
use Rattle.lb_static.specs.Instances.{node_sites}
use Rattle.lb_static.specs.NameFaults.{IsNameFault, named_in, told_in}
use Rattle.lb_static.specs.ResolvedNodes.{IsResolved, counts_of, node_of, statics_of}
use Rattle.lb_static.specs.ResolvedTerms.{Counts, is_site_within, site_of}
use Rattle.lb_static.specs.StaticValues.{named}
use Rattle.lb_static.specs.WorkLists.{AreReachable, Grows, is_reachable, is_visited, visited_after}
use Rattle.lb_static.specs.WorkLists.{visited_after_all, within}
use Rattle.lb_static.specs.declared.error.StaticError.{StaticError}
use Rattle.lb_static.specs.declared.resolved.CallSite.{CallSite}
use Rattle.lb_static.specs.declared.resolved.ResolvedNode.{ResolvedNode}
use Rattle.lb_static.specs.Names.{calls}
use Rattle.lb_static.proofs.Faults.{fault_within}
use Rattle.lb_static.proofs.Reachability.{reachable_by, reachable_next, reachable_visits, within_is}
use Rattle.lb_static.proofs.Lists.{map_next}
use Rattle.lb_static.proofs.WorkLists.{grows_all, grows_both, visited_all}
use Rattle.lb_static.proofs.Growth.{all_on}

-- ## Look-ups

-- the node at a place, whose name is `x`, is the node that is found by `x`
pub found_here : (x : Name) (ns : List written.Node) (i : ℕ) (d : written.Node) (o : Option Node)
    → i < length ns → o ≡ named (λ n. n.name) x (map view_node (drop i ns))
    → bytes_eq (get_or ns i d).name x ≡ true → slice_get (map view_node ns) i ≡ o
found_here x ns i d o below e same =
    slice_get-map view_node ns i ∙ ap (option_map view_node) (slice_get-get_or ns i d below)
    ∙ sym (e ∙ ap (named (λ n. n.name) x) (map_next view_node ns i d below)
    ∙ ap (λ b. cond b (Some (view_node (get_or ns i d)))
    (named (λ n. n.name) x (map view_node (drop (i + 1) ns)))) same)

-- ## Calls

-- a visit of call `i`, and then of those behind it, is the visit of all calls from `i` on
pub visit_next : (order : List ℕ) (sites : List CallSite) (i : ℕ) (d : CallSite) → i < length sites
    → visited_after_all (visited_after order (get_or sites i d).callee.0)
    (callees (drop (i + 1) sites)) ≡ visited_after_all order (callees (drop i sites))
unfolding visited_after_all
visit_next order sites i d below =
    ap (visited_after_all order) (sym (map_next (λ s. s.callee.0) sites i d below))

pub sites_within : (nodes : ℕ) (n : Counts) (sites : List CallSite)
    → list_all (is_site_within nodes n) sites ≡ true
    → list_all (λ s. nat_lt s.callee.0 nodes) sites ≡ true
sites_within nodes n sites e =
    all_on _ _ sites (λ s h. and_first (nat_lt s.callee.0 nodes) _ h) e

-- the name at the place of a node is the name of the node
name_there : (ns : List Node) (p : ℕ) (a : Node) → slice_get ns p ≡ Some a
    → either_or (slice_get (map (λ n. n.name) ns) p) [] ≡ a.name
name_there ns p a e = ap (λ o. either_or o [])
    (slice_get-map (λ n. n.name) ns p ∙ ap (option_map (λ n. n.name)) e)

-- a node calls the node at the place of its call
called_there : (s : Source) (r : ResolvedNode) → IsResolved (map (λ n. n.name) s.nodes) r
    → (j : ℕ) (c : CallSite) (a : Node) → slice_get r.calls.items j ≡ Some c
    → slice_get s.nodes c.callee.0 ≡ Some a → calls (node_of r) a ≡ true
called_there s r h j c a at is =
    let names = map (λ n. n.name) s.nodes in
    let site : slice_get (node_sites (node_of r)) j ≡ Some (site_of names (statics_of r) c) =
    ap (λ l. slice_get l j) (sym h.calls)
    ∙ slice_get-map (site_of names (statics_of r)) r.calls.items j
    ∙ ap (option_map (site_of names (statics_of r))) at in
    any_passes_from_place (λ t. bytes_eq t.callee a.name) (node_sites (node_of r)) j
    (site_of names (statics_of r) c) site
    ((bytes_eq-Decides _ a.name).1 (name_there s.nodes c.callee.0 a is))

pub there : {A : Type 0} (xs : List A) (i : ℕ) (p : A → Bool) → nat_lt i (length xs) ≡ true
    → ((x : A) → slice_get xs i ≡ Some x → p x ≡ true) → holds p (slice_get xs i) ≡ true
there [] i p below f = absurd (grind (arith, nat_tests))
there (x ∷ xs) zero p below f = f x refl
there (x ∷ xs) (suc i) p below f = there xs i p (grind (arith, nat_tests)) f

-- ## One more node

pub grown_at : (before after : List ℕ) (turn place : ℕ) → Grows before after → turn < length before
    → slice_get after turn ≡ Some place → slice_get before turn ≡ Some place
grown_at before after turn place g below at =
    let was = slice_get-get_or before turn 0 below in
    was ∙ sym (g.kept turn (get_or before turn 0) was) ∙ at

pub all_map : {A B : Type 0} (p : B → Bool) (f : A → B) (xs : List A)
    → list_all p (map f xs) ≡ list_all (λ x. p (f x)) xs
all_map p f [] = refl
all_map p f (x ∷ xs) = ap (λ b. p (f x) && b) (all_map p f xs)

module _ (s : Source) (before order : List ℕ) (nodes : List ResolvedNode) (r : ResolvedNode)
    (place : ℕ) (h : AreResolved s before order nodes)
    (next : slice_get order (length nodes) ≡ Some place)
    (at : slice_get s.nodes place ≡ Some (node_of r))
    (is : IsResolved (map (λ n. n.name) s.nodes) r) where
  abbrev places : List ℕ
  places = callees r.calls.items

  abbrev after : List ℕ
  after = visited_after_all order places

  grown : Grows order after
  grown = grows_all order places

  below : length nodes < length order
  below = slice_get_within order (length nodes) place next

  stands_more : (turn p : ℕ) → turn < length (nodes ++ r ∷ []) → slice_get after turn ≡ Some p
      → slice_get (map node_of (nodes ++ r ∷ [])) turn ≡ slice_get s.nodes p
  stands_more turn p early there = by (nat_lt turn (length nodes)) refl
    where
      before_at : slice_get order turn ≡ Some p
      before_at = let more = length-append nodes (r ∷ []) in grown_at order after turn p grown
          (omega (arith, below)) there

      by : (b : Bool) → nat_lt turn (length nodes) ≡ b
          → slice_get (map node_of (nodes ++ r ∷ [])) turn ≡ slice_get s.nodes p
      by true e =
          let lt : turn < length nodes = grind (arith, nat_tests) in
          slice_get-map node_of (nodes ++ r ∷ []) turn
          ∙ ap (option_map node_of) (get_before nodes (r ∷ []) turn lt)
          ∙ sym (slice_get-map node_of nodes turn) ∙ h.stands turn p lt before_at
      by false e =
          let past : length nodes ≤ turn = grind (arith, nat_tests) in
          let last : turn ≡ length nodes = omega (arith, early, length-append nodes (r ∷ [])) in
          let same : Some p ≡ Some place = sym before_at ∙ ap (slice_get order) last ∙ next in
          let here : p ≡ place = cc in
          slice_get-map node_of (nodes ++ r ∷ []) turn
          ∙ ap (λ t. option_map node_of (slice_get (nodes ++ r ∷ []) t)) last
          ∙ ap (option_map node_of) (get_last nodes r) ∙ sym at
          ∙ ap (slice_get s.nodes) (sym here)

  -- the node at the place of the next turn is reachable
  pub is_reachable_there : (start : Node → Bool) → AreReachable s.nodes start calls before
      → is_reachable s.nodes start calls (length order) (node_of r) ≡ true
  is_reachable_there start e =
      ap (holds (is_reachable s.nodes start calls (length order))) (sym at)
      ∙ all_at (λ p. holds (is_reachable s.nodes start calls (length order)) (slice_get s.nodes p))
      order
      (length nodes) place (h.reachable start e) next

  callee_reachable : (start : Node → Bool) → AreReachable s.nodes start calls before
      → (j : ℕ) (c : CallSite)
      → slice_get r.calls.items j ≡ Some c
      → holds (is_reachable s.nodes start calls (suc (length order)))
      (slice_get s.nodes c.callee.0)
      ≡ true
  callee_reachable start e j c call =
      let site = all_at (is_site_within (length (map (λ n. n.name) s.nodes)) (counts_of r))
      r.calls.items j c is.calls_within call in
      let lt : nat_lt c.callee.0 (length s.nodes) ≡ true =
      ap (nat_lt c.callee.0) (sym (length-map s.nodes (λ n. n.name))) ∙ and_first _ _ site in
      there s.nodes c.callee.0 (is_reachable s.nodes start calls (suc (length order))) lt
      (λ a found. reachable_next s.nodes start calls (length order) place a (node_of r) at
      (is_reachable_there start e) (called_there s r is j c a call found))

  pub more_resolved : named_in s (node_of r) ≡ true → AreResolved s before after (nodes ++ r ∷ [])
  more_resolved named = record {
    resolved = All-push (IsResolved (map (λ n. n.name) s.nodes)) nodes r h.resolved is;
    named = list_all-append (λ n. named_in s (node_of n)) nodes (r ∷ [])
        ∙ and_from _ _ h.named (and_from _ _ named refl);
    few = omega (arith, below, grown.longer, length-append nodes (r ∷ []));
    stands = stands_more;
    grows = grows_both before order after h.grows grown;
    linked =
        list_all-append (are_called after) nodes (r ∷ [])
        ∙ and_from _ _ (all_on (are_called order) (are_called after) nodes
        (λ n. all_on _ _ n.calls.items (λ c. grown.still c.callee.0)) h.linked)
        (and_from _ _ (sym (all_map (is_visited after) (λ c. c.callee.0) r.calls.items)
        ∙ visited_all order places) refl);
    reachable = λ start e.
        reachable_visits s.nodes start calls (length order) order places (omega arith)
        (h.reachable start e)
        (all_map (λ p. holds (is_reachable s.nodes start calls (suc (length order)))
        (slice_get s.nodes p)) (λ c. c.callee.0) r.calls.items
        ∙ all_from (λ c. holds (is_reachable s.nodes start calls (suc (length order)))
        (slice_get s.nodes c.callee.0)) r.calls.items (callee_reachable start e));
  }

-- ## A fault

pub refuted : (a b : Bool) → (b ≡ true → a ≡ true) → a ≡ false → b ≡ false
refuted a true f e = let t = f refl in absurd cc
refuted a false f e = refl

-- an item that the filter keeps passes `f`, if each item of the filtered list does
pub kept_passes : {A : Type 0} (f p : A → Bool) (xs : List A) (i : ℕ) (x : A)
    → slice_get xs i ≡ Some x → p x ≡ true → list_all f (filter p xs) ≡ true → f x ≡ true
kept_passes f p [] i x at is all = absurd cc
kept_passes f p (y ∷ ys) zero x at is all =
    let same : y ≡ x = cc in
    by (p y) (subst (λ z. p z ≡ true) (sym same) is) all
  where
    by : (b : Bool) → b ≡ true → list_all f (cond b (y ∷ filter p ys) (filter p ys)) ≡ true
        → f x ≡ true
    by true e all = let same : y ≡ x = cc in subst (λ z. f z ≡ true) same (and_first (f y) _ all)
    by false e all = absurd cc
kept_passes f p (y ∷ ys) (suc i) x at is all = kept_passes f p ys i x at is (by (p y) all)
  where
    by : (b : Bool) → list_all f (cond b (y ∷ filter p ys) (filter p ys)) ≡ true
        → list_all f (filter p ys) ≡ true
    by true all = and_second (f y) _ all
    by false all = all

-- an item that is reachable in `k` steps passes `f`, if all that are reached within `m ≥ k` steps
-- do
pub reachable_passes : {A : Type 0} (items : List A) (start : A → Bool) (step : A → A → Bool)
    (f : A → Bool) (k m p : ℕ) (a : A) → slice_get items p ≡ Some a
    → k ≤ m → is_reachable items start step k a ≡ true
    → list_all f (within items start step m) ≡ true
    → f a ≡ true
reachable_passes items start step f k m p a at le reachable all =
    kept_passes f (is_reachable items start step m) items p a at
    (reachable_by items start step k m a le reachable)
    (ap (list_all f) (sym (within_is items start step m)) ∙ all)

pub fault_there : (e : StaticError) (s : Source) (before order : List ℕ) (nodes : List ResolvedNode)
    (place : ℕ) (n : Node) (start : Node → Bool) → AreResolved s before order nodes
    → slice_get order (length nodes) ≡ Some place → slice_get s.nodes place ≡ Some n
    → length order ≤ length s.nodes → AreReachable s.nodes start calls before
    → IsNameFault e (told_in e s n)
    → IsNameFault e (list_all (told_in e s) (within s.nodes start calls (length s.nodes)))
fault_there e s before order nodes place n start h next at few begins fault =
    let reachable : is_reachable s.nodes start calls (length order) n ≡ true =
    ap (holds (is_reachable s.nodes start calls (length order))) (sym at)
    ∙ all_at (λ p. holds (is_reachable s.nodes start calls (length order)) (slice_get s.nodes p))
    order
    (length nodes) place (h.reachable start begins) next in
    fault_within e _ _ fault
    (refuted _ _ (reachable_passes s.nodes start calls (told_in e s) (length order) (length s.nodes)
    place
    n at few reachable))
