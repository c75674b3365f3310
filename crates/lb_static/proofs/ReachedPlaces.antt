-- The nodes that came up in the walk are those that are reached by name.
use Rattle.std.proofs.Common.{◌≡◌, ℕ, zero, suc, ◌<◌, ◌≤◌, Bool, true, false, List, [], ◌∷◌, ◌++◌}
use Rattle.std.proofs.Common.{length, map, All, get_or, Option, Some, None, is_some, option_map}
use Rattle.std.proofs.Common.{refl, ap, sym, subst, ◌∙◌, arith}
use Rattle.std.specs.Prelude.{◌&&◌, ◌||◌, not, nat_lt, slice_get, filter, cond, ◌↔◌}
use Rattle.std.specs.List.{list_any, Contains}
use Rattle.std.specs.Str.{bytes_eq}
use Rattle.std.proofs.lemmas.Bool.Decides.{nat_tests}
use Rattle.std.proofs.lemmas.List.{length-map}
use Rattle.std.proofs.lemmas.Option.{slice_get-map, slice_get-get_or, slice_get_within}
use Rattle.std.proofs.lemmas.Option.{get_or_from_slice_get}
use Rattle.std.proofs.lemmas.Slice.Eq.{bytes_eq-Decides}
use Rattle.std.proofs.lemmas.Bool.{and_from, or_left, or_right}
use Rattle.std.proofs.lemmas.Map.Keys.{any_passes_from_place}
use Rattle.lb_syntax.specs.Lists.{◌>>=◌, holds, either_or}
use Rattle.lb_syntax.specs.Tree.{Name, Node, Source}
use Rattle.lb_syntax.proofs.TruthValues.{and_first, and_second}
use Rattle.lb_syntax.proofs.ListPlaces.{all_at, all_from}
use Rattle.lb_static.specs.CalledNodes.{AreResolved, AreStarts, IsStart, are_called, are_named}
use Rattle.lb_static.specs.CalledNodes.{ids_of, node_at}
use Rattle.lb_static.specs.SourceNames.{constants_in, names_in_source}
use Rattle.lb_static.specs.Instances.{Program, node_named, node_sites}
use Rattle.lb_static.specs.NameFaults.{named_in, alone}
use Rattle.lb_static.specs.Names.{are_distinct, calls, is_named, reached_nodes, reached_within}
use Rattle.lb_static.specs.Names.{start_names}
use Rattle.lb_static.specs.Parts.{among}
use Rattle.lb_static.specs.ReachedNodes.{IsReached, are_linked, id_at, is_linked, tree_at, trees}
use Rattle.lb_static.specs.ResolvedNodes.{IsResolved, counts_of, node_of, statics_of}
use Rattle.lb_static.specs.ResolvedTerms.{is_site_within, site_of}
use Rattle.lb_static.specs.WorkLists.{AreReachable, HasTurns, is_reachable, is_visited, within}
use Rattle.lb_static.specs.declared.reachable.NodeId.{NodeId}
use Rattle.lb_static.specs.declared.reachable.Reached.{Reached}
use Rattle.lb_static.specs.declared.resolved.CallSite.{CallSite}
use Rattle.lb_static.specs.declared.resolved.NodePlace.{NodePlace}
use Rattle.lb_static.specs.declared.resolved.ResolvedNode.{ResolvedNode}
use Rattle.lb_static.proofs.Reachability.{closed_has, reachable_by, reachable_visit, within_is}
use Rattle.lb_static.proofs.TestedItems.{found_passes}
use Rattle.lb_static.proofs.WorkLists.{any_at, as_few, at_visited, grows_once, visited_at}
use Rattle.lb_static.proofs.Growth.{all_on}

-- ## Distinct names

one_place : (x : Name) (xs : List Name) (i : ℕ) → not (among x xs) ≡ true → slice_get xs i ≡ Some x
    → ⊥
one_place x xs i e at = by (among x xs) e
    (any_passes_from_place (bytes_eq x) xs i x at ((bytes_eq-Decides x x).1 refl))
  where
    by : (b : Bool) → not b ≡ true → b ≡ true → ⊥
    by true e f = absurd cc
    by false e f = absurd cc

-- a name has only one place in a list of distinct names
pub distinct_places : (xs : List Name) (i j : ℕ) (x : Name) → are_distinct xs ≡ true
    → slice_get xs i ≡ Some x → slice_get xs j ≡ Some x → i ≡ j
distinct_places [] i j x d e f = absurd cc
distinct_places (y ∷ ys) zero zero x d e f = refl
distinct_places (y ∷ ys) zero (suc j) x d e f =
    let same : y ≡ x = cc in
    absurd (one_place y ys j (and_first _ (are_distinct ys) d) (f ∙ ap Some (sym same)))
distinct_places (y ∷ ys) (suc i) zero x d e f =
    let same : y ≡ x = cc in
    absurd (one_place y ys i (and_first _ (are_distinct ys) d) (e ∙ ap Some (sym same)))
distinct_places (y ∷ ys) (suc i) (suc j) x d e f =
    ap suc (distinct_places ys i j x (and_second (not (among y ys)) _ d) e f)

pub distinct_last : (xs ys : List Name) → are_distinct (xs ++ ys) ≡ true → are_distinct ys ≡ true
distinct_last [] ys d = d
distinct_last (x ∷ xs) ys d = distinct_last xs ys (and_second (not (among x (xs ++ ys))) _ d)

-- two nodes with one name have one place, in a source with distinct names
pub node_places : (s : Source) (i j : ℕ) (m n : Node) → are_distinct (names_in_source s) ≡ true
    → slice_get s.nodes i ≡ Some m → slice_get s.nodes j ≡ Some n → m.name ≡ n.name → i ≡ j
node_places s i j m n d e f same =
    distinct_places (map (λ k. k.name) s.nodes) i j n.name (distinct_last (constants_in s) _ d)
    (slice_get-map (λ k. k.name) s.nodes i ∙ ap (option_map (λ k. k.name)) e ∙ ap Some same)
    (slice_get-map (λ k. k.name) s.nodes j ∙ ap (option_map (λ k. k.name)) f)

-- ## The starts of the walk

pub is_name : (P : Program) (x : Name) (n : Node) → node_named P x ≡ Some n → n.name ≡ x
is_name P x n e = (bytes_eq-Decides n.name x).0
    (found_passes (λ m. bytes_eq m.name x) P.source.nodes n e)

abbrev begins : Program → Node → Bool
begins P n = among n.name (start_names P)

record Begun (s : Source) (x : Name) (place : ℕ) : Type 0 where
  node : Node
  at : slice_get s.nodes place ≡ Some node
  found : node_named (alone s) x ≡ Some node
  name : node.name ≡ x

begun : (s : Source) (x : Name) (before after : List ℕ) (id : NodeId)
    (h : IsStart s x before after id) → Begun s x h.place
begun s x before after id h = by (slice_get s.nodes h.place) refl
  where
    by : (o : Option Node) → slice_get s.nodes h.place ≡ o → Begun s x h.place
    by None e =
        let at = slice_get-get_or s.nodes h.place
        (record {
          name = [];
          is_function = false;
          parameters =
              [];
          inputs = [];
          outputs = [];
          locals = [];
          body = [];
        }) h.within in
        absurd cc
    by (Some n) e = let found = sym h.found
        ∙ e in record { node = n; at = e; found = found; name = is_name (alone s) x n found }

-- places stay reachable with the node of a start
start_reachable : (P : Program) (x : Name) (before after : List ℕ) (id : NodeId)
    → IsStart P.source x before after id → among x (start_names P) ≡ true
    → AreReachable P.source.nodes (begins P) calls before
    → AreReachable P.source.nodes (begins P) calls after
start_reachable P x before after id h is reachable =
    let b = begun P.source x before after id h in
    let first : begins P b.node ≡ true = ap (λ y. among y (start_names P)) b.name ∙ is in
    subst (AreReachable P.source.nodes (begins P) calls) (sym h.visited)
    (reachable_visit P.source.nodes (begins P) calls 0 h.place before (omega arith) reachable
    (ap (holds (is_reachable P.source.nodes (begins P) calls 1)) b.at
    ∙ reachable_by P.source.nodes (begins P) calls 0 1 b.node (omega arith) first))

-- each node with the name of a start came up
start_visited : (P : Program) (x : Name) (before after : List ℕ) (id : NodeId)
    → IsStart P.source x before after id → are_distinct (names_in_source P.source) ≡ true
    → (place : ℕ) (n : Node) → slice_get P.source.nodes place ≡ Some n → bytes_eq n.name x ≡ true
    → is_visited after place ≡ true
start_visited P x before after id h d place n at same =
    let b = begun P.source x before after id h in
    let here = node_places P.source place h.place n b.node d at b.at
    ((bytes_eq-Decides n.name x).0 same ∙ sym b.name) in
    ap (is_visited after) here ∙ at_visited after id.0 h.place h.at

start_at : (s : Source) (x : Name) (before after : List ℕ) (id : NodeId)
    → IsStart s x before after id → node_at s after id ≡ node_named (alone s) x
start_at s x before after id h = ap (λ o. o >>= slice_get s.nodes) h.at ∙ h.found

or_cases : {C : Type 0} (a b : Bool) → (a || b) ≡ true → (a ≡ true → C) → (b ≡ true → C) → C
or_cases true b e f g = f refl
or_cases false b e f g = g e

pub one_start : (s : Source) (x : Name) (o : Option Name) (none after : List ℕ) (id : NodeId)
    → o ≡ None → none ≡ [] → are_distinct (names_in_source s) ≡ true → IsStart s x none after id
    → AreStarts (record { source = s; root = x; observer = o }) after id None
one_start s x o none after id alone empty d h =
    subst (λ p. AreStarts (record { source = s; root = x; observer = p }) after id None) (sym alone)
    (record {
      there = ap (λ p. is_some p && true) (begun s x none after id h).found;
      reachable = start_reachable P x none after id h
          (or_left (bytes_eq x x) _ ((bytes_eq-Decides x x).1 refl))
          (subst (AreReachable s.nodes (begins P) calls) (sym empty) refl);
      all = λ place n at is. or_cases (bytes_eq n.name x) _ is
          (start_visited P x none after id h d place n at) (λ no. absurd cc);
      at_root = start_at s x none after id h;
      came = λ i e. absurd cc;
      at_observer = refl;
    })
  where
    P : Program
    P = record { source = s; root = x; observer = None }

pub two_starts : (s : Source) (x y : Name) (o : Option Name) (none middle after : List ℕ)
    (root observer : NodeId) → o ≡ Some y → none ≡ [] → are_distinct (names_in_source s) ≡ true
    → IsStart s x none middle root → IsStart s y middle after observer
    → AreStarts (record { source = s; root = x; observer = o }) after root (Some observer)
two_starts s x y o none middle after root observer there empty d h k =
    subst (λ p. AreStarts (record { source = s; root = x; observer = p }) after root
    (Some observer)) (sym there)
    (record {
      there = ap (λ p. is_some p && (is_some (node_named P y) && true))
          (begun s x none middle root h).found
          ∙ ap (λ p. is_some p && true) (begun s y middle after observer k).found;
      reachable =
          start_reachable P y middle after observer k
          (or_right (bytes_eq y x) _ (or_left (bytes_eq y y) _ ((bytes_eq-Decides y y).1 refl)))
          (start_reachable P x none middle root h
          (or_left (bytes_eq x x) _ ((bytes_eq-Decides x x).1 refl))
          (subst (AreReachable s.nodes (begins P) calls) (sym empty) refl));
      all = λ place n at is. or_cases (bytes_eq n.name x) _ is
          (λ same. still place (start_visited P x none middle root h d place n at same))
          (λ rest. or_cases (bytes_eq n.name y) _ rest
          (start_visited P y middle after observer k d place n at) (λ no. absurd cc));
      at_root = ap (λ p. p >>= slice_get s.nodes) (root_kept ∙ sym h.at)
          ∙ start_at s x none middle root h;
      came = λ i e.
          let same : observer ≡ i = cc in
          ap (λ j. is_some (node_at s after j)) (sym same)
          ∙ ap is_some (start_at s y middle after observer k
          ∙ (begun s y middle after observer k).found);
      at_observer = start_at s y middle after observer k;
    })
  where
    P : Program
    P = record { source = s; root = x; observer = Some y }

    still : (place : ℕ) → is_visited middle place ≡ true → is_visited after place ≡ true
    still place e = ap (λ l. is_visited l place) k.visited
        ∙ (grows_once middle k.place).still place e

    root_kept : slice_get after root.0 ≡ Some h.place
    root_kept = ap (λ l. slice_get l root.0) k.visited
        ∙ (grows_once middle k.place).kept root.0 h.place h.at

-- the place of a call is the place of the node with that name
called_place : (s : Source) (i p : ℕ) (a : Node) → are_distinct (names_in_source s) ≡ true
    → nat_lt i (length (map (λ n. n.name) s.nodes)) ≡ true
    → either_or (slice_get (map (λ n. n.name) s.nodes) i) [] ≡ a.name → slice_get s.nodes p ≡ Some a
    → i ≡ p
called_place s i p a d below name at =
    let names = map (λ n. n.name) s.nodes in
    let lt : i < length names = grind (arith, nat_tests) in
    let there = slice_get-get_or names i [] lt in
    distinct_places names i p a.name (distinct_last (constants_in s) _ d)
    (there ∙ ap Some (ap (λ o. either_or o []) (sym there) ∙ name))
    (slice_get-map (λ n. n.name) s.nodes p ∙ ap (option_map (λ n. n.name)) at)

-- ## Reached nodes as reached items

pub reached_is : (P : Program) (start : Node → Bool) (k : ℕ)
    → reached_within P start k ≡ within P.source.nodes start calls k
reached_is P start zero = refl
reached_is P start (suc k) =
    ap (λ b. filter (λ m. start m || list_any (λ n. calls n m) b) P.source.nodes)
    (reached_is P start k)

pub contained : {A : Type 0} (xs : List A) (i : ℕ) (x : A) → slice_get xs i ≡ Some x → Contains xs x
contained xs i x e = (i, slice_get_within xs i x e, get_or_from_slice_get xs i x x e)

pub record Place {A : Type 0} (xs : List A) (x : A) : Type 0 where
  pub place : ℕ
  pub at : slice_get xs place ≡ Some x

pub place_of : {A : Type 0} (xs : List A) (x : A) → Contains xs x → Place xs x
place_of xs x c = record { place = c.0; at = slice_get-get_or xs c.0 x c.1 ∙ ap Some c.2 }

-- an item that passes the filter has a place in the filtered list
filtered_at : {A : Type 0} (p : A → Bool) (xs : List A) (i : ℕ) (x : A) → slice_get xs i ≡ Some x
    → p x ≡ true → Place (filter p xs) x
filtered_at p [] i x e h = absurd cc
filtered_at {A = A} p (y ∷ ys) i x e h = by (p y) refl i e (λ j f. filtered_at p ys j x f h)
  where
    later : Place (filter p ys) x → Place (y ∷ filter p ys) x
    later f = record { place = suc f.place; at = f.at }

    by : (b : Bool) → p y ≡ b → (i : ℕ) → slice_get (y ∷ ys) i ≡ Some x
        → ((j : ℕ) → slice_get ys j ≡ Some x → Place (filter p ys) x)
        → Place (cond b (y ∷ filter p ys) (filter p ys)) x
    by true g zero e next = record { place = 0; at = e }
    by true g (suc i) e next = later (next i e)
    by false g zero e next = let same : y ≡ x =
        cc in let yes : p y ≡ true = subst (λ z. p z ≡ true) (sym same) h in absurd cc
    by false g (suc i) e next = next i e

pub record Kept {A : Type 0} (p : A → Bool) (xs : List A) (x : A) : Type 0 where
  pub place : ℕ
  pub at : slice_get xs place ≡ Some x
  pub passes : p x ≡ true

-- an item of the filtered list is an item of the list that passes
pub filtered_from : {A : Type 0} (p : A → Bool) (xs : List A) (i : ℕ) (x : A)
    → slice_get (filter p xs) i ≡ Some x → Kept p xs x
filtered_from p [] i x e = absurd cc
filtered_from {A = A} p (y ∷ ys) i x e = by (p y) refl i e (λ j f. filtered_from p ys j x f)
  where
    later : Kept p ys x → Kept p (y ∷ ys) x
    later f = record { place = suc f.place; at = f.at; passes = f.passes }

    by : (b : Bool) → p y ≡ b → (i : ℕ)
        → slice_get (cond b (y ∷ filter p ys) (filter p ys)) i ≡ Some x
        → ((j : ℕ) → slice_get (filter p ys) j ≡ Some x → Kept p ys x) → Kept p (y ∷ ys) x
    by true g zero e next = let same : y ≡ x =
        cc in record { place = 0; at = e; passes = subst (λ z. p z ≡ true) same g }
    by true g (suc i) e next = later (next i e)
    by false g i e next = later (next i e)

pub all_item : {A : Type 0} (C : A → Type 0) (xs : List A) (i : ℕ) (x : A) → All C xs
    → slice_get xs i ≡ Some x → C x
all_item C xs i x all e =
    subst C (get_or_from_slice_get xs i x x e) (all i x (slice_get_within xs i x e))

pub record From {A B : Type 0} (f : A → B) (xs : List A) (i : ℕ) (y : B) : Type 0 where
  pub item : A
  pub at : slice_get xs i ≡ Some item
  pub is : f item ≡ y

pub mapped_from : {A B : Type 0} (f : A → B) (xs : List A) (i : ℕ) (y : B)
    → slice_get (map f xs) i ≡ Some y → From f xs i y
mapped_from {A = A} {B = B} f xs i y e = by (slice_get xs i) refl (sym (slice_get-map f xs i) ∙ e)
  where
    by : (o : Option A) → slice_get xs i ≡ o → option_map f o ≡ Some y → From f xs i y
    by None h e = absurd cc
    by (Some x) h e = record { item = x; at = h; is = cc }

module _ (P : Program) (before order : List ℕ) (nodes : List ResolvedNode) (root : NodeId)
    (observer : Option NodeId)
    (once : are_distinct (names_in_source P.source) ≡ true)
    (begun : AreStarts P before root observer)
    (h : AreResolved P.source before order nodes) (all : length nodes ≡ length order)
    (few : length order ≤ length P.source.nodes) where
  -- the node that is resolved at a turn is the node of the source at the place of that turn
  stands : (turn place : ℕ) → slice_get order turn ≡ Some place
      → slice_get (map node_of nodes) turn ≡ slice_get P.source.nodes place
  stands turn place at =
      let below : turn < length nodes = omega (arith, slice_get_within order turn place at, all) in
      h.stands turn place below at

  reachable : AreReachable P.source.nodes (begins P) calls order
  reachable = h.reachable (begins P) begun.reachable

  -- a node that a node that came up calls came up too
  closed : (p q : ℕ) (a b : Node) → slice_get P.source.nodes q ≡ Some b
      → slice_get P.source.nodes p ≡ Some a → is_visited order q ≡ true → calls b a ≡ true
      → is_visited order p ≡ true
  closed p q a b at_b at_a came is_called =
      let t = visited_at order q came in
      let r = mapped_from node_of nodes t.turn b (stands t.turn q t.at ∙ at_b) in
      let resolved = all_item (IsResolved (map (λ n. n.name) P.source.nodes)) nodes t.turn r.item
      h.resolved r.at in
      let linked = all_at (are_called order) nodes t.turn r.item h.linked r.at in
      let site = any_at (λ s. bytes_eq s.callee a.name) (node_sites b) is_called in
      let call = mapped_from (site_of (map (λ n. n.name) P.source.nodes) (statics_of r.item))
      r.item.calls.items site.place site.item
      (ap (λ l. slice_get l site.place) (resolved.calls ∙ ap node_sites r.is) ∙ site.at) in
      let name = ap (λ s. s.callee) call.is
      ∙ (bytes_eq-Decides site.item.callee a.name).0 site.passes in
      let within = and_first (nat_lt call.item.callee.0 (length (map (λ n. n.name) P.source.nodes)))
      _ (all_at (is_site_within (length (map (λ n. n.name) P.source.nodes)) (counts_of r.item))
      r.item.calls.items site.place call.item resolved.calls_within call.at) in
      let here = called_place P.source call.item.callee.0 p a once within name at_a in
      ap (is_visited order) (sym here)
      ∙ all_at (λ s. is_visited order s.callee.0) r.item.calls.items site.place call.item linked
      call.at

  starts_visited : (p : ℕ) (a : Node) → slice_get P.source.nodes p ≡ Some a → begins P a ≡ true
      → is_visited order p ≡ true
  starts_visited p a at is = h.grows.still p (begun.all p a at is)

  same_nodes : reached_nodes P
      ≡ filter (is_reachable P.source.nodes (begins P) calls (length P.source.nodes))
      P.source.nodes
  same_nodes = reached_is P (begins P) (length P.source.nodes)
      ∙ within_is P.source.nodes (begins P) calls (length P.source.nodes)

  to_reached : (n : Node) → Contains (map node_of nodes) n → Contains (reached_nodes P) n
  to_reached n c =
      let k = place_of (map node_of nodes) n c in
      let below : k.place < length order = omega (
        arith,
        slice_get_within (map node_of nodes) k.place n k.at,
        length-map nodes node_of,
        all,
      ) in
      let turn = slice_get-get_or order k.place 0 below in
      let place = get_or order k.place 0 in
      let at = sym (stands k.place place turn) ∙ k.at in
      let is = ap (holds (is_reachable P.source.nodes (begins P) calls (length order))) (sym at)
      ∙ all_at (λ p. holds (is_reachable P.source.nodes (begins P) calls (length order))
      (slice_get P.source.nodes p)) order k.place place reachable turn in
      let f = filtered_at (is_reachable P.source.nodes (begins P) calls (length P.source.nodes))
      P.source.nodes place n at
      (reachable_by P.source.nodes (begins P) calls (length order) (length P.source.nodes) n few
      is) in
      contained (reached_nodes P) f.place n (ap (λ l. slice_get l f.place) same_nodes ∙ f.at)

  from_reached : (n : Node) → Contains (reached_nodes P) n → Contains (map node_of nodes) n
  from_reached n c =
      let k = place_of (reached_nodes P) n c in
      let f = filtered_from (is_reachable P.source.nodes (begins P) calls (length P.source.nodes))
      P.source.nodes k.place n (ap (λ l. slice_get l k.place) (sym same_nodes) ∙ k.at) in
      let came = closed_has P.source.nodes (begins P) calls order starts_visited closed
      (length P.source.nodes) f.place n f.at f.passes in
      let t = visited_at order f.place came in
      contained (map node_of nodes) t.turn n (stands t.turn f.place t.at ∙ f.at)

  pub same : (n : Node) → Contains (map node_of nodes) n ↔ Contains (reached_nodes P) n
  same n = (to_reached n, from_reached n)

  pub named : are_named P ≡ true
  named = and_from _ _ begun.there
      (all_from (is_named P) (reached_nodes P)
      (λ i n at. passes n (from_reached n (contained (reached_nodes P) i n at))))
    where
      passes : (n : Node) → Contains (map node_of nodes) n → is_named P n ≡ true
      passes n c =
          let k = place_of (map node_of nodes) n c in
          let r = mapped_from node_of nodes k.place n k.at in
          ap (is_named P) (sym r.is)
          ∙ all_at (λ m. named_in P.source (node_of m)) nodes k.place r.item h.named r.at

-- ## The reached nodes

abbrev number : ℕ → NodeId
number turn = record { 0 = turn }

module _ (P : Program) (before order : List ℕ) (r : Reached) (turns : List (Option ℕ))
    (begun : AreStarts P before r.root r.observer)
    (h : AreResolved P.source before order r.nodes.items)
    (all : length r.nodes.items ≡ length order) (has : HasTurns order turns)
    (ids : r.ids.items ≡ ids_of turns) where
  -- the tree of the reached node at a turn is the node of the source at the place of that turn
  tree_is : (turn place : ℕ) → slice_get order turn ≡ Some place
      → slice_get (trees r) turn ≡ slice_get P.source.nodes place
  tree_is turn place at =
      let below : turn < length r.nodes.items =
      omega (arith, slice_get_within order turn place at, all) in
      h.stands turn place below at

  start_tree : (id : NodeId) (n : Node) → node_at P.source before id ≡ Some n
      → tree_at r id ≡ Some n
  start_tree id n e = by (slice_get before id.0) refl e
    where
      by : (o : Option ℕ) → slice_get before id.0 ≡ o → (o >>= slice_get P.source.nodes) ≡ Some n
          → tree_at r id ≡ Some n
      by None at e = absurd cc
      by (Some p) at e = tree_is id.0 p (h.grows.kept id.0 p at) ∙ e

  is_tree : (id : NodeId) → is_some (node_at P.source before id) ≡ true
      → tree_at r id ≡ node_at P.source before id
  is_tree id e = by (node_at P.source before id) refl e
    where
      by : (o : Option Node) → node_at P.source before id ≡ o → is_some o ≡ true → tree_at r id ≡ o
      by None at e = absurd cc
      by (Some n) at e = start_tree id n at

  root_is_there : is_some (node_at P.source before r.root) ≡ true
  root_is_there = ap is_some begun.at_root ∙ and_first (is_some (node_named P P.root)) _ begun.there

  root_below : r.root.0 < length r.nodes.items
  root_below = by (tree_at r r.root) refl
      (ap is_some (is_tree r.root root_is_there) ∙ root_is_there)
    where
      by : (o : Option Node) → tree_at r r.root ≡ o → is_some o ≡ true
          → r.root.0 < length r.nodes.items
      by None at e = absurd cc
      by (Some n) at e = omega
          (arith, slice_get_within (trees r) r.root.0 n at, length-map r.nodes.items node_of)

  observer_is : (o : Option NodeId) → r.observer ≡ o
      → (o >>= node_at P.source before) ≡ (P.observer >>= node_named P)
      → (o >>= tree_at r) ≡ (P.observer >>= node_named P)
  observer_is None same e = e
  observer_is (Some id) same e = is_tree id (begun.came id same) ∙ e

  -- the id of a node is the turn of its place
  id_of_turn : (place : NodePlace) (o : Option (Option ℕ)) → slice_get turns place.0 ≡ o
      → id_at r place ≡ (o >>= λ t. option_map number t)
  id_of_turn place o e =
      ap (λ l. slice_get l place.0 >>= λ i. i) ids
      ∙ ap (λ p. p >>= λ i. i) (slice_get-map (λ t. option_map number t) turns place.0)
      ∙ by (slice_get turns place.0) ∙ ap (λ p. p >>= λ t. option_map number t) e
    where
      by : (p : Option (Option ℕ))
          → (option_map (λ t. option_map number t) p >>= λ i. i) ≡ (p >>= λ t. option_map number t)
      by None = refl
      by (Some t) = refl

  found_is : (place : NodePlace) (id : NodeId) → id_at r place ≡ Some id
      → tree_at r id ≡ slice_get P.source.nodes place.0
  found_is place id e = by (slice_get turns place.0) refl
      (sym (id_of_turn place (slice_get turns place.0) refl) ∙ e)
    where
      by : (o : Option (Option ℕ)) → slice_get turns place.0 ≡ o
          → (o >>= λ t. option_map number t) ≡ Some id
          → tree_at r id ≡ slice_get P.source.nodes place.0
      by None at e = absurd cc
      by (Some None) at e = absurd cc
      by (Some (Some t)) at e =
          let same : t ≡ id.0 = ap (λ o. either_or (option_map (λ (i : NodeId). i.0) o) t) e in
          tree_is id.0 place.0 (ap (slice_get order) (sym same) ∙ has.found place.0 t at)

  linked_is : (s : CallSite) → is_visited order s.callee.0 ≡ true → is_linked r s ≡ true
  linked_is s e = by (slice_get turns s.callee.0) refl (sym (has.seen s.callee.0) ∙ e)
    where
      by : (o : Option (Option ℕ)) → slice_get turns s.callee.0 ≡ o → holds is_some o ≡ true
          → is_linked r s ≡ true
      by None at e = absurd cc
      by (Some None) at e = absurd cc
      by (Some (Some t)) at e =
          let below = slice_get_within order t s.callee.0 (has.found s.callee.0 t at) in
          let lt : nat_lt t (length r.nodes.items) ≡ true = grind (arith, nat_tests) in
          ap (holds (λ (id : NodeId). nat_lt id.0 (length r.nodes.items)))
          (id_of_turn s.callee (Some (Some t)) at) ∙ lt

  pub is_reached : are_distinct (names_in_source P.source) ≡ true
      → length turns ≡ length P.source.nodes → IsReached P r
  is_reached once many =
      let fewer : length order ≤ length P.source.nodes = omega (arith, as_few order turns has) in
      record {
        resolved = h.resolved;
        same = same P before order r.nodes.items r.root r.observer once begun h all fewer;
        root = is_tree r.root root_is_there ∙ begun.at_root;
        root_within = root_below;
        observer = observer_is r.observer refl begun.at_observer;
        as_many = ap length ids ∙ length-map turns (λ t. option_map number t) ∙ many;
        found = found_is;
        linked = all_on (are_called order) (are_linked r) r.nodes.items
            (λ n. all_on (λ s. is_visited order s.callee.0) (is_linked r) n.calls.items
            linked_is) h.linked;
      }
