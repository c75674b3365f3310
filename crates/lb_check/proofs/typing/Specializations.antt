-- The specializations of a program: rules on them hold of instances and nodes; their sizes.
use Rattle.lb_check.proofs.Words
use Words.{Bool, Contains, In, Instance, IsTable, List, Node, NodeId, None, Option, Path, Program}
use Words.{Reached, Some, Specialization, Table, [], all_at, all_from, all_in, and-true, and_assoc}
use Words.{and_first, and_second, ap, append-nil, arith, both_ways, cond, drop, drop_all, drop_more}
use Words.{either_or, expression_size, false, find, get_or, get_or_from_slice_get, holds, inl, inr}
use Words.{instance_of, instances, is_small, item_at, length, list_all, map, nat_lt, nat_tests}
use Words.{node_parts, not, not-false, option_map, refl, size, slice_get, slice_get_within}
use Words.{slice_index_or, specialized_at, subst, suc, sum_by, sum_by-cons, sum_by_more, sym, take}
use Words.{tree_at, true, zero, zip2, ℕ, ◌&&◌, ◌++◌, ◌+◌, ◌<◌, ◌∙◌, ◌∷◌, ◌≡◌, ◌≤◌, ◌⊎◌}
use Rattle.{lb_check.specs.TypeRules.instance_size, lb_static.proofs.InstanceRows.paths_length}
use Rattle.{lb_static.specs.InstanceTable.{paths_of, row_at}, std.proofs.lemmas.List.take_all}
use Rattle.lb_static.specs.declared.table.Instance as row

-- A rule on a specialization alone holds of each instance exactly where it holds of each
-- specialization.

-- a number among those that rows give is that of a row
place_of : (f : row.Instance → ℕ) (rows : List row.Instance) (k i : ℕ) → k < length (map f rows) →
    slice_index_or (map f rows) k i ≡ i
    → (found : row.Instance) × (slice_get rows k ≡ Some found) × (f found ≡ i)
place_of f [] k i lt e = absurd (omega arith)
place_of f (x ∷ rows) zero i lt e = (x, refl, e)
place_of f (x ∷ rows) (suc k) i lt e = place_of f rows k i (omega arith) e

-- ## The instance of a specialization

module _ (P : Program) (r : Reached) (t : Table) where
  pub row_held : (p : Path) (i : row.Instance) (here : Instance) → row_at r t p i ≡ Some here
      → (s : Specialization) × (slice_get t.specializations.items i.specialization.0 ≡ Some s)
      × (specialized_at r p s ≡ Some here)
  row_held p i here e = by (slice_get t.specializations.items i.specialization.0) e
    where
      by : (o : Option Specialization) →
          either_or (option_map (specialized_at r p) o) None ≡ Some here
          → (s : Specialization) × (o ≡ Some s) × (specialized_at r p s ≡ Some here)
      by None e = absurd cc
      by (Some s) e = (s, refl, e)

  -- a row stands for an instance
  row_shown : (ps : List Path) (rows : List row.Instance) (heres : List Instance) (k : ℕ)
      (i : row.Instance) → length ps ≡ length rows
      → zip2 (row_at r t) ps rows ≡ map Some heres → slice_get rows k ≡ Some i
      → (p : Path) × (here : Instance) × In here heres × (row_at r t p i ≡ Some here)
  row_shown ps [] heres k i long e at = absurd cc
  row_shown [] (j ∷ rows) heres k i long e at = absurd cc
  row_shown (p ∷ ps) (j ∷ rows) [] k i long e at = absurd cc
  row_shown (p ∷ ps) (j ∷ rows) (h ∷ heres) zero i long e at =
      let same : j ≡ i = cc in
      let one : row_at r t p j ≡ Some h = cc in
      (p, h, inl refl, subst (λ z. row_at r t p z ≡ Some h) same one)
  row_shown (p ∷ ps) (j ∷ rows) (h ∷ heres) (suc k) i long e at =
      let rest : zip2 (row_at r t) ps rows ≡ map Some heres = cc in
      let shown = row_shown ps rows heres k i (omega (arith, long)) rest at in
      (shown.0, shown.1, inr shown.2, shown.3)

  row_is : (p : Path) (w : row.Instance) (here : Instance) (i : ℕ) (s : Specialization) →
      row_at r t p w ≡ Some here
      → w.specialization.0 ≡ i → slice_get t.specializations.items i ≡ Some s →
      specialized_at r p s ≡ Some here
  row_is p w here i s e same at =
      sym (ap (λ o. either_or (option_map (specialized_at r p) o) None)
      (ap (slice_get t.specializations.items) same ∙ at)) ∙ e

  -- each specialization has an instance
  pub has_instance : IsTable P r t → (i : ℕ) (s : Specialization) →
      slice_get t.specializations.items i ≡ Some s
      → (p : Path) × (here : Instance) × In here (instances P) × (specialized_at r p s ≡ Some here)
  has_instance table i s at =
      let used = table.used i (slice_get_within t.specializations.items i s at) in
      let found = place_of (λ row. row.specialization.0) t.instances.items used.0 i used.1 used.2 in
      let longer = paths_length [] t.instances.items in
      let as_many : length (paths_of t) ≡ length t.instances.items = omega (arith, longer) in
      let shown = row_shown (paths_of t) t.instances.items
      (instances P) used.0 found.0 as_many table.instances found.1 in
      (shown.0, shown.1, shown.2, row_is shown.0 found.0 shown.1 i s shown.3 found.2 at)

-- ## Each specialization and each instance

module _ (P : Program) (r : Reached) (t : Table) (kept : Instance → Bool)
    (good : Specialization → Bool)
    (judged : (i : ℕ) (s : Specialization) → slice_get t.specializations.items i ≡ Some s
    → (p : Path) (here : Instance) → specialized_at r p s ≡ Some here → kept here ≡ good s) where
  row_judged : (p : Path) (i : row.Instance) (here : Instance) → row_at r t p i ≡ Some here →
      list_all good t.specializations.items ≡ true
      → kept here ≡ true
  row_judged p i here e all =
      let s = row_held P r t p i here e in
      judged i.specialization.0 s.0 s.1 p here s.2
      ∙ all_at good t.specializations.items i.specialization.0 s.0 all s.1

  all_instances : (ps : List Path) (rows : List row.Instance) (heres : List Instance) →
      zip2 (row_at r t) ps rows ≡ map Some heres
      → list_all good t.specializations.items ≡ true → list_all kept heres ≡ true
  all_instances ps rows [] e all = refl
  all_instances (p ∷ ps) (i ∷ rows) (h ∷ heres) e all =
      let one : row_at r t p i ≡ Some h = cc in
      let rest : zip2 (row_at r t) ps rows ≡ map Some heres = cc in
      rw (row_judged p i h one all) (all_instances ps rows heres rest all)
  all_instances _ _ _ e all = absurd cc

  pub each_judged : IsTable P r t →
      list_all good t.specializations.items ≡ list_all kept (instances P)
  each_judged table =
      both_ways _ _ (all_instances (paths_of t) t.instances.items (instances P) table.instances)
      (λ all. all_from good t.specializations.items (λ i s at.
      let h = has_instance P r t table i s at in
      sym (judged i s at h.0 h.1 h.3) ∙ all_in kept (instances P) h.1 all h.2))

-- A property holds of the node of each specialization exactly where it holds of the node of each
-- instance.

module _ (P : Program) (r : Reached) (t : Table) (table : IsTable P r t) (f : Node → Bool) where
  abbrev of_one : Specialization → Bool
  of_one s = holds f (tree_at r s.node)

  -- the instance at a row is of the node of its specialization
  same_node : (p : Path) (s : Specialization) (o : Option Node) (here : Instance) →
      option_map (λ n. instance_of p n s.values.items) o ≡ Some here
      → holds f o ≡ f here.node
  same_node p s None here e = absurd cc
  same_node p s (Some n) here e =
      let same : instance_of p n s.values.items ≡ here = cc in ap (λ (i : Instance). f i.node) same

  pub all_specializations : list_all of_one t.specializations.items ≡ list_all (λ here. f here.node)
      (instances P)
  all_specializations =
      each_judged P r t (λ here. f here.node) of_one
      (λ i s at p here is. sym (same_node p s (tree_at r s.node) here is)) table

-- The nodes of some specializations, each once.

with_last : (f : NodeId → Bool) (ids : List NodeId) (x : NodeId) →
    list_all f (ids ++ x ∷ []) ≡ (list_all f ids && f x)
with_last f [] x = and-true (f x)
with_last f (y ∷ ids) x = ap (λ b. f y && b) (with_last f ids x)
    ∙ sym (and_assoc (f y) (list_all f ids) (f x))

same_number : (k x : NodeId) → k.0 ≡ x.0 → x ≡ k
same_number k x e = ap id_of (sym e)
  where
    id_of : ℕ → NodeId
    id_of n = record { 0 = n }

abbrev pub nodes_in : List Specialization → List NodeId
nodes_in = map (λ s. s.node)

-- the first node that passes a test is the same in `ids` with the rest as in all
abbrev pub AreFirst : List NodeId → ℕ → List Specialization → Type 0
AreFirst ids i ss = (f : NodeId → Bool) →
    find f (ids ++ nodes_in (drop i ss)) ≡ find f (nodes_in ss)

pub all_first : (ids : List NodeId) (i : ℕ) (ss : List Specialization) → length ss ≤ i →
    AreFirst ids i ss → (f : NodeId → Bool) → find f ids ≡ find f (nodes_in ss)
all_first ids i ss le first f =
    sym (ap (find f) (ap (λ l. ids ++ nodes_in l) (drop_all i ss le) ∙ append-nil ids)) ∙ first f

-- each node that is flagged is among `ids`
abbrev pub AreThere : List NodeId → List Bool → Type 0
AreThere ids seen = (k : NodeId) → get_or seen k.0 false ≡ true → (f : NodeId → Bool) →
    list_all f ids ≡ true → f k ≡ true

-- a search does not find a node later that stands in the list already
not_found : (f : NodeId → Bool) (ids : List NodeId) (x : NodeId) (rest : List NodeId) →
    (list_all (λ k. not (f k)) ids ≡ true → not (f x) ≡ true)
    → find f (ids ++ rest) ≡ find f (ids ++ x ∷ rest)
not_found f [] x rest h = grind arith
not_found f (y ∷ ids) x rest h = grind (arith, not_found f ids x rest)

module _ (ids : List NodeId) (old new : List Bool) (ss : List Specialization) (i : ℕ)
    (s : Specialization) (lt : i < length ss) (is : s ≡ get_or ss i s)
    (there : AreThere ids old) (flagged : (k : ℕ) → get_or new k false ≡ true →
    (k ≡ s.node.0) ⊎ (get_or old k false ≡ true)) where
  pub next_node : nodes_in (drop i ss) ≡ (s.node ∷ nodes_in (drop (i + 1) ss))
  next_node = ap nodes_in (drop_more ss i s lt)
      ∙ ap (λ (x : Specialization). x.node ∷ nodes_in (drop (i + 1) ss)) (sym is)

  pub added_there : AreThere (ids ++ s.node ∷ []) new
  added_there k seen f all = elim (flagged k.0 seen) [
    | inl same ↦ subst (λ x. f x ≡ true) (same_number k s.node same)
        (and_second (list_all f ids) (f s.node) (sym (with_last f ids s.node) ∙ all))
    | inr was ↦ there k was f (and_first (list_all f ids) (f s.node)
        (sym (with_last f ids s.node) ∙ all))
  ]

  -- a node is there already
  module _ (known : not (get_or old s.node.0 false) ≡ false) where
    pub known_first : AreFirst ids i ss → AreFirst ids (i + 1) ss
    known_first first f =
        not_found f ids s.node (nodes_in (drop (i + 1) ss))
        (there s.node (not-false (get_or old s.node.0 false) known) (λ k. not (f k)))
        ∙ ap (λ ks. find f (ids ++ ks)) (sym next_node) ∙ first f

    pub known_there : AreThere ids new
    known_there k seen f all = elim (flagged k.0 seen) [
      | inl same ↦ subst (λ x. f x ≡ true) (same_number k s.node same)
          (there s.node (not-false (get_or old s.node.0 false) known) f all)
      | inr was ↦ there k was f all
    ]

-- The expressions of all specializations together have at most as many scalar elements as the
-- program.

-- ## Sums over places

module _ {A : Type 0} (f g : A → ℕ) (le : (x : A) → f x ≤ g x) where
  sum_below : (xs : List A) → sum_by f xs ≤ sum_by g xs
  sum_below [] = omega arith
  sum_below (x ∷ xs) =
      let rest = sum_below xs in
      let one = le x in
      let s = sum_by-cons f x xs in
      let u = sum_by-cons g x xs in
      omega (arith, rest, one, s, u)

  -- the sums of `f` and of `g` differ by no less than their values of one item
  sum_raised : (xs : List A) (k : ℕ) (x : A) → k < length xs → slice_index_or xs k x ≡ x →
      sum_by f xs + g x ≤ sum_by g xs + f x
  sum_raised [] k x lt e = absurd (omega arith)
  sum_raised (y ∷ xs) zero x lt e =
      let same : y ≡ x = e in
      let rest = sum_below xs in
      let s = sum_by-cons f y xs in
      let u = sum_by-cons g y xs in
      let a = ap f same in
      let b = ap g same in
      omega (arith, rest, s, u, a, b)
  sum_raised (y ∷ xs) (suc k) x lt e =
      let rest = sum_raised xs k x (omega (arith, lt)) e in
      let one = le y in
      let s = sum_by-cons f y xs in
      let u = sum_by-cons g y xs in
      omega (arith, rest, one, s, u)

module _ {A : Type 0} (f : A → ℕ) (xs : List A) where
  -- the value of `f` for the item at place `j`, or 0
  abbrev at : ℕ → ℕ
  at j = either_or (option_map f (slice_get xs j)) 0

  -- the value of `f` for the item at place `j` where that is below `n`, else 0
  abbrev below : ℕ → ℕ → ℕ
  below n j = cond (nat_lt j n) (at j) 0

  more_below : (n j : ℕ) → below n j ≤ below (n + 1) j
  more_below n j = grind (arith, nat_tests)

  all_below : (n j : ℕ) → below n j ≤ at j
  all_below n j = grind arith

  own : (n : ℕ) → below (n + 1) n ≡ at n
  own n = grind (arith, nat_tests)

  not_own : (n : ℕ) → below n n ≡ 0
  not_own n = grind (arith, nat_tests)

  module _ (js : List ℕ) (used : (i : ℕ) → i < length xs → Contains js i) where
    sum_spread : (n : ℕ) → n ≤ length xs → sum_by f (take n xs) ≤ sum_by (below n) js
    sum_spread zero le = omega arith
    sum_spread (suc n) le =
        let rest = sum_spread n (omega (arith, le)) in
        let there = item_at xs n (omega (arith, le)) in
        let c = used n (omega (arith, le)) in
        let raised = sum_raised (below n) (below (n + 1)) (more_below n) js c.0 n c.1 c.2 in
        let more = sum_by_more f xs n there.0 (omega (arith, le)) in
        let item = ap f (get_or_from_slice_get xs n there.0 there.0 there.1) in
        let here = ap (λ o. either_or (option_map f o) 0) there.1 in
        let one = own n in
        let none = not_own n in
        let next : suc n ≡ n + 1 = omega arith in
        subst (λ m. sum_by f (take m xs) ≤ sum_by (below m) js) (sym next)
        (omega (arith, rest, raised, more, item, here, one, none))

    -- the sum over all items is at most that over the places `js`, where each item has one
    pub sum_used : sum_by f xs ≤ sum_by at js
    sum_used =
        let all = sum_spread (length xs) (omega arith) in
        let whole = ap (sum_by f) (take_all (length xs) xs (omega arith)) in
        let rest = sum_below (below (length xs)) at (all_below (length xs)) js in
        omega (arith, all, whole, rest)

-- ## Rows of the table

module _ (P : Program) (r : Reached) (t : Table) (w : Specialization → ℕ)
    (fits : (i : ℕ) (s : Specialization) → slice_get t.specializations.items i ≡ Some s →
    (p : Path) (here : Instance) → specialized_at r p s ≡ Some here →
    w s ≤ sum_by (expression_size P here) (node_parts here.node)) where
  abbrev row_place : row.Instance → ℕ
  row_place i = i.specialization.0

  row_within : (p : Path) (i : row.Instance) (here : Instance) → row_at r t p i ≡ Some here →
      at w t.specializations.items (row_place i) ≤ instance_size P here
  row_within p i here e =
      let held = row_held P r t p i here e in
      let is = ap (λ o. either_or (option_map w o) 0) held.1 in
      let own = fits (row_place i) held.0 held.1 p here held.2 in
      omega (arith, is, own)

  rows_within : (ps : List Path) (rows : List row.Instance) (heres : List Instance) →
      length ps ≡ length rows → zip2 (row_at r t) ps rows ≡ map Some heres →
      sum_by (at w t.specializations.items) (map row_place rows)
      ≤ sum_by (instance_size P) heres
  rows_within ps [] heres long e = omega arith
  rows_within [] (i ∷ rows) heres long e = absurd (omega (arith, long))
  rows_within (p ∷ ps) (i ∷ rows) [] long e = absurd cc
  rows_within (p ∷ ps) (i ∷ rows) (h ∷ heres) long e =
      let one : row_at r t p i ≡ Some h = cc in
      let rest : zip2 (row_at r t) ps rows ≡ map Some heres = cc in
      let own = row_within p i h one in
      let others = rows_within ps rows heres (omega (arith, long)) rest in
      let s = sum_by-cons (at w t.specializations.items) (row_place i) (map row_place rows) in
      let u = sum_by-cons (instance_size P) h heres in
      omega (arith, own, others, s, u)

  -- a sum over the specializations is at most the size of the program
  pub specializations_within : IsTable P r t → sum_by w t.specializations.items ≤ size P
  specializations_within table =
      let longer = paths_length [] t.instances.items in
      let as_many : length (paths_of t) ≡ length t.instances.items = omega (arith, longer) in
      let rows = rows_within (paths_of t) t.instances.items (instances P) as_many table.instances in
      let used = sum_used w t.specializations.items (map row_place t.instances.items) table.used in
      omega (arith, rows, used)

  pub too_large : IsTable P r t → 65536 < sum_by w t.specializations.items → is_small P ≡ false
  too_large table over = let within = specializations_within table in grind (arith, nat_tests)
