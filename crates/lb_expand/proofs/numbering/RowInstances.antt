-- The rows of the table of an elaborated program are its instances, with their kinds.
use Rattle.lb_expand.proofs.Words
use Words.{◌≡◌, ℕ, zero, suc, ◌+◌, ◌<◌, List, [], ◌∷◌, ◌++◌, map, length, Option, Some, None}
use Words.{option_map, refl, ap, sym, ◌∙◌, subst, arith, slice_get, length-append, length-map}
use Words.{slice_get_within, same_Some, In, either_or, zip2, Node, get_later, mapped_from, item_at}
use Words.{Program, Instance, Path, Root, Observer, Child, instances, IsTable, instance_of}
use Words.{specialized_at, paths_of, node_of, Reached, CallId, ResolvedNode, InstanceId}
use Words.{Specialization, Table, in_at, at_path, same_instance, instances_apart, ◌≤◌, min, true}
use Words.{flat_map, take, replicate, get_or, ap₂, list_all, nat_tests, flat_map-append}
use Words.{append_assoc, append-nil, take_more, Kind, Every, listed, unless, Name, Static}
use Words.{Declaration, and_first, and_second, element_count, variables, width, static_value}
use Words.{static_refusal, instantiation_refusal, is_between, IsSpecialized, variable_names}
use Words.{node_sizes, IsReached, source_names, IsResolved, statics_of, declaration_of}
use Words.{element_kinds, Every-at, second_none, kept, instantiation_kept, values_at, declared_is}
use Words.{declared_kinds, kinds_in, table_kinds, ℤ, nat_le, Declared, AreApart}
use Rattle.lb_syntax.specs.Refusals.{E5, E6, E12}
use Rattle.lb_static.specs.InstanceTable.{CallerStandsBefore, path_from, paths_after, row_at}
use Rattle.lb_static.specs.Instantiation.{instance_refusal, may_enter, has_values, is_in_range}
use Rattle.lb_static.{specs.ReachedNodes.tree_at, proofs.InstanceRows.{paths_kept, paths_length}}
use Rattle.lb_check.proofs.{definitions.BrokenRules.first_none, typing.FittedTypes.node_at}
use Rattle.{lb_check.proofs.typing.Specializations.row_held, lb_expand.specs.RowKinds.kinds_of}
use Rattle.lb_static.specs.declared.table.Instance as row
use Rattle.lb_static.specs.declared.table.Origin.TheVariants as origin

-- The rows of the table of an elaborated program are its instances, in order: the instance of a row
-- stands at the row's path, and what a row calls is found by its path.

-- ## Paths of rows

-- the paths before row `k`, which stay in the whole list, and its path, from its origin and them
record StandsAfter (before : List Path) (rows : List row.Instance) (k : ℕ) (i : row.Instance) :
    Type 0 where
  front : List Path
  long : length front ≡ length before + k
  kept : (m : ℕ) (p : Path) → slice_get front m ≡ Some p →
      slice_get (paths_after before rows) m ≡ Some p
  path : slice_get (paths_after before rows) (length before + k) ≡ Some (path_from front i.origin)

stands_after :
    (before : List Path) (rows : List row.Instance) (k : ℕ) (i : row.Instance) →
    slice_get rows k ≡ Some i → StandsAfter before rows k i
stands_after before [] k i e = absurd cc
stands_after before (j ∷ rows) zero i e =
    let same : j ≡ i = same_Some j i e in
    let added = path_from before j.origin ∷ [] in
    let last : slice_get (before ++ added) (length before + 0) ≡ Some (path_from before j.origin) =
    get_later before added 0 in
    record {
      front = before;
      long = omega arith;
      kept = λ m p g. paths_kept before (j ∷ rows) m p g;
      path = paths_kept (before ++ added) rows (length before + 0) (path_from before j.origin) last
          ∙ ap (λ (z : row.Instance). Some (path_from before z.origin)) same;
    }
stands_after before (j ∷ rows) (suc k) i e =
    let added = path_from before j.origin ∷ [] in
    let next = stands_after (before ++ added) rows k i e in
    let count : length (before ++ added) + k ≡ length before + suc k =
    let more = length-append before added in omega (arith, more) in
    record {
      front = next.front;
      long = next.long ∙ count;
      kept = next.kept;
      path = ap (slice_get (paths_after (before ++ added) rows)) (sym count) ∙ next.path;
    }

module _ (P : Program) (r : Reached) (t : Table) (table : IsTable P r t) where
  -- the caller of a row stands at the path above it
  pub record IsCalledBy (k : ℕ) (caller call index : ℕ) : Type 0 where
    pub above : Path
    pub before : caller < k
    pub caller_path : slice_get (paths_of t) caller ≡ Some above
    pub path : slice_get (paths_of t) k ≡ Some (Child above call index)

  -- a row whose origin is a call stands below the path of its caller
  pub origin_path :
      (k : ℕ) (i : row.Instance) → slice_get t.instances.items k ≡ Some i →
      (caller : InstanceId) (call : CallId) (index : ℕ) →
      i.origin ≡ origin.Called caller call index →
      IsCalledBy k caller.0 call.0 index
  origin_path k i e caller call index is =
      let at = stands_after [] t.instances.items k i e in
      let count : 0 + k ≡ k = omega arith in
      let lower : caller.0 < k = subst (CallerStandsBefore k) is (table.before k i e) in
      let long = at.long in
      let there = item_at at.front caller.0 (omega (arith, long, lower)) in
      record {
        above = there.0;
        before = lower;
        caller_path = at.kept caller.0 there.0 there.1;
        path = ap (slice_get (paths_of t)) (sym count)
            ∙ (at.path
            ∙ (ap (λ o. Some (path_from at.front o)) is
            ∙ ap (λ o. Some (Child (either_or o Root) call.0 index)) there.1));
      }

  -- the row of the node under test stands at the root
  pub root_path :
      (k : ℕ) (i : row.Instance) → slice_get t.instances.items k ≡ Some i →
      i.origin ≡ origin.UnderTest → slice_get (paths_of t) k ≡ Some Root
  root_path k i e is =
      let at = stands_after [] t.instances.items k i e in
      let count : 0 + k ≡ k = omega arith in
      ap (slice_get (paths_of t)) (sym count)
      ∙ (at.path ∙ ap (λ o. Some (path_from at.front o)) is)

  -- the row of the observer stands at the path of the observer
  pub observer_path :
      (k : ℕ) (i : row.Instance) → slice_get t.instances.items k ≡ Some i →
      i.origin ≡ origin.Observer → slice_get (paths_of t) k ≡ Some Observer
  observer_path k i e is =
      let at = stands_after [] t.instances.items k i e in
      let count : 0 + k ≡ k = omega arith in
      ap (slice_get (paths_of t)) (sym count)
      ∙ (at.path ∙ ap (λ o. Some (path_from at.front o)) is)

  -- ## Instances of rows

  -- the instance for which a row stands
  pub record IsRow (k : ℕ) (i : row.Instance) (here : Instance) : Type 0 where
    pub row_is : slice_get t.instances.items k ≡ Some i
    pub instance_is : slice_get (instances P) k ≡ Some here
    pub path_is : slice_get (paths_of t) k ≡ Some here.path
    pub specialization : Specialization
    pub specialized : slice_get t.specializations.items i.specialization.0 ≡ Some specialization
    pub node : ResolvedNode
    pub resolved : slice_get r.nodes.items specialization.node.0 ≡ Some node
    pub same : here ≡ instance_of here.path (node_of node) specialization.values.items

  record IsShown (ps : List Path) (heres : List Instance) (k : ℕ) (i : row.Instance) : Type 0 where
    place : Path
    here : Instance
    place_is : slice_get ps k ≡ Some place
    here_is : slice_get heres k ≡ Some here
    stands : row_at r t place i ≡ Some here

  shown :
      (ps : List Path) (rows : List row.Instance) (heres : List Instance) (k : ℕ)
      (i : row.Instance) → length ps ≡ length rows →
      zip2 (row_at r t) ps rows ≡ map Some heres → slice_get rows k ≡ Some i →
      IsShown ps heres k i
  shown ps [] heres k i long e at = absurd cc
  shown [] (j ∷ rows) heres k i long e at = absurd (omega (arith, long))
  shown (p ∷ ps) (j ∷ rows) [] k i long e at = absurd cc
  shown (p ∷ ps) (j ∷ rows) (h ∷ heres) zero i long e at =
      let same : j ≡ i = same_Some j i at in
      let one : row_at r t p j ≡ Some h = cc in
      record {
        place = p;
        here = h;
        place_is = refl;
        here_is = refl;
        stands = subst (λ z. row_at r t p z ≡ Some h) same one;
      }
  shown (p ∷ ps) (j ∷ rows) (h ∷ heres) (suc k) i long e at =
      let rest : zip2 (row_at r t) ps rows ≡ map Some heres = cc in
      let s = shown ps rows heres k i (omega (arith, long)) rest at in
      record {
        place = s.place;
        here = s.here;
        place_is = s.place_is;
        here_is = s.here_is;
        stands = s.stands;
      }

  as_many_pairs :
      (ps : List Path) (rows : List row.Instance) → length ps ≡ length rows →
      length (zip2 (row_at r t) ps rows) ≡ length rows
  as_many_pairs [] [] long = refl
  as_many_pairs [] (i ∷ rows) long = absurd (omega (arith, long))
  as_many_pairs (p ∷ ps) [] long = absurd (omega (arith, long))
  as_many_pairs (p ∷ ps) (i ∷ rows) long = cc (as_many_pairs ps rows (omega (arith, long)))

  paths_many : length (paths_of t) ≡ length t.instances.items
  paths_many = let more = paths_length [] t.instances.items in omega (arith, more)

  -- there are as many rows as instances
  pub rows_many : length t.instances.items ≡ length (instances P)
  rows_many =
      cc (as_many_pairs (paths_of t) t.instances.items paths_many, length-map (instances P) Some)

  -- the instance that a specialization makes at path `p`, with its node
  record IsMade (p : Path) (s : Specialization) (here : Instance) : Type 0 where
    node : ResolvedNode
    resolved : slice_get r.nodes.items s.node.0 ≡ Some node
    same : instance_of p (node_of node) s.values.items ≡ here

  made :
      (p : Path) (s : Specialization) (here : Instance) → specialized_at r p s ≡ Some here →
      IsMade p s here
  made p s here e = by (tree_at r s.node) refl e
    where
      by : (o : Option Node) → tree_at r s.node ≡ o →
          option_map (λ n. instance_of p n s.values.items) o ≡ Some here → IsMade p s here
      by None is h = absurd cc
      by (Some n) is h =
          let from = mapped_from node_of r.nodes.items s.node.0 n is in
          record {
            node = from.0;
            resolved = from.1;
            same = ap (λ m. instance_of p m s.values.items) from.2
                ∙ same_Some (instance_of p n s.values.items) here h;
          }

  -- each row stands for an instance, at its place and at its path
  pub row_shown :
      (k : ℕ) (i : row.Instance) → slice_get t.instances.items k ≡ Some i →
      (here : Instance) × IsRow k i here
  row_shown k i e =
      let s = shown (paths_of t) t.instances.items (instances P) k i paths_many table.instances e in
      let own = row_held P r t s.place i s.here s.stands in
      let m = made s.place own.0 s.here own.2 in
      let path : s.place ≡ s.here.path = ap (λ (c : Instance). c.path) m.same in (
        s.here,
        record {
          row_is = e;
          instance_is = s.here_is;
          path_is = s.place_is ∙ ap (λ p. Some p) path;
          specialization = own.0;
          specialized = own.1;
          node = m.node;
          resolved = m.resolved;
          same = sym m.same
              ∙ ap (λ p. instance_of p (node_of m.node) own.0.values.items) path;
        },
      )

  -- each instance has a row
  pub row_of :
      (k : ℕ) (here : Instance) → slice_get (instances P) k ≡ Some here →
      (i : row.Instance) × IsRow k i here
  row_of k here e =
      let below = slice_get_within (instances P) k here e in
      let many = rows_many in
      let there = item_at t.instances.items k (omega (arith, below, many)) in
      let s = row_shown k there.0 there.1 in
      let same = same_Some s.0 here (sym s.1.instance_is ∙ e) in
      (there.0, subst (IsRow k there.0) same s.1)

  -- two instances at one path stand at one place
  pub one_place :
      (j k : ℕ) (here there : Instance) → slice_get (instances P) j ≡ Some here →
      slice_get (instances P) k ≡ Some there → here.path ≡ there.path → j ≡ k
  one_place j k here there e f path =
      let is = instances P in
      let same = same_instance P here there (at_path P here (in_at is j here e))
      (at_path P there (in_at is k there f)) path in
      places is j k here (instances_apart P) e (f ∙ ap (λ c. Some c) (sym same))
    where
      places :
          (is : List Instance) (j k : ℕ) (here : Instance) → AreApart is →
          slice_get is j ≡ Some here → slice_get is k ≡ Some here → j ≡ k
      places [] j k here apart e f = absurd cc
      places (c ∷ is) zero zero here apart e f = refl
      places (c ∷ is) zero (suc k) here apart e f =
          let same : c ≡ here = same_Some c here e in
          absurd (apart.0 (subst (λ z. In z is) (sym same) (in_at is k here f)))
      places (c ∷ is) (suc j) zero here apart e f =
          let same : c ≡ here = same_Some c here f in
          absurd (apart.0 (subst (λ z. In z is) (sym same) (in_at is j here e)))
      places (c ∷ is) (suc j) (suc k) here apart e f = cc (places is j k here apart.1 e f)

-- The kinds that are found row by row are the kinds of the elements of the program.

-- ## Lists that grow

-- the pieces of the first `i + 1` items: those of the first `i`, and one more
pub piece_added :
    {A B : Type 0} (f : A → List B) (xs : List A) (i : ℕ) (d : A) (before after more : List B) →
    i < length xs → after ≡ before ++ flat_map f (take i xs) → more ≡ after ++ f (get_or xs i d) →
    more ≡ before ++ flat_map f (take (i + 1) xs)
piece_added f xs i d before after more lt h e =
    let x = get_or xs i d in
    let done = flat_map f (take i xs) in
    let pieces : flat_map f (take (i + 1) xs) ≡ done ++ f x =
    cc (take_more xs i d lt, flat_map-append f (take i xs) (x ∷ []), append-nil (f x)) in
    cc (append_assoc before done (f x))

-- the pieces of the first `i + 1` items, where nothing stands before them
pub piece_next :
    {A B : Type 0} (f : A → List B) (xs : List A) (i : ℕ) (d : A) (after more : List B) →
    i < length xs → after ≡ flat_map f (take i xs) → more ≡ after ++ f (get_or xs i d) →
    more ≡ flat_map f (take (i + 1) xs)
piece_next f xs i d after more lt h e = piece_added f xs i d [] after more lt h e

-- `n` copies of `x` and one more are `n + 1` copies
pub copy_added :
    {A : Type 0} (x : A) (n : ℕ) (before after more : List A) →
    after ≡ before ++ replicate n x → more ≡ after ++ x ∷ [] →
    more ≡ before ++ replicate (n + 1) x
copy_added x n before after more h e =
    cc (append_assoc before (replicate n x) (x ∷ []), last n, next)
  where
    next : suc n ≡ n + 1
    next = omega arith

    last : (n : ℕ) → replicate n x ++ x ∷ [] ≡ replicate (suc n) x
    last zero = refl
    last (suc n) = ap (λ l. x ∷ l) (last n)

-- ## Widths in range

narrow : (n : ℕ) → nat_le n 65536 ≡ true → min n 65537 ≡ n
narrow n e = let le = below n e in omega (arith, le)
  where
    below : (n : ℕ) → nat_le n 65536 ≡ true → n ≤ 65536
    below n e = grind (arith, nat_tests)

-- no variable of an instance that is entered has more than 65,536 elements
all_narrow :
    (P : Program) (n : ℕ) (is : List Instance) → instantiation_refusal P n is ≡ None →
    Every (λ c. list_all (λ d. nat_le (width P c d) 65536) (variables c.node) ≡ true) is
all_narrow P n [] e = tt
all_narrow P n (c ∷ is) e =
    let here = first_none (instance_refusal P n c) _ e in
    let later = second_none (unless (may_enter P n c) E12) _ here in
    let range = kept (is_in_range P c) E6 (second_none (unless (has_values P c) E5) _ later) in (
      and_first _ _ (and_second (list_all (is_between P c 1 4096) (node_sizes c.node)) _ range),
      all_narrow P (suc n) is (second_none (instance_refusal P n c) _ e),
    )

module _ (P : Program) (here : Instance) where
  -- the kinds of the elements of some variables
  abbrev pub variable_kinds : List Declaration → List Kind
  variable_kinds ds = flat_map (λ d. replicate (width P here d) d.kind) ds

  abbrev capped_kinds : List Declaration → List Kind
  capped_kinds ds = flat_map (λ d. replicate (min (width P here d) 65537) d.kind) ds

  kinds_exact :
      (ds : List Declaration) → list_all (λ d. nat_le (width P here d) 65536) ds ≡ true →
      capped_kinds ds ≡ variable_kinds ds
  kinds_exact [] h = refl
  kinds_exact (d ∷ ds) h =
      ap₂ (λ n l. replicate n d.kind ++ l)
      (narrow (width P here d) (and_first (nat_le (width P here d) 65536) _ h))
      (kinds_exact ds (and_second (nat_le (width P here d) 65536) _ h))

  declared_kinds_are :
      (all : List Name) (statics : List Static) (values : List ℤ) →
      map Some values ≡ map (static_value P here) statics → (names : List Name)
      (vs : List Declared) → length vs ≡ length (zip2 (declaration_of all statics) names vs) →
      flat_map (declared_kinds values) vs
      ≡ capped_kinds (zip2 (declaration_of all statics) names vs)
  declared_kinds_are all statics values valued [] [] long = refl
  declared_kinds_are all statics values valued [] (v ∷ vs) long = absurd (omega (arith, long))
  declared_kinds_are all statics values valued (x ∷ names) [] long = refl
  declared_kinds_are all statics values valued (x ∷ names) (v ∷ vs) long =
      ap₂ (λ n l. replicate (min n 65537) v.kind ++ l)
      (ap (λ o. either_or (option_map element_count o) 0)
      (sym (declared_is P here statics values valued all x v)))
      (declared_kinds_are all statics values valued names vs (omega (arith, long)))

-- ## Rows

same_pieces :
    {A B C : Type 0} (f : A → List C) (g : B → List C) (xs : List A) (ys : List B) →
    length xs ≡ length ys →
    ((j : ℕ) (x : A) (y : B) → slice_get xs j ≡ Some x → slice_get ys j ≡ Some y → f x ≡ g y) →
    flat_map f xs ≡ flat_map g ys
same_pieces f g [] [] long same = refl
same_pieces f g [] (y ∷ ys) long same = absurd (omega (arith, long))
same_pieces f g (x ∷ xs) [] long same = absurd (omega (arith, long))
same_pieces f g (x ∷ xs) (y ∷ ys) long same =
    ap₂ (λ l m. l ++ m) (same 0 x y refl refl)
    (same_pieces f g xs ys (omega (arith, long)) (λ j a b p q. same (suc j) a b p q))

module _ (P : Program) (r : Reached) (t : Table) (reached : IsReached P r)
    (table : IsTable P r t) (accepted : static_refusal P ≡ None) where
  specialized_kinds :
      (p : Path) (s : Specialization) (n : ResolvedNode) → IsSpecialized P r t s →
      slice_get r.nodes.items s.node.0 ≡ Some n →
      flat_map (declared_kinds s.statics.items) n.variables.items
      ≡ capped_kinds P (instance_of p (node_of n) s.values.items) (variables (node_of n))
  specialized_kinds p s n sp at =
      let m = node_at P r t reached table s sp in
      let resolved = subst (IsResolved (source_names P)) (same_Some m.0 n (sym m.1 ∙ at)) m.2 in
      subst (λ ds. flat_map (declared_kinds s.statics.items) n.variables.items
      ≡ capped_kinds P (instance_of p (node_of n) s.values.items) ds) resolved.declared
      (declared_kinds_are P (instance_of p (node_of n) s.values.items)
      (variable_names (node_of n)) (statics_of n) s.statics.items
      (values_at P r t reached table s sp n p at) (variable_names (node_of n)) n.variables.items
      (resolved.as_many ∙ ap length (sym resolved.declared)))

  -- the kinds of a row are the kinds of the variables of its instance
  pub row_kinds_are :
      (k : ℕ) (i : row.Instance) (here : Instance) → IsRow P r t table k i here →
      kinds_in r t i ≡ variable_kinds P here (variables here.node)
  row_kinds_are k i here is =
      let s = is.specialization in
      let below = Every-at (λ (c : Instance).
      list_all (λ d. nat_le (width P c d) 65536) (variables c.node) ≡ true) (instances P) here
      (all_narrow P 0 (instances P) (instantiation_kept P accepted))
      (in_at (instances P) k here is.instance_is) in
      ap (listed (kinds_of r)) is.specialized
      ∙ (ap (listed (λ (n : ResolvedNode).
      flat_map (declared_kinds s.statics.items) n.variables.items)) is.resolved
      ∙ (specialized_kinds here.path s is.node
      (table.specialized i.specialization.0 s is.specialized).0 is.resolved
      ∙ (ap (λ (c : Instance). capped_kinds P c (variables c.node)) (sym is.same)
      ∙ kinds_exact P here (variables here.node) below)))

  -- the kinds of all rows are the kinds of the elements of the program
  pub table_kinds_are : table_kinds r t ≡ element_kinds P
  unfolding element_kinds
  table_kinds_are =
      same_pieces (kinds_in r t) (λ (c : Instance). variable_kinds P c (variables c.node))
      t.instances.items (instances P) (rows_many P r t table) one
    where
      one : (j : ℕ) (i : row.Instance) (here : Instance) →
          slice_get t.instances.items j ≡ Some i → slice_get (instances P) j ≡ Some here →
          kinds_in r t i ≡ variable_kinds P here (variables here.node)
      one j i here e f =
          let shown = row_shown P r t table j i e in
          let same = same_Some shown.0 here (sym shown.1.instance_is ∙ f) in
          row_kinds_are j i here (subst (IsRow P r t table j i) same shown.1)
