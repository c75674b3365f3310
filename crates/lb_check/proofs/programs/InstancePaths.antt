-- The instances of a program by their paths, and the node of each by its name.
use Rattle.lb_check.proofs.Words
use Words.{Bool, Child, Every, IfSome, In, Instance, List, Name, Node, None, Observer, Option, Path}
use Words.{Program, Root, Site, Some, [], all_in, all_some, among, and_first, and_from, and_second}
use Words.{any_in, ap, ap₂, are_distinct, arith, bytes_eq, bytes_eq-Decides, callee_of, children}
use Words.{declares_once, eqb-true, false, false_from_ne_true, find, found_passes, if◌then◌else◌}
use Words.{in_any, in_at, in_filter, inl, inr, instance_at, instance_count, instances}
use Words.{instances_from, instantiation_refusal, is_named, is_path, keeps_names, list_all}
use Words.{list_any, listed, ltb-true, map, nat_lt, nat_tests, node_named, node_sites, not}
use Words.{not-false, numbered_sites, or_right, range_with_len, reached_nodes, refl, same_Some}
use Words.{same_number, site_instances, slice_get, start_at, static_refusal, static_value, subst}
use Words.{suc, sym, true, variable_names, zero, ℕ, ◌+◌, ◌<◌, ◌||◌, ◌∙◌, ◌∷◌, ◌≡◌, ◌≤◌, ◌⊎◌}
use Rattle.lb_check.proofs.{clocking.NamedClocks.if_some, definitions.BrokenRules.names_kept}
use Rattle.lb_check.proofs.lists.Members.{AreApart, Every-all, Every-append, Every-at, Every-both}
use Rattle.lb_check.proofs.lists.Members.{Every-found, Every-from, Every-map, Every-of_pieces}
use Rattle.lb_check.proofs.lists.Members.{Every-of_range, IsPiece, apart-append, apart_pieces}
use Rattle.lb_check.proofs.lists.Members.{distinct_first, in_first, in_range, in_second, in_some}
use Rattle.lb_check.proofs.lists.Members.{of_pieces, range_apart, some_apart, some_in, to_pieces}
use Rattle.lb_check.proofs.programs.SameHistories.{all_children, all_entered, callee_path, started}
use Rattle.{lb_check.proofs.typing.OperandTypes.bound, lb_static.proofs.Saturation.enough_calls}
use Rattle.lb_static.specs.Names.{calls, reached_within, start_names}
use Rattle.std.proofs.lemmas.Bool.{or_left}

-- Instances by their paths: each stands where its path says, each that stands at a path is among
-- the instances, and no path has two.

-- ## Equal paths

pub is_path-same : (p : Path) → is_path p p ≡ true
is_path-same Root = refl
is_path-same Observer = refl
is_path-same (Child p c i) =
    and_from _ _ (same_number c) (and_from _ _ (same_number i) (is_path-same p))

pub same_path : (p q : Path) → is_path p q ≡ true → p ≡ q
same_path Root Root e = refl
same_path Observer Observer e = refl
same_path (Child p c i) (Child q d j) e =
    let call = eqb-true c d (and_first _ _ e) in
    let rest = and_second _ _ e in
    let index = eqb-true i j (and_first _ _ rest) in
    let above = same_path p q (and_second _ _ rest) in
    rw call (rw index (rw above refl))
same_path _ _ e = absurd cc

-- ## Paths that go on from a path

abbrev depth : Path → ℕ
depth Root = 0
depth Observer = 0
depth (Child p call index) = suc (depth p)

-- the second path is the first or goes on from it
abbrev IsWithin : Path → Path → Type 0
IsWithin p Root = p ≡ Root
IsWithin p Observer = p ≡ Observer
IsWithin p (Child q call index) = (p ≡ Child q call index) ⊎ IsWithin p q

within_self : (p : Path) → IsWithin p p
within_self Root = refl
within_self Observer = refl
within_self (Child p call index) = inl refl

within_depth : (p q : Path) → IsWithin p q → depth p ≤ depth q
within_depth p Root e = let same = ap depth e in omega (arith, same)
within_depth p Observer e = let same = ap depth e in omega (arith, same)
within_depth p (Child q call index) (inl e) = let same = ap depth e in omega (arith, same)
within_depth p (Child q call index) (inr h) = let below = within_depth p q h in omega (arith, below)

-- two paths of one depth are the same, where one path goes on from both
within_same : (p q r : Path) → IsWithin p r → IsWithin q r → depth p ≡ depth q → p ≡ q
within_same p q Root e f deep = e ∙ sym f
within_same p q Observer e f deep = e ∙ sym f
within_same p q (Child r call index) (inl e) (inl f) deep = e ∙ sym f
within_same p q (Child r call index) (inl e) (inr h) deep =
    let one = ap depth e in
    let below = within_depth q r h in
    absurd (omega (arith, deep, one, below))
within_same p q (Child r call index) (inr h) (inl f) deep =
    let one = ap depth f in
    let below = within_depth p r h in
    absurd (omega (arith, deep, one, below))
within_same p q (Child r call index) (inr h) (inr g) deep = within_same p q r h g deep

within_up : (p : Path) (call index : ℕ) (r : Path) → IsWithin (Child p call index) r → IsWithin p r
within_up p call index (Child r c i) (inl e) =
    let above : p ≡ r = cc in
    inr (subst (λ q. IsWithin q r) (sym above) (within_self r))
within_up p call index (Child r c i) (inr h) = inr (within_up p call index r h)
within_up p call index _ e = absurd cc

if_true : {A : Type 0} (b : Bool) (o : Option A) (x : A) → (if b then o else None) ≡ Some x →
    (b ≡ true) × (o ≡ Some x)
if_true true o x e = (refl, e)
if_true false o x e = absurd cc

-- sites that are counted from `n` have numbers from `n` on
pub numbered_from : (n : ℕ) (ss : List Site) (c : ℕ) (s : Site) →
    In (c, s) (numbered_sites n ss) → n ≤ c
numbered_from n [] c s i = absurd i
numbered_from n (t ∷ ss) c s (inl e) =
    let same : n ≡ c = ap (λ (u : ℕ × Site). u.0) e in omega (arith, same)
numbered_from n (t ∷ ss) c s (inr i) =
    let later = numbered_from (suc n) ss c s i in omega (arith, later)

module _ (P : Program) where
  -- ## The instance at a path

  -- an instance stands where its path says
  abbrev pub IsAt : Instance → Type 0
  IsAt c = instance_at P c.path ≡ Some c

  -- `c` is instance `index` of call `call` of the instance at path `p`
  pub record IsCalled (p : Path) (call index : ℕ) (c : Instance) : Type 0 where
    pub caller : Instance
    pub above : instance_at P p ≡ Some caller
    pub site : Site
    pub stands : slice_get (node_sites caller.node) call ≡ Some site
    pub count : ℕ
    pub counts : instance_count P caller site.count ≡ Some count
    pub lower : index < count
    pub gives : callee_of P caller site call index ≡ Some c

  pub called :
      (p : Path) (call index : ℕ) (c : Instance) → instance_at P (Child p call index) ≡ Some c →
      IsCalled p call index c
  called p call index c e =
      let h = bound _ _ c e in
      let s = bound _ _ c h.gives in
      let n = bound _ _ c s.gives in
      let t = if_true _ _ c n.gives in
      record {
        caller = h.value;
        above = h.is;
        site = s.value;
        stands = s.is;
        count = n.value;
        counts = n.is;
        lower = ltb-true index n.value t.0;
        gives = t.1;
      }

  pub path_is : (p : Path) (c : Instance) → instance_at P p ≡ Some c → c.path ≡ p
  path_is Root c e = started P Root P.root c e
  path_is Observer c e =
      let f = bound P.observer _ c e in started P Observer f.value c f.gives
  path_is (Child p call index) c e =
      let k = called p call index c e in
      let path = callee_path P k.caller k.site call index c k.gives in
      let above = path_is p k.caller k.above in
      path ∙ ap (λ q. Child q call index) above

  numbered_at :
      (ss all : List Site) (n : ℕ) → ((j : ℕ) → slice_get all (n + j) ≡ slice_get ss j) →
      Every (λ s. slice_get all s.0 ≡ Some s.1) (numbered_sites n ss)
  numbered_at [] all n same = tt
  numbered_at (s ∷ ss) all n same =
      let e : n + 0 ≡ n = omega arith in (
        subst (λ m. slice_get all m ≡ Some s) e (same 0),
        numbered_at ss all (suc n)
            (λ j. let next : suc n + j ≡ n + suc j = omega arith in
            ap (slice_get all) next ∙ same (suc j)),
      )

  pub numbered_stand :
      (ss : List Site) → Every (λ s. slice_get ss s.0 ≡ Some s.1) (numbered_sites 0 ss)
  numbered_stand ss =
      numbered_at ss ss 0 (λ j. let e : 0 + j ≡ j = omega arith in ap (slice_get ss) e)

  site_children :
      (here : Instance) (s : ℕ × Site) → IsAt here →
      slice_get (node_sites here.node) s.0 ≡ Some s.1 → Every IsAt (site_instances P here s)
  site_children here s at stands =
      Every-found IsAt _
      _ (by (instance_count P here s.1.count) refl)
    where
      placed : (m i : ℕ) → instance_count P here s.1.count ≡ Some m → i < m → (c : Instance) →
          callee_of P here s.1 s.0 i ≡ Some c → IsAt c
      placed m i count lt c e =
          let lower : nat_lt i m ≡ true = grind (arith, nat_tests) in
          let path = callee_path P here s.1 s.0 i c e in
          let there : instance_at P (Child here.path s.0 i) ≡ Some c =
          rw at (rw stands (rw count (rw lower e))) in
          ap (instance_at P) path ∙ there

      by : (o : Option ℕ) → instance_count P here s.1.count ≡ o →
          Every (λ i. IfSome (callee_of P here s.1 s.0 i) IsAt) (listed (range_with_len 0) o)
      by None e = tt
      by (Some m) e =
          Every-of_range _ 0 m (λ i lt. if_some IsAt _
          (λ c is. placed m (0 + i) e (omega (arith, lt)) c is))

  pub children_at : (here : Instance) → IsAt here → Every IsAt (children P here)
  children_at here at =
      Every-of_pieces IsAt (site_instances P here) (numbered_sites 0 (node_sites here.node))
      (Every-map _ _ (λ s stands. site_children here s at stands) _
      (numbered_stand (node_sites here.node)))

  from_at : (n : ℕ) (here : Instance) → IsAt here → Every IsAt (instances_from P n here)
  from_at zero here at = tt
  from_at (suc n) here at = (
    at,
    Every-of_pieces IsAt (instances_from P n) (children P here)
        (Every-map IsAt _ (λ c is. from_at n c is) (children P here) (children_at here at)),
  )

  start_at_path : (p : Path) (c : Instance) → instance_at P p ≡ Some c → IsAt c
  start_at_path p c e = let path = path_is p c e in ap (instance_at P) path ∙ e

  listed_at :
      (p : Path) (o : Option Instance) → instance_at P p ≡ o →
      Every IsAt (listed (instances_from P 65) o)
  listed_at p None e = tt
  listed_at p (Some c) e = from_at 65 c (start_at_path p c e)

  -- each instance stands where its path says
  pub all_at : Every IsAt (instances P)
  all_at =
      Every-append IsAt (listed (instances_from P 65) (instance_at P Root))
      (listed (instances_from P 65) (instance_at P Observer))
      (listed_at Root _ refl) (listed_at Observer _ refl)

  pub at_path : (c : Instance) → In c (instances P) → IsAt c
  at_path c i = Every-at IsAt (instances P) c all_at i

  pub same_instance : (c d : Instance) → IsAt c → IsAt d → c.path ≡ d.path → c ≡ d
  same_instance c d at_c at_d e = same_Some c d (sym at_c ∙ (ap (instance_at P) e ∙ at_d))

  -- ## A child of an instance is an instance

  pub numbered_in :
      (ss : List Site) (n j : ℕ) (s : Site) → slice_get ss j ≡ Some s →
      In (n + j, s) (numbered_sites n ss)
  numbered_in [] n j s e = absurd cc
  numbered_in (t ∷ ss) n zero s e =
      let same : t ≡ s = cc in
      let number : n ≡ n + 0 = omega arith in
      inl (ap₂ (λ a b. (a, b)) number same)
  numbered_in (t ∷ ss) n (suc j) s e =
      let number : suc n + j ≡ n + suc j = omega arith in
      inr (subst (λ m. In (m, s) (numbered_sites (suc n) ss)) number
      (numbered_in ss (suc n) j s e))

  pub child_in :
      (here : Instance) (call index count : ℕ) (site : Site) (c : Instance) →
      slice_get (node_sites here.node) call ≡ Some site →
      instance_count P here site.count ≡ Some count → index < count →
      callee_of P here site call index ≡ Some c → In c (children P here)
  child_in here call index count site c stands counts lower gives =
      let number : 0 + call ≡ call = omega arith in
      let numbered = subst (λ m. In (m, site) (numbered_sites 0 (node_sites here.node))) number
      (numbered_in _ 0 call site stands) in
      to_pieces _ c _ _
      numbered in_site
    where
      in_site : In c (site_instances P here (call, site))
      in_site =
          let at : 0 + index ≡ index = omega arith in
          let ranged = subst (λ i. In i (range_with_len 0 count)) at
          (in_range 0 count index lower) in
          rw counts (in_some _ _ index c ranged
          gives)

  -- ## No instance stands twice

  -- `c` is a child of instance `here`, by its path
  record IsChild (here c : Instance) : Type 0 where
    pub call : ℕ
    pub index : ℕ
    pub path : c.path ≡ Child here.path call index

  child_of_site :
      (here : Instance) (s : ℕ × Site) (c : Instance) → In c (site_instances P here s) →
      (index : ℕ) × (c.path ≡ Child here.path s.0 index)
  child_of_site here s c i =
      let k = some_in (callee_of P here s.1 s.0)
      (listed (range_with_len 0) (instance_count P here s.1.count)) c i in
      (k.0, callee_path P here s.1 s.0 k.0 c k.2)

  child_path : (here c : Instance) → In c (children P here) → IsChild here c
  child_path here c i =
      let p = of_pieces (site_instances P here) c (numbered_sites 0 (node_sites here.node)) i in
      let k = child_of_site here p.source c p.holds in
      record { call = p.source.0; index = k.0; path = k.1 }

  all_within : (n : ℕ) (here : Instance) →
      Every (λ c. IsWithin here.path c.path) (instances_from P n here)
  all_within zero here = tt
  all_within (suc n) here = (
    within_self here.path,
    Every-of_pieces (λ c. IsWithin here.path c.path) (instances_from P n) (children P here)
        (Every-from _ (children P here)
        (λ c i. below c (child_path here c i) (all_within n c))),
  )
    where
      below : (c : Instance) → IsChild here c →
          Every (λ d. IsWithin c.path d.path) (instances_from P n c) →
          Every (λ d. IsWithin here.path d.path) (instances_from P n c)
      below c k inner =
          Every-map (λ d. IsWithin c.path d.path) (λ d. IsWithin here.path d.path)
          (λ d h. within_up here.path k.call k.index d.path
          (subst (λ p. IsWithin p d.path) k.path h))
          (instances_from P n c) inner

  numbered_apart : (ss : List Site) (n : ℕ) → AreApart (numbered_sites n ss)
  numbered_apart [] n = tt
  numbered_apart (s ∷ ss) n =
      (λ i. absurd (omega (arith, numbered_from (suc n) ss n s i)), numbered_apart ss (suc n))

  pair_same : (s t : ℕ × Site) → s.0 ≡ t.0 → s.1 ≡ t.1 → s ≡ t
  pair_same (a, b) (c, d) e f = ap₂ (λ x y. (x, y)) e f

  child_index : (p : Path) (c i d j : ℕ) → Child p c i ≡ Child p d j → i ≡ j
  child_index p c i d j e = cc

  child_call : (p : Path) (c i d j : ℕ) → Child p c i ≡ Child p d j → c ≡ d
  child_call p c i d j e = cc

  range_listed : (o : Option ℕ) → AreApart (listed (range_with_len 0) o)
  range_listed None = tt
  range_listed (Some m) = range_apart 0 m

  children_apart : (here : Instance) → AreApart (children P here)
  children_apart here =
      apart_pieces (site_instances P here) (numbered_sites 0 (node_sites here.node))
      (numbered_apart (node_sites here.node) 0)
      (λ s i. some_apart (callee_of P here s.1 s.0)
      (listed (range_with_len 0) (instance_count P here s.1.count))
      (range_listed (instance_count P here s.1.count))
      (λ x y b p q. child_index here.path s.0 x s.0 y
      (sym (callee_path P here s.1 s.0 x b p) ∙ callee_path P here s.1 s.0 y b q)))
      shared
    where
      shared : (b : Instance) (s t : ℕ × Site) →
          In s (numbered_sites 0 (node_sites here.node)) →
          In t (numbered_sites 0 (node_sites here.node)) → In b (site_instances P here s) →
          In b (site_instances P here t) → s ≡ t
      shared b s t i j p q =
          let sites = node_sites here.node in
          let k = child_of_site here s b p in
          let l = child_of_site here t b q in
          let call = child_call here.path s.0 k.0 t.0 l.0 (sym k.1 ∙ l.1) in
          let is_s = Every-at (λ u. slice_get sites u.0 ≡ Some u.1) (numbered_sites 0 sites) s
          (numbered_stand sites) i in
          let is_t = Every-at (λ u. slice_get sites u.0 ≡ Some u.1) (numbered_sites 0 sites) t
          (numbered_stand sites) j in
          pair_same s t call
          (same_Some s.1 t.1 (sym is_s ∙ (ap (slice_get sites) call ∙ is_t)))

  from_apart : (n : ℕ) (here : Instance) → IsAt here → AreApart (instances_from P n here)
  from_apart zero here at = tt
  from_apart (suc n) here at = (
    λ i. deeper (of_pieces (instances_from P n) here (children P here) i),
    apart_pieces (instances_from P n) (children P here) (children_apart here)
        (λ c i. from_apart n c (Every-at IsAt (children P here) c (children_at here at) i))
        shared,
  )
    where
      deep : (c : Instance) → In c (children P here) → depth c.path ≡ suc (depth here.path)
      deep c i = let k = child_path here c i in ap depth k.path

      within : (b c : Instance) → In b (instances_from P n c) → IsWithin c.path b.path
      within b c i = Every-at (λ d. IsWithin c.path d.path) (instances_from P n c) b
          (all_within n c) i

      deeper : IsPiece (instances_from P n) here (children P here) → ⊥
      deeper p =
          let down = deep p.source p.is_in in
          let up = within_depth p.source.path here.path (within here p.source p.holds) in
          omega (arith, down, up)

      shared : (b x y : Instance) → In x (children P here) → In y (children P here) →
          In b (instances_from P n x) → In b (instances_from P n y) → x ≡ y
      shared b x y i j p q =
          let same = within_same x.path y.path b.path (within b x p) (within b y q)
          (deep x i ∙ sym (deep y j)) in
          same_instance x y (Every-at IsAt (children P here) x (children_at here at) i)
          (Every-at IsAt (children P here) y (children_at here at) j) same

  listed_apart :
      (p : Path) (o : Option Instance) → instance_at P p ≡ o →
      AreApart (listed (instances_from P 65) o)
  listed_apart p None e = tt
  listed_apart p (Some c) e = from_apart 65 c (start_at_path p c e)

  listed_within :
      (p : Path) (o : Option Instance) → instance_at P p ≡ o →
      Every (λ c. IsWithin p c.path) (listed (instances_from P 65) o)
  listed_within p None e = tt
  listed_within p (Some c) e =
      let path = path_is p c e in
      subst (λ q. Every (λ d. IsWithin q d.path) (instances_from P 65 c)) path (all_within 65 c)

  -- no instance stands twice among the instances
  pub instances_apart : AreApart (instances P)
  instances_apart =
      let of_root = listed (instances_from P 65) (instance_at P Root) in
      let of_observer = listed (instances_from P 65) (instance_at P Observer) in
      apart-append of_root of_observer (listed_apart Root _ refl) (listed_apart Observer _ refl)
      (λ c i j.
      let at_root = Every-at (λ d. IsWithin Root d.path) of_root c (listed_within Root _ refl) i in
      let at_observer = Every-at (λ d. IsWithin Observer d.path) of_observer c
      (listed_within Observer _ refl) j in
      no_root (within_same Root Observer c.path at_root at_observer refl))
    where
      no_root : Root ≡ Observer → ⊥
      no_root e = absurd cc

  module _ (instantiated : instantiation_refusal P 0 (instances P) ≡ None) where
    abbrev Kept : Instance → Type 0
    Kept c = In c (instances P)

    -- each child of an instance is an instance of the program
    pub kept_children :
        (here : Instance) → In here (instances P) →
        Every (λ c. In c (instances P)) (children P here)
    kept_children here i =
        Every-at _ _ here (all_children P Kept (Every-both _ Kept _
        (Every-map _ _ (λ c z. z.0) _ (all_entered P 0 _ instantiated))
        (Every-from Kept _ (λ c k. k)))) i

    -- the instance at a path is an instance of the program
    pub in_instances : (p : Path) (c : Instance) → instance_at P p ≡ Some c → In c (instances P)
    in_instances Root c e =
        in_first c (listed (instances_from P 65) (instance_at P Root))
        (listed (instances_from P 65) (instance_at P Observer)) (rw e (inl refl))
    in_instances Observer c e =
        in_second c (listed (instances_from P 65) (instance_at P Root))
        (listed (instances_from P 65) (instance_at P Observer)) (rw e (inl refl))
    in_instances (Child p call index) c e =
        let k = called p call index c e in
        let up = in_instances p k.caller k.above in
        Every-at (λ d. In d (instances P)) (children P k.caller) c (kept_children k.caller up)
        (child_in k.caller call index k.count k.site c k.stands k.counts k.lower k.gives)

-- The node of each instance is reached by name, so in an accepted program no instance has two
-- variables of one name.

-- an item that `find` returns is in the list
pub find_in : {A : Type 0} (p : A → Bool) (xs : List A) (x : A) → find p xs ≡ Some x → In x xs
find_in p [] x e = absurd cc
find_in p (y ∷ xs) x e = grind (arith, find_in p xs x)

module _ (P : Program) where
  -- ## Reached nodes

  abbrev is_start : Node → Bool
  is_start n = among n.name (start_names P)

  -- a node is reached within some number of calls
  abbrev IsReached : Node → Type 0
  IsReached n = (k : ℕ) × In n (reached_within P is_start k)

  known : (f : Name) (n : Node) → node_named P f ≡ Some n → In n P.source.nodes
  known f n e = find_in (λ m. bytes_eq m.name f) P.source.nodes n e

  name_of : (f : Name) (n : Node) → node_named P f ≡ Some n → n.name ≡ f
  name_of f n e =
      (bytes_eq-Decides n.name f).0 (found_passes (λ m. bytes_eq m.name f) P.source.nodes n e)

  start_reached :
      (f : Name) (n : Node) → among f (start_names P) ≡ true → node_named P f ≡ Some n →
      IsReached n
  start_reached f n is e =
      let starts : is_start n ≡ true = ap (λ x. among x (start_names P)) (name_of f n e) ∙ is in
      (0, in_filter is_start P.source.nodes n (known f n e) starts)

  -- a node that is called by a reached node is reached
  called_reached :
      (n m : Node) (s : Site) → IsReached n → In s (node_sites n) →
      node_named P s.callee ≡ Some m → IsReached m
  called_reached n m s r i e =
      let named = (bytes_eq-Decides s.callee m.name).1 (sym (name_of s.callee m e)) in
      let calling : calls n m ≡ true =
      any_in (λ t. bytes_eq t.callee m.name) (node_sites n) s i named in
      let called = any_in (λ l. calls l m) (reached_within P is_start r.0) n r.1 calling in (
        suc r.0,
        in_filter (λ l. is_start l || list_any (λ k. calls k l) (reached_within P is_start r.0))
            P.source.nodes m (known s.callee m e) (or_right (is_start m) _ called),
      )

  -- ## The nodes of instances

  abbrev HasReached : Instance → Type 0
  HasReached c = IsReached c.node

  pub callee_node :
      (here : Instance) (site : Site) (call index : ℕ) (c : Instance) →
      callee_of P here site call index ≡ Some c → node_named P site.callee ≡ Some c.node
  callee_node here site call index c e =
      let n = bound (node_named P site.callee) _ c e in
      let values = bound (all_some (map (static_value P here) site.arguments)) _ c n.gives in
      n.is ∙ ap Some (ap (λ (i : Instance). i.node) (same_Some _ _ values.gives))

  site_reached :
      (here : Instance) (s : ℕ × Site) → HasReached here →
      slice_get (node_sites here.node) s.0 ≡ Some s.1 →
      Every HasReached (site_instances P here s)
  site_reached here s r stands =
      Every-found HasReached (callee_of P here s.1 s.0)
      (listed (range_with_len 0) (instance_count P here s.1.count))
      (Every-all _ (λ i. if_some HasReached (callee_of P here s.1 s.0 i)
      (λ c e.
      called_reached here.node c.node s.1 r (in_at (node_sites here.node) s.0 s.1 stands)
      (callee_node here s.1 s.0 i c e))) _)

  children_reached : (here : Instance) → HasReached here → Every HasReached (children P here)
  children_reached here r =
      Every-of_pieces HasReached (site_instances P here) (numbered_sites 0 (node_sites here.node))
      (Every-map _ _ (λ s stands. site_reached here s r stands) _
      (numbered_stand P (node_sites here.node)))

  from_reached :
      (n : ℕ) (here : Instance) → HasReached here → Every HasReached (instances_from P n here)
  from_reached zero here r = tt
  from_reached (suc n) here r = (
    r,
    Every-of_pieces HasReached (instances_from P n) (children P here)
        (Every-map HasReached _ (λ c is. from_reached n c is) (children P here)
        (children_reached here r)),
  )

  pub start_node :
      (p : Path) (f : Name) (c : Instance) → start_at P p f ≡ Some c →
      node_named P f ≡ Some c.node
  start_node p f c e = grind arith

  root_reached : (c : Instance) → instance_at P Root ≡ Some c → HasReached c
  root_reached c e =
      let first = (bytes_eq-Decides P.root P.root).1 refl in
      start_reached P.root c.node (or_left (bytes_eq P.root P.root) _ first)
      (start_node Root P.root c e)

  observer_reached : (c : Instance) → instance_at P Observer ≡ Some c → HasReached c
  observer_reached c e =
      let f = bound P.observer (start_at P Observer) c e in
      let second : among f.value (P.root ∷ f.value ∷ []) ≡ true =
      or_right (bytes_eq f.value P.root) _
      (or_left (bytes_eq f.value f.value) _ ((bytes_eq-Decides f.value f.value).1 refl)) in
      let starts : among f.value (start_names P) ≡ true =
      ap (λ o. among f.value (P.root ∷ listed (λ x. x ∷ []) o)) f.is ∙ second in
      start_reached f.value c.node starts (start_node Observer f.value c f.gives)

  listed_reached :
      (o : Option Instance) → ((c : Instance) → o ≡ Some c → HasReached c) →
      Every HasReached (listed (instances_from P 65) o)
  listed_reached None first = tt
  listed_reached (Some c) first = from_reached 65 c (first c refl)

  all_reached : Every HasReached (instances P)
  all_reached =
      Every-append HasReached (listed (instances_from P 65) (instance_at P Root))
      (listed (instances_from P 65) (instance_at P Observer))
      (listed_reached (instance_at P Root) root_reached)
      (listed_reached (instance_at P Observer) observer_reached)

  -- ## The names of an accepted program

  module _ (names : keeps_names P ≡ true) where
    abbrev ill : Node → Bool
    ill m = not (is_named P m)

    reached_named : list_all (is_named P) (reached_nodes P) ≡ true
    reached_named = and_first _ _ (and_second _ _ (and_second _ _ names))

    -- a reached node keeps the rules of names: it is reached within as many calls as there are
    -- nodes
    node_is_named : (n : Node) → IsReached n → is_named P n ≡ true
    node_is_named n r =
        not-false (is_named P n) (false_from_ne_true (ill n) (λ breaks.
        let here = any_in ill (reached_within P is_start r.0) n r.1 breaks in
        let m = in_any ill (reached_nodes P) (enough_calls P is_start ill r.0 here) in
        let well = all_in (is_named P) (reached_nodes P) m.0 reached_named m.1 in
        let both : not true ≡ true = ap not (sym well) ∙ m.2 in
        absurd cc))

    -- the node of each instance keeps the rules of names
    pub instances_named : Every (λ c. is_named P c.node ≡ true) (instances P)
    instances_named =
        Every-map HasReached _ (λ c r. node_is_named c.node r) (instances P) all_reached

module _ (P : Program) (accepted : static_refusal P ≡ None) where
  -- no instance has two variables of one name
  pub variables_distinct : Every (λ c. are_distinct (variable_names c.node) ≡ true) (instances P)
  variables_distinct =
      Every-map _ _ (λ c is.
      distinct_first (variable_names c.node) c.node.parameters
      (and_first (declares_once P c.node) _ is)) (instances P)
      (instances_named P (names_kept P accepted))
