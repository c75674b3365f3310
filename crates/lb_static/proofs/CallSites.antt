-- The instances that a call site of an instance calls.
use Rattle.std.proofs.Common.{◌≡◌, ℕ, suc, zero, ◌<◌, ℤ, pos, negsuc, true, false, cond, List, []}
use Rattle.std.proofs.Common.{◌∷◌, map, length, take, drop, get_or, Option, Some, None, option_map}
use Rattle.std.proofs.Common.{refl, ap, ap₂, sym, ◌∙◌, subst, arith}
use Rattle.std.specs.Prelude.{not, slice_get, find}
use Rattle.std.specs.List.{range_with_len, zip}
use Rattle.std.specs.Str.{bytes_eq}
use Rattle.std.proofs.lemmas.Option.{slice_get-map, slice_get-get_or, get_or_from_slice_get}
use Rattle.std.proofs.lemmas.List.{take-map, drop-map, length-map}
use Rattle.std.proofs.lemmas.Slice.Eq.{bytes_eq-Decides}
use Rattle.std.proofs.lemmas.Bool.{not-true}
use Rattle.lb_syntax.specs.Lists.{◌>>=◌, all_some, some_of, either_or, listed}
use Rattle.lb_syntax.specs.Tree.{Name, Static, Whole, Node}
use Rattle.lb_syntax.proofs.TruthValues.{and_first, and_second, or_first, or_second}
use Rattle.lb_static.specs.Instances.{Program, Instance, Path, Child, Site, static_value}
use Rattle.lb_static.specs.Instances.{node_named, instance_count, callee_of, node_sites}
use Rattle.lb_static.specs.Instances.{site_instances}
use Rattle.lb_static.specs.InstanceTable.{instance_of}
use Rattle.lb_static.specs.Names.{are_distinct, global_names}
use Rattle.lb_static.specs.Parts.{among}
use Rattle.lb_static.specs.ReachedNodes.{source_names, id_at}
use Rattle.lb_static.specs.ResolvedNodes.{IsResolved, node_of, statics_of}
use Rattle.lb_static.specs.ResolvedTerms.{site_of, static_at, statics_at}
use Rattle.lb_static.specs.Specialized.{size_of}
use Rattle.lb_static.specs.StaticValues.{natural}
use Rattle.lb_static.specs.Instantiated.{IsInstantiable, values_at, times_of}
use Rattle.lb_static.specs.declared.constants.Constants.{Constants}
use Rattle.lb_static.specs.declared.reachable.NodeId.{NodeId}
use Rattle.lb_static.specs.declared.reachable.Reached.{Reached}
use Rattle.lb_static.specs.declared.resolved.CallSite.{CallSite}
use Rattle.lb_static.specs.declared.resolved.ResolvedNode.{ResolvedNode}
use Rattle.lb_static.specs.declared.resolved.StaticId.{StaticId}
use Rattle.lb_static.proofs.ReachedPlaces.{distinct_last}

-- ## The node of a name

no_match : (x : Name) (ks : List Node) (i : ℕ) (k : Node) → slice_get ks i ≡ Some k
    → among x (map (λ n. n.name) ks) ≡ false → bytes_eq x k.name ≡ false
no_match x [] i k e h = absurd cc
no_match x (j ∷ js) zero k e h =
    let same : j ≡ k = cc in subst (λ l. bytes_eq x l.name ≡ false) same (or_first _ _ h)
no_match x (j ∷ js) (suc i) k e h = no_match x js i k e (or_second (bytes_eq x j.name) _ h)

-- a node of a list with distinct names is found by its name
found_by_name : (ks : List Node) (i : ℕ) (k : Node) → are_distinct (map (λ n. n.name) ks) ≡ true
    → slice_get ks i ≡ Some k
    → find (λ n. bytes_eq n.name k.name) ks ≡ Some k
found_by_name [] i k d e = absurd cc
found_by_name (j ∷ js) zero k d e =
    let same : j ≡ k = cc in
    let here : bytes_eq j.name k.name ≡ true =
    (bytes_eq-Decides j.name k.name).1 (ap (λ (n : Node). n.name) same) in
    ap (λ b. cond b (Some j) (find (λ n. bytes_eq n.name k.name) js)) here
    ∙ ap (λ (n : Node). Some n) same
found_by_name (j ∷ js) (suc i) k d e =
    let other = no_match j.name js i k e
    (not-true _ (and_first _ (are_distinct (map (λ n. n.name) js)) d)) in
    ap (λ b. cond b (Some j) (find (λ n. bytes_eq n.name k.name) js)) other
    ∙ found_by_name js i k (and_second (not (among j.name (map (λ n. n.name) js))) _ d) e

-- ## Lists

pub all_there : {A : Type 0} (xs : List A) → all_some (map (λ x. Some x) xs) ≡ Some xs
all_there [] = refl
all_there (x ∷ xs) = ap (option_map (λ l. x ∷ l)) (all_there xs)

some_map : {A B : Type 0} (h : A → B) (f : A → Option B) (xs : List A)
    → ((x : A) → f x ≡ Some (h x)) → some_of (map f xs) ≡ map h xs
some_map h f [] e = refl
some_map {B = B} h f (x ∷ xs) e =
    ap (λ (o : Option B). some_of (o ∷ map f xs)) (e x) ∙ ap (λ l. h x ∷ l) (some_map h f xs e)

mapped_at : {A B : Type 0} (f : A → B) (xs : List A) (i : ℕ) (x : A) → i < length xs
    → x ≡ get_or xs i x → f x ≡ get_or (map f xs) i (f x)
mapped_at f [] i x h e = absurd (omega arith)
mapped_at f (y ∷ ys) zero x h e = ap f e
mapped_at f (y ∷ ys) (suc i) x h e = mapped_at f ys i x (omega arith) e

-- ## A call site

module _ (P : Program) (r : Reached) (c : Constants) (w : IsInstantiable P r c) (p : Path)
    (n : ResolvedNode) (values : List ℤ) (statics : List ℤ)
    (had : map (λ v. Some v) statics
    ≡ map (static_value P (instance_of p (node_of n) values)) (statics_of n)) where
  abbrev here : Instance
  here = instance_of p (node_of n) values

  abbrev sites : CallSite → Site
  sites s = site_of (source_names P) (statics_of n) s

  -- the instance of call `call` at an index
  abbrev pub called_at : ℕ → ResolvedNode → List ℤ → ℕ → Instance
  called_at call m arguments index = instance_of (Child p call index) (node_of m) arguments

  pub value_read : (i : StaticId)
      → static_value P here (static_at (statics_of n) i)
      ≡ Some (either_or (slice_get statics i.0) (pos 0))
  value_read i =
      by (slice_get statics i.0) (slice_get (statics_of n) i.0)
      (sym (slice_get-map (λ v. Some v) statics i.0) ∙ ap (λ l. slice_get l i.0) had
      ∙ slice_get-map (static_value P here) (statics_of n) i.0)
    where
      by : (o : Option ℤ) (s : Option Static)
          → option_map (λ v. Some v) o ≡ option_map (static_value P here) s
          → static_value P here (either_or s (Whole 0)) ≡ Some (either_or o (pos 0))
      by None None e = refl
      by None (Some s) e = absurd cc
      by (Some v) None e = absurd cc
      by (Some v) (Some s) e = let same : Some v ≡ static_value P here s = cc in sym same

  times_read : (o : Option StaticId)
      → listed (range_with_len 0) (instance_count P here (option_map (static_at (statics_of n)) o))
      ≡ range_with_len 0 (times_of statics o)
  times_read None = refl
  times_read (Some i) = ap (λ (o : Option ℤ). listed (range_with_len 0) (o >>= natural))
      (value_read i) ∙ by (either_or (slice_get statics i.0) (pos 0))
    where
      by : (v : ℤ) → listed (range_with_len 0) (natural v) ≡ range_with_len 0 (size_of v)
      by (pos k) = refl
      by (negsuc k) = refl

  arguments_read : (first : StaticId) (count : ℕ)
      → all_some (map (static_value P here) (statics_at (statics_of n) first count))
      ≡ Some (values_at statics first count)
  arguments_read first count =
      ap all_some
      (sym (take-map (static_value P here) count (drop first.0 (statics_of n)))
      ∙ ap (take count) (sym (drop-map (static_value P here) first.0 (statics_of n))
      ∙ ap (drop first.0) (sym had) ∙ drop-map (λ v. Some v) first.0 statics)
      ∙ take-map (λ v. Some v) count (drop first.0 statics))
      ∙ all_there (values_at statics first count)

  node_read : (s : CallSite) (id : NodeId) (m : ResolvedNode) → id_at r s.callee ≡ Some id
      → slice_get r.nodes.items id.0 ≡ Some m
      → node_named P (sites s).callee ≡ Some (node_of m)
  node_read s id m at is =
      let tree = slice_get-map node_of r.nodes.items id.0 ∙ ap (option_map node_of) is in
      let source : slice_get P.source.nodes s.callee.0 ≡ Some (node_of m) =
      sym (w.reached.found s.callee id at) ∙ tree in
      let name : (sites s).callee ≡ (node_of m).name =
      ap (λ (o : Option Name). either_or o [])
      (slice_get-map (λ (k : Node). k.name) P.source.nodes s.callee.0
      ∙ ap (option_map (λ (k : Node). k.name)) source) in
      let distinct = distinct_last (map (λ k. k.name) P.source.constants) (source_names P)
      (and_first (are_distinct (global_names P)) _ w.names) in
      ap (node_named P) name ∙ found_by_name P.source.nodes s.callee.0 (node_of m) distinct source

  -- `callee_of` of the definitions for a call at an index: the instance of its callee there
  pub callee_read : (call : ℕ) (s : CallSite) (id : NodeId) (m : ResolvedNode)
      → id_at r s.callee ≡ Some id → slice_get r.nodes.items id.0 ≡ Some m → (index : ℕ)
      → callee_of P here (sites s) call index
      ≡ Some (called_at call m (values_at statics s.first_argument s.arguments) index)
  callee_read call s id m at is index =
      ap₂ (λ (o : Option Node) (q : Option (List ℤ)).
      o >>= λ k. q >>= λ vs. Some
      (record { path = Child p call index; node = k; values = zip k.parameters vs }))
      (node_read s id m at is) (arguments_read s.first_argument s.arguments)

  pub site_read : (call : ℕ) (s : CallSite) (id : NodeId) (m : ResolvedNode)
      → id_at r s.callee ≡ Some id → slice_get r.nodes.items id.0 ≡ Some m
      → site_instances P here (call, sites s)
      ≡ map (called_at call m (values_at statics s.first_argument s.arguments))
      (range_with_len 0 (times_of statics s.count))
  site_read call s id m at is =
      let arguments = values_at statics s.first_argument s.arguments in
      ap (λ l. some_of (map (callee_of P here (sites s) call) l)) (times_read s.count)
      ∙ some_map (called_at call m arguments) (callee_of P here (sites s) call)
      (range_with_len 0 (times_of statics s.count))
      (callee_read call s id m at is)

  -- the site of call `call` of the node, and its instances, where the call is read from a list
  pub call_read : (items : List CallSite) (call : ℕ) (d : CallSite) (id : NodeId) (m : ResolvedNode)
      (arguments : List ℤ) (times : ℕ)
      → IsResolved (source_names P) n → items ≡ n.calls.items → call < length items
      → id_at r (get_or items call d).callee ≡ Some id → slice_get r.nodes.items id.0 ≡ Some m
      → arguments ≡ values_at statics (get_or items call d).first_argument
      (get_or items call d).arguments → times ≡ times_of statics (get_or items call d).count
      → (call < length (node_sites (node_of n)))
      × (sites (get_or items call d)
      ≡ get_or (node_sites (node_of n)) call (sites (get_or items call d)))
      × (site_instances P here (call, sites (get_or items call d))
      ≡ map (called_at call m arguments) (range_with_len 0 times))
  call_read items call d id m arguments times is same within at found had_arguments had_times =
      let s = get_or items call d in
      let all = ap (map sites) same ∙ is.calls in
      let many : call < length (map sites items) = omega (arith, length-map items sites) in
      let read : s ≡ get_or items call s =
      sym (get_or_from_slice_get items call s s (slice_get-get_or items call d within)) in (
        subst (λ l. call < length l) all many,
        mapped_at sites items call s within read ∙ ap (λ l. get_or l call (sites s)) all,
        site_read call s id m at found
            ∙ ap (λ l. map (called_at call m l) (range_with_len 0 (times_of statics s.count)))
            (sym had_arguments)
            ∙ ap (λ k. map (called_at call m arguments) (range_with_len 0 k)) (sym had_times),
      )
