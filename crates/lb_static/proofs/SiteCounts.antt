-- Each call of an instance whose sizes are in range is entered at least once.
use Rattle.std.proofs.Common.{◌≡◌, ℕ, zero, suc, ◌<◌, ℤ, pos, negsuc, Bool, true, List, [], ◌∷◌}
use Rattle.std.proofs.Common.{◌++◌, Option, Some, None, option_map, refl, ap, sym, ◌∙◌, subst}
use Rattle.std.proofs.Common.{arith}
use Rattle.std.specs.Prelude.{◌&&◌, nat_le, flat_map, slice_get}
use Rattle.std.specs.List.{list_all}
use Rattle.std.proofs.lemmas.Grind.{flat_map-append}
use Rattle.std.proofs.lemmas.Option.{slice_get-map}
use Rattle.std.proofs.lemmas.Bool.Decides.{nat_tests}
use Rattle.std.proofs.lemmas.Bool.{and_from}
use Rattle.std.proofs.lemmas.List.Folds.{list_all-append}
use Rattle.lb_syntax.specs.Lists.{◌>>=◌, holds, either_or}
use Rattle.lb_syntax.specs.Tree.{Static, Node_named, Symbol, Expr, Literal, Truth, Variable, Group}
use Rattle.lb_syntax.specs.Tree.{Unary, Binary, If, Arrow, Fby, Pre, Current, When, Replicate}
use Rattle.lb_syntax.specs.Tree.{Index, Slice, Join, Array, AtMostOne, Nor, Call, Iterate, Exprs}
use Rattle.lb_syntax.specs.Tree.{Nil, Cons, Node, Statement, Equation, Assertion}
use Rattle.lb_syntax.proofs.TruthValues.{and_first, and_second}
use Rattle.lb_static.specs.Instances.{Program, Path, Site, sites, sites_in, statement_sites}
use Rattle.lb_static.specs.Instances.{node_sites}
use Rattle.lb_static.specs.InstanceTable.{instance_of}
use Rattle.lb_static.specs.Parts.{parts, parts_in, right_side, declared_sizes, node_parts}
use Rattle.lb_static.specs.Parts.{node_sizes, own_sizes}
use Rattle.lb_static.specs.ReachedNodes.{source_names}
use Rattle.lb_static.specs.ResolvedNodes.{IsResolved, node_of, statics_of}
use Rattle.lb_static.specs.ResolvedTerms.{site_of, static_at}
use Rattle.lb_static.specs.Specialized.{size_of}
use Rattle.lb_static.specs.StaticValues.{natural}
use Rattle.lb_static.specs.Instantiation.{is_between}
use Rattle.lb_static.specs.Instantiated.{IsInstantiable, IsJudged, times_of}
use Rattle.lb_static.specs.declared.constants.Constants.{Constants}
use Rattle.lb_static.specs.declared.reachable.Reached.{Reached}
use Rattle.lb_static.specs.declared.resolved.CallSite.{CallSite}
use Rattle.lb_static.specs.declared.resolved.ResolvedNode.{ResolvedNode}
use Rattle.lb_static.specs.declared.resolved.StaticId.{StaticId}
use Rattle.lb_static.proofs.CallSites.{value_read}

-- ## The counts of the calls in a text are among its sizes

module _ (q : Static → Bool) where
  abbrev pub passes : Option Static → Bool
  passes None = true
  passes (Some n) = q n

  abbrev pub counted : Site → Bool
  counted s = passes s.count

  abbrev Sized : List Expr → Type 0
  Sized es = list_all q (flat_map own_sizes es) ≡ true

  abbrev pub Counted : List Site → Type 0
  Counted ss = list_all counted ss ≡ true

  split : (xs ys : List Expr) → Sized (xs ++ ys)
      → (list_all q (flat_map own_sizes xs) && list_all q (flat_map own_sizes ys)) ≡ true
  split xs ys h =
      sym (list_all-append q (flat_map own_sizes xs) (flat_map own_sizes ys))
      ∙ ap (list_all q) (sym (flat_map-append own_sizes xs ys)) ∙ h

  two : (ss ts : List Site) (xs ys : List Expr) → (Sized xs → Counted ss) → (Sized ys → Counted ts)
      → Sized (xs ++ ys) → Counted (ss ++ ts)
  two ss ts xs ys f g h =
      let s = split xs ys h in
      list_all-append counted ss ts
      ∙ and_from (list_all counted ss) (list_all counted ts)
      (f (and_first (list_all q (flat_map own_sizes xs)) (list_all q (flat_map own_sizes ys)) s))
      (g (and_second (list_all q (flat_map own_sizes xs)) (list_all q (flat_map own_sizes ys)) s))

  mutual
    sites_count : (e : Expr) → Sized (parts e) → Counted (sites e)
    sites_count (Literal n) h = refl
    sites_count (Truth b) h = refl
    sites_count (Variable x) h = refl
    sites_count (Group a) h = sites_count a h
    sites_count (Unary op a) h = sites_count a h
    sites_count (Binary op a b) h =
        two (sites a) (sites b) (parts a) (parts b) (sites_count a) (sites_count b) h
    sites_count (If c a b) h =
        two (sites c) (sites a ++ sites b) (parts c) (parts a ++ parts b) (sites_count c)
        (two (sites a) (sites b) (parts a) (parts b) (sites_count a) (sites_count b)) h
    sites_count (Arrow a b) h =
        two (sites a) (sites b) (parts a) (parts b) (sites_count a) (sites_count b) h
    sites_count (Fby a b) h =
        two (sites a) (sites b) (parts a) (parts b) (sites_count a) (sites_count b) h
    sites_count (Pre a) h = sites_count a h
    sites_count (Current a) h = sites_count a h
    sites_count (When a x sign) h = sites_count a h
    sites_count (Replicate a n) h = sites_count a (and_second (q n) _ h)
    sites_count (Index a i) h = sites_count a h
    sites_count (Slice a i j) h = sites_count a h
    sites_count (Join a b) h =
        two (sites a) (sites b) (parts a) (parts b) (sites_count a) (sites_count b) h
    sites_count (Array es) h = row_counts es h
    sites_count (AtMostOne es) h = row_counts es h
    sites_count (Nor es) h = row_counts es h
    sites_count (Call f statics es) h = row_counts es h
    sites_count (Iterate it (Node_named f statics) n es) h = and_from (q n)
        (list_all counted (sites_in es)) (and_first (q n) _ h)
        (row_counts es (and_second (q n) _ h))
    sites_count (Iterate it (Symbol op) n es) h = row_counts es (and_second (q n) _ h)

    row_counts : (es : Exprs) → Sized (parts_in es) → Counted (sites_in es)
    row_counts Nil h = refl
    row_counts (Cons e es) h =
        two (sites e) (sites_in es) (parts e) (parts_in es) (sites_count e) (row_counts es) h

  statement_counts : (s : Statement) → Sized (parts (right_side s)) → Counted (statement_sites s)
  statement_counts (Equation lefts e) h = sites_count e h
  statement_counts (Assertion e) h = sites_count e h

  body_counts : (ss : List Statement) → Sized (flat_map (λ s. parts (right_side s)) ss)
      → Counted (flat_map statement_sites ss)
  body_counts [] h = refl
  body_counts (s ∷ ss) h =
      two (statement_sites s) (flat_map statement_sites ss) (parts (right_side s))
      (flat_map (λ t. parts (right_side t)) ss) (statement_counts s) (body_counts ss) h

  pub node_counts : (k : Node) → list_all q (node_sizes k) ≡ true → Counted (node_sites k)
  node_counts k h =
      body_counts k.body
      (and_second (list_all q (declared_sizes k)) (list_all q (flat_map own_sizes (node_parts k)))
      (sym (list_all-append q (declared_sizes k) (flat_map own_sizes (node_parts k))) ∙ h))

  one_counted : (ss : List Site) (i : ℕ) (s : Site) → Counted ss → slice_get ss i ≡ Some s
      → passes s.count ≡ true
  one_counted [] i s h e = absurd cc
  one_counted (t ∷ ss) zero s h e = let same : t ≡ s =
      cc in subst (λ u. passes u.count ≡ true) same (and_first (counted t) (list_all counted ss) h)
  one_counted (t ∷ ss) (suc i) s h e =
      one_counted ss i s (and_second (counted t) (list_all counted ss) h) e

-- ## The calls of an instance

positive : (v : ℤ) → holds (λ n. nat_le 1 n && nat_le n 4096) (natural v) ≡ true → 0 < size_of v
positive (pos k) h = let e : nat_le 1 k ≡ true =
    and_first (nat_le 1 k) (nat_le k 4096) h in grind (arith, nat_tests)
positive (negsuc k) h = absurd cc

module _ (P : Program) (r : Reached) (c : Constants) (w : IsInstantiable P r c) (p : Path)
    (n : ResolvedNode) (values : List ℤ) (statics : List ℤ)
    (judged : IsJudged P n (instance_of p (node_of n) values) statics) where
  entered_by : (o : Option StaticId)
      → passes (is_between P (instance_of p (node_of n) values) 1 4096)
      (option_map (static_at (statics_of n)) o) ≡ true → 0 < times_of statics o
  entered_by None h = omega arith
  entered_by (Some i) h =
      positive (either_or (slice_get statics i.0) (pos 0))
      (subst (λ (o : Option ℤ). holds (λ n. nat_le 1 n && nat_le n 4096) (o >>= natural) ≡ true)
      (value_read P r c w p n values statics judged.evaluated_as i) h)

  pub entered_once : (call : ℕ) (s : CallSite) → IsResolved (source_names P) n
      → slice_get n.calls.items call ≡ Some s → 0 < times_of statics s.count
  entered_once call s is at =
      let here = instance_of p (node_of n) values in
      let q = is_between P here 1 4096 in
      let site = site_of (source_names P) (statics_of n) in
      let sizes : list_all q (node_sizes (node_of n)) ≡ true =
      and_first (list_all q (node_sizes (node_of n))) _ judged.in_range in
      let there : slice_get (node_sites (node_of n)) call ≡ Some (site s) =
      ap (λ l. slice_get l call) (sym is.calls) ∙ slice_get-map site n.calls.items call
      ∙ ap (option_map site) at in
      entered_by s.count (one_counted q (node_sites (node_of n)) call (site s)
      (node_counts q (node_of n) sizes) there)
