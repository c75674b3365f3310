-- The types that are found and kept of the terms of a specialization.
use Rattle.lb_check.proofs.Words
use Words.{DataType, Expr, FoundNode, FoundTypes, Global, HasTypes, Instance, IsJudged, IsReached}
use Words.{IsResolved, IsTable, Kept, Kind, List, NodeTypes, None, Option, Path, Program, Reached}
use Words.{ResolvedNode, Some, Specialization, Table, TermType, Vec, [], ap, append-nil}
use Words.{append_assoc, ap₂, arith, counts_of, data_types, drop, either_or, expression_size, false}
use Words.{flat_map, found_in, found_of, get_or, instance_of, int, is_small, length, length-append}
use Words.{listed, map, map-append, mapped_from, min, node_of, node_parts, node_types, only}
use Words.{part_size, parts, parts_of, product, refl, reverse, reverse-append, right_side}
use Words.{same_Some, size_of, slice_get, source_names, specialization_types, specialized_at, subst}
use Words.{suc, sum_by, sum_by-cons, sum_by_more, sym, tail_of, take, texts_of, total, with_term}
use Words.{zero, ℕ, ◌++◌, ◌+◌, ◌-◌, ◌<◌, ◌>>=◌, ◌∙◌, ◌∷◌, ◌≡◌, ◌≢◌, ◌≤◌}
use Rattle.lb_check.proofs.{lists.ListPairs.get_mapped, typing.FittedTypes.node_at}
use Rattle.lb_check.proofs.typing.{FittedTypes.specialized_instance, MirroredTypes.statements_typed}
use Rattle.lb_check.proofs.typing.{Specializations.too_large, TypedSpecializations.fits}
use Rattle.lb_check.specs.{FoundTerms.HasFoundTypes, PlacedTypes.{AreFound, AreKept, nothing_found}}
use Rattle.lb_check.specs.{PlacedTypes.{sizes_of, type_among, with_terms}, Streams.data_type}
use Rattle.{lb_check.specs.TermTypes.context_of, lb_static.proofs.TypeViews.product_reverse}
use Rattle.std.proofs.{Math.Seq.{drop-append_seam, take-append_seam}, lemmas.List.take_all}
use Rattle.std.proofs.lemmas.List.{take_more}

-- The types that are kept of terms give the type of each term.

-- the product of all sizes but the outermost is the same in the opposite order
inner_product :
    (ns : List ℕ) →
    product (take (length (reverse ns) - 1) (reverse ns)) ≡ product (tail_of ns)
inner_product [] = refl
inner_product (n ∷ ns) =
    ap (λ l. product (take (length l - 1) l)) (reverse-append (n ∷ []) ns)
    ∙ ap (λ k. product (take k (reverse ns ++ (n ∷ [])))) shorter
    ∙ ap product (take-append_seam (reverse ns) (n ∷ [])) ∙ product_reverse ns
  where
    shorter : length (reverse ns ++ (n ∷ [])) - 1 ≡ length (reverse ns)
    shorter = let e = length-append (reverse ns) (n ∷ []) in omega (arith, e)

-- ## Rows

abbrev types_in : FoundTypes → List DataType
types_in o = either_or o []

abbrev type_in : FoundTypes → DataType
type_in o = type_among (types_in o)

abbrev sizes_in : FoundTypes → List ℕ
sizes_in o = reverse (type_in o).sizes

abbrev row_of : ℕ → FoundTypes → TermType
row_of n o = record {
  kind = (type_in o).kind;
  elements = min (total (types_in o)) 65537;
  first = n;
  rank = length (sizes_in o);
}

abbrev rows_from : ℕ → List FoundTypes → List TermType
rows_from n [] = []
rows_from n (o ∷ os) = row_of n o ∷ rows_from (n + length (sizes_in o)) os

abbrev node_with : List TermType → List ℕ → FoundNode
node_with ts ns = record { terms = ts; sizes = ns }

kept : (f : FoundNode) (os : List FoundTypes) →
    with_terms f os
    ≡ node_with (f.terms ++ rows_from (length f.sizes) os) (f.sizes ++ flat_map sizes_in os)
kept f [] = ap₂ node_with (sym (append-nil f.terms)) (sym (append-nil f.sizes))
kept f (o ∷ os) =
    kept (with_term f o) os
    ∙ ap₂ node_with
    (append_assoc f.terms (row_of (length f.sizes) o ∷ [])
    (rows_from (length (f.sizes ++ sizes_in o)) os)
    ∙ ap (λ n. f.terms ++ (row_of (length f.sizes) o ∷ rows_from n os))
    (length-append f.sizes (sizes_in o)))
    (append_assoc f.sizes (sizes_in o) (flat_map sizes_in os))

abbrev all_kept : List FoundTypes → FoundNode
all_kept os = node_with (rows_from 0 os) (flat_map sizes_in os)

kept_all : (os : List FoundTypes) → with_terms nothing_found os ≡ all_kept os
kept_all os = kept nothing_found os

-- the number of elements that is kept is the sum over all terms
pub size_kept : (os : List FoundTypes) → size_of (with_terms nothing_found os) ≡ sum_by part_size os
size_kept os = ap size_of (kept_all os) ∙ by 0 os
  where
    by : (n : ℕ) (os : List FoundTypes) →
        sum_by (λ (t : TermType). t.elements) (rows_from n os) ≡ sum_by part_size os
    by n [] = refl
    by n (o ∷ os) =
        let m = n + length (sizes_in o) in
        sum_by-cons (λ (t : TermType). t.elements) (row_of n o) (rows_from m os)
        ∙ ap (λ k. part_size o + k) (by m os) ∙ sym (sum_by-cons part_size o os)

-- the sizes of a term stand at the place that its row names, behind the sizes `before`
sizes_there :
    (before : List ℕ) (os : List FoundTypes) (i : ℕ) (o : FoundTypes) → slice_get os i ≡ Some o →
    listed (λ (t : TermType). take t.rank (drop t.first (before ++ flat_map sizes_in os)))
    (slice_get (rows_from (length before) os) i)
    ≡ sizes_in o
sizes_there before [] i o e = absurd cc
sizes_there before (p ∷ os) zero o e =
    let same : p ≡ o = cc in
    ap (take (length (sizes_in p))) (drop-append_seam before (sizes_in p ++ flat_map sizes_in os))
    ∙ take-append_seam (sizes_in p) (flat_map sizes_in os) ∙ ap sizes_in same
sizes_there before (p ∷ os) (suc i) o e =
    ap (λ l. listed (λ (t : TermType). take t.rank (drop t.first l))
    (slice_get (rows_from (length before + length (sizes_in p)) os) i))
    (sym (append_assoc before (sizes_in p) (flat_map sizes_in os)))
    ∙ ap (λ n. listed (λ (t : TermType).
    take t.rank (drop t.first ((before ++ sizes_in p) ++ flat_map sizes_in os)))
    (slice_get (rows_from n os) i)) (sym (length-append before (sizes_in p)))
    ∙ sizes_there (before ++ sizes_in p) os i o e

sizes_kept :
    (f : FoundNode) (os : List FoundTypes) (i : ℕ) (o : FoundTypes) →
    f ≡ with_terms nothing_found os → slice_get os i ≡ Some o → sizes_of f i ≡ sizes_in o
sizes_kept f os i o is e = ap (λ g. sizes_of g i) (is ∙ kept_all os) ∙ sizes_there [] os i o e

parts_kept :
    (f : FoundNode) (os : List FoundTypes) (i : ℕ) (o : FoundTypes) →
    f ≡ with_terms nothing_found os → slice_get os i ≡ Some o →
    parts_of f i ≡ min (product (tail_of (type_in o).sizes)) 65537
parts_kept f os i o is e =
    let ns = (type_in o).sizes in
    ap (λ l. min (product (take (length l - 1) l)) 65537) (sizes_kept f os i o is e)
    ∙ ap (λ k. min k 65537) (inner_product ns)

-- ## The specializations whose types are found, one after another

-- the types of the first `i` specializations are found, as long as they are not too many
abbrev pub AreFoundTo : Reached → Table → List Specialization → ℕ → Kept → List NodeTypes → Type 0
AreFoundTo r t ss i now all =
    (now.found ≡ [])
    × (now.left
    ≡ 65537 - sum_by (λ (s : Specialization). size_of (found_of r t s)) (take i ss))
    × (now.left ≢ 0 → map found_in all ≡ map (found_of r t) (take i ss))

module _ (r : Reached) (t : Table) (ss : List Specialization) where
  abbrev size : Specialization → ℕ
  size s = size_of (found_of r t s)

  -- those of one more are found
  pub found_more :
      (i : ℕ) (s : Specialization) → i < length ss → s ≡ get_or ss i s →
      (before after : Kept) (all more : List NodeTypes) (f : NodeTypes) →
      AreFoundTo r t ss i before all →
      AreKept (specialization_types r t s) before after nothing_found (found_in f) →
      more ≡ all ++ (f ∷ []) → AreFoundTo r t ss (i + 1) after more
  found_more i s lt is before after all more f known one e =
      let own = size_kept (specialization_types r t s) in
      let sum = sum_by_more size ss i s lt in
      let item = ap size is in (
        one.0,
        omega (arith, known.1, one.1, own, sum, item),
        λ some.
            ap (map found_in) e ∙ map-append found_in all (f ∷ [])
            ∙ ap (λ l. l ++ (found_in f ∷ [])) (known.2 (λ e. some (omega (arith, e, one.1))))
            ∙ ap (λ g. map (found_of r t) (take i ss) ++ (g ∷ [])) (one.2 some)
            ∙ ap (λ s. map (found_of r t) (take i ss) ++ (found_of r t s ∷ [])) is
            ∙ sym (map-append (found_of r t) (take i ss) (get_or ss i s ∷ []))
            ∙ ap (map (found_of r t)) (sym (take_more ss i s lt)),
      )

  module _ (i : ℕ) (now : Kept) (le : length ss ≤ i) (same : ss ≡ t.specializations.items) where
    -- those of all are too many
    pub found_none : (all : List NodeTypes) → AreFoundTo r t ss i now all → now.left ≡ 0 →
        AreFound r t None
    found_none all known over =
        let every = ap (sum_by size) (take_all i ss le ∙ same) in
        omega (arith, known.1, over, every)

    -- those of all are found
    pub found_all : (all : Vec NodeTypes Global) → AreFoundTo r t ss i now all.items →
        now.left ≢ 0 → AreFound r t (Some all)
    found_all all known some = known.2 some ∙ ap (map (found_of r t)) (take_all i ss le ∙ same)

-- ## The expressions of an instance

module _ (P : Program) (here : Instance) where
  abbrev rows_of : List Expr → List FoundTypes
  rows_of es = map (data_types P here) es

  type_is : (o : FoundTypes) → type_in o ≡ either_or (o >>= only) int
  type_is None = refl
  type_is (Some ts) = refl

  kinds_kept : (n : ℕ) (es : List Expr) →
      map (λ (t : TermType). t.kind) (rows_from n (rows_of es))
      ≡ map (λ e. (data_type P here e).kind) es
  kinds_kept n [] = refl
  kinds_kept n (e ∷ es) =
      ap₂ (λ (k : Kind) (ks : List Kind). k ∷ ks)
      (ap (λ (t : DataType). t.kind) (type_is (data_types P here e)))
      (kinds_kept (n + length (sizes_in (data_types P here e))) es)

  elements_kept : (n : ℕ) (es : List Expr) →
      map (λ (t : TermType). t.elements) (rows_from n (rows_of es))
      ≡ map (λ e. min (expression_size P here e) 65537) es
  elements_kept n [] = refl
  elements_kept n (e ∷ es) =
      ap (λ (ks : List ℕ). min (expression_size P here e) 65537 ∷ ks)
      (elements_kept (n + length (sizes_in (data_types P here e))) es)

  -- the types that are kept of the expressions of an instance are right
  pub types_kept :
      (f : NodeTypes) → found_in f ≡ with_terms nothing_found (rows_of (node_parts here.node)) →
      HasTypes P here f
  types_kept f is =
      let es = node_parts here.node in
      let all = is ∙ kept_all (rows_of es) in
      record {
        kinds =
            ap (λ (g : FoundNode). map (λ (t : TermType). t.kind) g.terms) all ∙ kinds_kept 0 es;
        elements =
            ap (λ (g : FoundNode). map (λ (t : TermType). t.elements) g.terms) all
            ∙ elements_kept 0 es;
        sizes = λ i e at.
            sizes_kept (found_in f) (rows_of es) i (data_types P here e) is
            (get_mapped (data_types P here) es i e at)
            ∙ ap (λ (t : DataType). reverse t.sizes) (type_is (data_types P here e));
        parts = λ i e at.
            parts_kept (found_in f) (rows_of es) i (data_types P here e) is
            (get_mapped (data_types P here) es i e at)
            ∙ ap (λ (t : DataType). min (product (tail_of t.sizes)) 65537)
            (type_is (data_types P here e));
      }

  -- ## Sizes

  -- the sums of two rows of counts are equal up to 65,537, where the counts are
  capped : {A B : Type 0} (f : A → ℕ) (g : B → ℕ) (xs : List A) (ys : List B) (a : ℕ) →
      map f xs ≡ map (λ y. min (g y) 65537) ys →
      min (a + sum_by f xs) 65537 ≡ min (a + sum_by g ys) 65537
  capped f g [] [] a e = refl
  capped f g (x ∷ xs) (y ∷ ys) a e =
      let one : f x ≡ min (g y) 65537 = cc in
      let more : map f xs ≡ map (λ y. min (g y) 65537) ys = cc in
      let rest = capped f g xs ys (a + f x) more in
      omega (arith, one, rest, sum_by-cons f x xs, sum_by-cons g y ys)
  capped f g _ _ a e = absurd cc

  -- the scalar elements of all terms are those of the expressions, up to 65,537
  pub size_found :
      (f : NodeTypes) → HasTypes P here f →
      min (sum_by (λ (t : TermType). t.elements) f.terms.items) 65537
      ≡ min (sum_by (expression_size P here) (node_parts here.node)) 65537
  size_found f has =
      let e = capped (λ (t : TermType). t.elements) (expression_size P here) f.terms.items
      (node_parts here.node) 0 has.elements in
      omega (arith, e)

  -- the terms that are kept have no more elements than the expressions
  no_more : (n : ℕ) (es : List Expr) →
      sum_by (λ (t : TermType). t.elements) (rows_from n (rows_of es))
      ≤ sum_by (expression_size P here) es
  no_more n [] = omega arith
  no_more n (e ∷ es) =
      let row = row_of n (data_types P here e) in
      let m = n + length (sizes_in (data_types P here e)) in
      omega (
        arith,
        no_more m es,
        sum_by-cons (λ (t : TermType). t.elements) row (rows_from m (rows_of es)),
        sum_by-cons (expression_size P here) e es,
      )

-- The types that the code finds of the terms of a specialization are those of the expressions of
-- each of its instances.

module _ (P : Program) (r : Reached) (t : Table) (j : IsJudged P r t) (i : ℕ) (s : Specialization)
    (is : slice_get t.specializations.items i ≡ Some s)
    (n : ResolvedNode) (at : slice_get r.nodes.items s.node.0 ≡ Some n)
    (resolved : IsResolved (source_names P) n) (p : Path) where
  pub types_are : node_types (context_of r t n s) n
      ≡ map (data_types P (instance_of p (node_of n) s.values.items)) (node_parts (node_of n))
  types_are =
      let here = instance_of p (node_of n) s.values.items in
      statements_typed P here (texts_of n) (counts_of n) (context_of r t n s)
      (fits P r t j i s is n at resolved p) n.body.items resolved.body_within resolved.unhidden
      ∙ ap (λ b. map (data_types P here) (flat_map (λ s. parts (right_side s)) b)) resolved.body

-- ## The found types of each specialization

module _ (P : Program) (r : Reached) (t : Table) (j : IsJudged P r t) where
  -- the found types of a specialization are those of the expressions of an instance at any path
  of_specialization :
      (i : ℕ) (s : Specialization) → slice_get t.specializations.items i ≡ Some s →
      (n : ResolvedNode) → slice_get r.nodes.items s.node.0 ≡ Some n → (p : Path) →
      specialization_types r t s
      ≡ map (data_types P (instance_of p (node_of n) s.values.items)) (node_parts (node_of n))
  of_specialization i s is n at p =
      let known = node_at P r t j.reached j.table s (j.table.specialized i s is).0 in
      let same = same_Some known.0 n (sym known.1 ∙ at) in
      ap (listed (λ (m : ResolvedNode). node_types (context_of r t m s) m)) at
      ∙ types_are P r t j i s is n at (subst (IsResolved (source_names P)) same known.2) p

  size_fits :
      (i : ℕ) (s : Specialization) → slice_get t.specializations.items i ≡ Some s →
      (p : Path) (here : Instance) → specialized_at r p s ≡ Some here →
      size_of (found_of r t s) ≤ sum_by (expression_size P here) (node_parts here.node)
  size_fits i s is p here e =
      let known = node_at P r t j.reached j.table s (j.table.specialized i s is).0 in
      let own = instance_of p (node_of known.0) s.values.items in
      let same = same_Some own here
      (sym (specialized_instance P r t j.reached j.table s known.0 p known.1) ∙ e) in
      subst (λ (c : Instance).
      size_of (found_of r t s) ≤ sum_by (expression_size P c) (node_parts c.node)) same
      (subst (λ (os : List FoundTypes).
      size_of (with_terms nothing_found os) ≤ sum_by (expression_size P own) (node_parts own.node))
      (sym (of_specialization i s is known.0 known.1 p))
      (subst (λ (g : FoundNode). size_of g ≤ sum_by (expression_size P own) (node_parts own.node))
      (sym (kept_all (rows_of P own (node_parts own.node)))) (no_more P own 0
      (node_parts own.node))))

  -- the found types of all specializations are those of the expressions of their instances
  pub types_here : (found : Option (Vec NodeTypes Global)) → AreFound r t found →
      HasFoundTypes P r t found
  types_here None over =
      too_large P r t (λ (s : Specialization). size_of (found_of r t s)) size_fits j.table over
  types_here (Some found) is = λ i s n there at.
      let f = mapped_from found_in found.items i (found_of r t s)
      (ap (λ l. slice_get l i) is
      ∙ get_mapped (found_of r t) t.specializations.items i s there) in (
        f.0,
        f.1,
        (λ p. types_kept P (instance_of p (node_of n) s.values.items) f.0
            (f.2 ∙ ap (with_terms nothing_found) (of_specialization i s there n at p))),
      )

-- the types that are lent of a specialization are those of each of its instances
pub types_lent :
    (P : Program) (r : Reached) (t : Table) → IsReached P r → IsTable P r t →
    (found : Vec NodeTypes Global) → HasFoundTypes P r t (Some found) →
    (i : ℕ) (s : Specialization) → slice_get t.specializations.items i ≡ Some s →
    (p : Path) (here : Instance) → specialized_at r p s ≡ Some here →
    (f : NodeTypes) × (slice_get found.items i ≡ Some f) × HasTypes P here f
types_lent P r t reached table found has i s there p here e =
    let known = node_at P r t reached table s (table.specialized i s there).0 in
    let own = instance_of p (node_of known.0) s.values.items in
    let same = same_Some own here
    (sym (specialized_instance P r t reached table s known.0 p known.1) ∙ e) in
    let f = has i s known.0 there known.1 in
    (f.0, f.1, subst (λ (c : Instance). HasTypes P c f.0) same (f.2 p))

-- The types of terms that a checked program lends, as the layer above reads them: number by number.

module _ (P : Program) (r : Reached) (t : Table) (reached : IsReached P r) (table : IsTable P r t)
    (i : ℕ) (s : Specialization) (there : slice_get t.specializations.items i ≡ Some s) where
  abbrev Types : Type 0
  Types = Option (Vec NodeTypes Global)

  -- the types that are lent of a specialization
  abbrev lent : Types → Option NodeTypes
  lent found = found >>= λ (all : Vec NodeTypes Global). slice_get all.items i

  -- the types that are lent of a specialization are those of each of its instances
  pub types_read :
      (found : Types) → HasFoundTypes P r t found → (p : Path) (here : Instance) →
      specialized_at r p s ≡ Some here → (f : NodeTypes) → lent found ≡ Some f → HasTypes P here f
  types_read None has p here e f is = absurd cc
  types_read (Some found) has p here e f is =
      let l = types_lent P r t reached table found has i s there p here e in
      subst (HasTypes P here) (same_Some l.0 f (sym l.1 ∙ is)) l.2

  -- the program is too large, where no types are lent of a specialization
  pub none_read : (found : Types) → HasFoundTypes P r t found → lent found ≡ None →
      is_small P ≡ false
  none_read None has is = has
  none_read (Some found) has is =
      let n = node_at P r t reached table s (table.specialized i s there).0 in
      let f = has i s n.0 there n.1 in
      absurd (never f.0 (sym f.1 ∙ is))
    where
      never : (f : NodeTypes) → Some f ≡ None → ⊥
      never f e = cc
