-- A statement that keeps the rules of types by what the specializations of a node share keeps them
-- in each specialization.
use Rattle.lb_check.proofs.Words
use Words.{AreSettled, Array', Arrow', AtMostOne', Binary', Bool, Call', CallId, CallSite, Current'}
use Words.{DataType, Declared, Fby', Group', If', Index', IterateNode', IterateSymbol', Join', List}
use Words.{Literal, None, Nor', Option, Pre', Reached, Replicate', ResolvedNode, ResolvedStatement}
use Words.{Row_of-Term, Slice', Some, Specialization, StaticId, Table, Term, Truth, Unary', Value}
use Words.{VariableId, When', [], all_some, and_first, and_second, ap, are_equal, are_types}
use Words.{array_of, binary_type, callee_types, common_type, constant_at, constant_type, count_at}
use Words.{declared_type, drop, either_or, end_of-Term, false, holds, index_type, inl, inr, int}
use Words.{is_int, is_part_shared, is_resolved_statement_typed, is_type, iterator_types, join_type}
use Words.{length, list_all, map, more_of-Term, natural, naturals, only, option_map, refl}
use Words.{repeats_of, results, reverse, row_results, singly, slice_get, slice_get_past, slice_type}
use Words.{subst, suc, sym, symbol_types, take, true, truth, type_of, types_in, unary_type}
use Words.{when_both, when_truth, where_true, zero, zip, ℕ, ℤ, ◌&&◌, ◌==◌, ◌>>=◌, ◌||◌, ◌∙◌, ◌∷◌}
use Words.{◌≡◌, ◌⊎◌}
use Rattle.lb_check.{proofs.lists.ListPairs.Pairs, specs.SharedTypes.{all_paired, is_callee_shared}}
use Rattle.lb_check.specs.{SharedTypes.is_value_shared, TermTypes.{Context, context_of}}
use Rattle.lb_static.specs.declared.resolved.Term.{Variable}
use Rattle.lb_static.specs.declared.table.SpecializationId.{SpecializationId}
use Rattle.std.proofs.lemmas.Bool.{leb-true, Decides.{Decides-eqb, Decides-int_eq}}
use Rattle.std.specs.{Ordering.int_eq, Prelude.is_none}
use Rattle.lb_static.specs.declared.resolved.ResolvedStatement.TheVariants as statement

-- ## Results that are there stay the same

pub record Within {A : Type 0} (o p : Option A) : Type 0 where
  pub at : (x : A) → o ≡ Some x → p ≡ Some x

same : {A : Type 0} (o : Option A) → Within o o
same o = record { at = λ x e. e }

bound : {A B : Type 0} {o p : Option A} {f g : A → Option B} → Within o p →
    ((x : A) → Within (f x) (g x)) → Within (o >>= f) (p >>= g)
bound {o = None} w each = record { at = λ x e. absurd cc }
bound {o = Some a} {g = g} w each =
    record { at = λ x e. ap (λ q. q >>= g) (w.at a refl) ∙ (each a).at x e }

mapped : {A B : Type 0} {o p : Option A} (f : A → B) → Within o p →
    Within (option_map f o) (option_map f p)
mapped {o = None} f w = record { at = λ x e. absurd cc }
mapped {o = Some a} f w = record { at = λ x e. ap (option_map f) (w.at a refl) ∙ e }

one_more : {B : Type 0} (os ps : List (Option B)) (o p : Option B) → Within o p →
    Within (all_some os) (all_some ps) → Within (all_some (o ∷ os)) (all_some (p ∷ ps))
one_more os ps None p w rest = record { at = λ x e. absurd cc }
one_more os ps (Some a) p w rest = record {
  at = λ ys e.
      ap (λ q. all_some (q ∷ ps)) (w.at a refl) ∙ (mapped (λ l. a ∷ l) rest).at ys e;
}

all_there : {A B : Type 0} (f g : A → Option B) (xs : List A) →
    ((x : A) → Within (f x) (g x)) → Within (all_some (map f xs)) (all_some (map g xs))
all_there f g [] each = same (Some [])
all_there f g (x ∷ xs) each =
    one_more (map f xs) (map g xs) (f x) (g x) (each x) (all_there f g xs each)

-- ## Contexts

-- the meaning of each number in `c`, where it has one, is its meaning in `d`
pub record IsBelow (c d : Context) : Type 0 where
  pub variable : (x : VariableId) → Within (c.variable x) (d.variable x)
  pub constant : (i : StaticId) → Within (c.constant i) (d.constant i)
  pub count : (i : StaticId) → Within (c.count i) (d.count i)
  pub call : (f : CallId) → Within (c.call f) (d.call f)
  pub repeats : (f : CallId) → Within (c.repeats f) (d.repeats f)

equal_below : {o p q s : Option (List DataType)} → Within o p → Within q s →
    are_equal o q ≡ true → are_equal p s ≡ true
equal_below {o = None} w v e = absurd cc
equal_below {o = Some ts} {q = None} w v e = absurd cc
equal_below {o = Some ts} {q = Some us} {s = s} w v e =
    ap (λ p. are_equal p s) (w.at ts refl) ∙ ap (are_equal (Some ts)) (v.at us refl) ∙ e

module _ (c d : Context) (below : IsBelow c d) where
  both : (a b : Term) (f : DataType → DataType → Option DataType) →
      Within (type_of c a) (type_of d a) → Within (type_of c b) (type_of d b) →
      Within (when_both (type_of c a) (type_of c b) f) (when_both (type_of d a) (type_of d b) f)
  both a b f wa wb = bound wa (λ t. bound wb (λ u. same (f t u)))

  under : {o p q s : Option DataType} → Within o p → Within q s →
      Within (when_truth o q) (when_truth p s)
  under w v = bound w (λ t. bound (same (where_true (is_type truth t) t)) (λ u. v))

  row_below : (t : Term) (ts : List DataType) → Within (row_results c t ts) (row_results d t ts)
  row_below (Call' f arity all) ts =
      bound (below.call f) (λ o. same (where_true (are_types o.0 ts) o.1))
  row_below (IterateNode' it f arity all) ts =
      bound (below.repeats f) (λ n. bound (below.call f) (λ o.
      same (iterator_types it n o.0 o.1 ts)))
  row_below (IterateSymbol' it op i arity all) ts =
      bound (below.count i) (λ n. same (symbol_types op >>= λ o. iterator_types it n o.0 o.1 ts))
  row_below t ts = same (row_results c t ts)

  row_given : {m : _} (t : Term) (row : Row_of-Term m) → Within (types_in c row) (types_in d row)
      → Within (types_in c row >>= row_results c t) (types_in d row >>= row_results d t)
  row_given t row w = bound w (row_below t)

  one_below : {m : _} (t : Term) (row : Row_of-Term m) → Within (types_in c row) (types_in d row)
      → Within (types_in c row >>= row_results c t >>= only)
      (types_in d row >>= row_results d t >>= only)
  one_below t row w = bound (row_given t row w) (λ ts. same (only ts))

  mutual
    unfolding type_of

    type_below : (t : Term) → Within (type_of c t) (type_of d t)
    type_below (Literal n) = same _
    type_below (Truth b) = same _
    type_below (Variable x) = below.variable x
    type_below (Value i) = below.constant i
    type_below (Group' p e) = type_below e
    type_below (Unary' op p a) = bound (type_below a) (λ t. same (unary_type op t))
    type_below (Binary' op p a q b) = both a b (binary_type op) (type_below a) (type_below b)
    type_below (If' p e q a r b) =
        under (type_below e) (both a b common_type (type_below a) (type_below b))
    type_below (Arrow' p a q b) = both a b common_type (type_below a) (type_below b)
    type_below (Fby' p a q b) = both a b common_type (type_below a) (type_below b)
    type_below (Pre' p e) = type_below e
    type_below (Current' p e) = type_below e
    type_below (When' p e x sign) = under (below.variable x) (type_below e)
    type_below (Replicate' p e n) =
        bound (below.count n) (λ n. bound (type_below e) (λ t. same (array_of n t)))
    type_below (Index' p e i) =
        bound (below.count i) (λ i. bound (type_below e) (λ t. same (index_type i t)))
    type_below (Slice' p e i j) =
        bound (below.count i) (λ i. bound (below.count j) (λ j.
        bound (type_below e) (λ t. same (slice_type i j t))))
    type_below (Join' p a q b) = both a b join_type (type_below a) (type_below b)
    type_below (Array' arity all) = one_below (Array' arity all) all (types_below all)
    type_below (AtMostOne' arity all) = one_below (AtMostOne' arity all) all (types_below all)
    type_below (Nor' arity all) = one_below (Nor' arity all) all (types_below all)
    type_below (Call' f arity all) = one_below (Call' f arity all) all (types_below all)
    type_below (IterateNode' it f arity all) =
        one_below (IterateNode' it f arity all) all (types_below all)
    type_below (IterateSymbol' it op i arity all) =
        one_below (IterateSymbol' it op i arity all) all (types_below all)

    types_below : {m : _} (row : Row_of-Term m) → Within (types_in c row) (types_in d row)
    types_below end_of-Term = same (Some [])
    types_below (more_of-Term e rest) =
        bound (type_below e) (λ t. bound (types_below rest) (λ ts. same (Some (t ∷ ts))))

  one : (t : Term) → Within (singly (type_of c t)) (singly (type_of d t))
  one t = mapped (λ u. u ∷ []) (type_below t)

  results_below : (t : Term) → Within (results c t) (results d t)
  unfolding results
  results_below (Group' p e) = results_below e
  results_below (Array' arity all) = row_given (Array' arity all) all (types_below all)
  results_below (AtMostOne' arity all) = row_given (AtMostOne' arity all) all (types_below all)
  results_below (Nor' arity all) = row_given (Nor' arity all) all (types_below all)
  results_below (Call' f arity all) = row_given (Call' f arity all) all (types_below all)
  results_below (IterateNode' it f arity all) =
      row_given (IterateNode' it f arity all) all (types_below all)
  results_below (IterateSymbol' it op i arity all) =
      row_given (IterateSymbol' it op i arity all) all (types_below all)
  results_below t = one t

  -- a statement that keeps the rules of types in `c` keeps them in `d`
  pub statement_below : (st : ResolvedStatement) → is_resolved_statement_typed c st ≡ true →
      is_resolved_statement_typed d st ≡ true
  statement_below (statement.Equation lefts e) h =
      equal_below (results_below e) (all_there c.variable d.variable lefts.items below.variable) h
  statement_below (statement.Assertion e) h =
      equal_below (results_below e) (same (Some (truth ∷ []))) h

-- ## The shared part

-- two options of which neither is there, or both are, with values in relation `R`
abbrev Alike : {A B : Type 0} → (A → B → Type 0) → Option A → Option B → Type 0
Alike R None None = Unit {0}
Alike R None (Some y) = ⊥
Alike R (Some x) None = ⊥
Alike R (Some x) (Some y) = R x y

-- a function takes related items to options of which the second has what the first has
alike_within : {A B : Type 0} (R : A → A → Type 0) (f : A → Option B) →
    ((x y : A) → R x y → Within (f x) (f y)) → (o p : Option A) → Alike R o p →
    Within (o >>= f) (p >>= f)
alike_within R f each None None a = same None
alike_within R f each (Some x) (Some y) a = each x y a
alike_within R f each _ _ a = absurd a

module _ {A B : Type 0} (f : A → B → Bool) where
  abbrev Pass : A → B → Type 0
  Pass x y = f x y ≡ true

  each : (xs : List A) (ys : List B) → list_all (λ (p : A × B). f p.0 p.1) (zip xs ys) ≡ true →
      length xs ≡ length ys → Pairs Pass xs ys
  each [] [] e l = tt
  each (x ∷ xs) (y ∷ ys) e l =
      let rest : length xs ≡ length ys = cc in
      (and_first (f x y) _ e, each xs ys (and_second (f x y) _ e) rest)
  each _ _ e l = absurd cc

  paired : (xs : List A) (ys : List B) → all_paired f xs ys ≡ true → Pairs Pass xs ys
  paired xs ys e =
      let test = list_all (λ (p : A × B). f p.0 p.1) (zip xs ys) in
      each xs ys (and_first test _ e)
      ((Decides-eqb (length xs) (length ys)).0 (and_second test _ e))

module _ {A B : Type 0} (R : A → B → Type 0) where
  taken : (n : ℕ) (xs : List A) (ys : List B) → Pairs R xs ys → Pairs R (take n xs) (take n ys)
  taken zero xs ys p = tt
  taken (suc n) [] [] p = tt
  taken (suc n) [] (y ∷ ys) p = absurd p
  taken (suc n) (x ∷ xs) [] p = absurd p
  taken (suc n) (x ∷ xs) (y ∷ ys) p = (p.0, taken n xs ys p.1)

  dropped : (n : ℕ) (xs : List A) (ys : List B) → Pairs R xs ys → Pairs R (drop n xs) (drop n ys)
  dropped zero xs ys p = p
  dropped (suc n) [] [] p = tt
  dropped (suc n) (x ∷ xs) (y ∷ ys) p = dropped n xs ys p.1
  dropped _ _ _ p = absurd p

  pub placed : (k : ℕ) (xs : List A) (ys : List B) → Pairs R xs ys →
      Alike R (slice_get xs k) (slice_get ys k)
  placed k [] [] p = tt
  placed zero (x ∷ xs) (y ∷ ys) p = p.0
  placed (suc k) (x ∷ xs) (y ∷ ys) p = placed k xs ys p.1
  placed k _ _ p = absurd p

either : (a b : Bool) → (a || b) ≡ true → (a ≡ true) ⊎ (b ≡ true)
either true b e = inl refl
either false b e = inr e

-- two values are the same, or both are of `int` and the shared one is no size
value_cases : (s v : ℤ) → is_value_shared s v ≡ true →
    (s ≡ v) ⊎ ((is_none (natural s) ≡ true) × (is_int s ≡ true) × (is_int v ≡ true))
value_cases s v e =
    elim (either (int_eq s v) _ e) [
      | inl same ↦ inl ((Decides-int_eq s v).0 same)
      | inr other ↦
          let ints = and_second (is_none (natural s)) _ other in
          inr (and_first _ _ other, and_first _ (is_int v) ints, and_second (is_int s) _ ints)
    ]

no_size : (o p : Option ℕ) → is_none o ≡ true → Within o p
no_size None p e = record { at = λ x e. absurd cc }
no_size (Some n) p e = absurd cc

size_below : (s v : ℤ) → is_value_shared s v ≡ true → Within (natural s) (natural v)
size_below s v e =
    elim (value_cases s v e) [
      | inl equal ↦ subst (λ z. Within (natural s) (natural z)) equal (same _)
      | inr other ↦ no_size (natural s) (natural v) other.0
    ]

type_shared : (s v : ℤ) → is_value_shared s v ≡ true →
    Within (constant_type (Some s)) (constant_type (Some v))
type_shared s v e =
    elim (value_cases s v e) [
      | inl equal ↦
          subst (λ z. Within (constant_type (Some s)) (constant_type (Some z))) equal (same _)
      | inr other ↦ record {
        at = λ x e.
            ap (λ b. where_true b int) other.2 ∙ sym (ap (λ b. where_true b int) other.1) ∙ e;
      }
    ]

-- the values of two specializations of a node
module _ (xs ys : List ℤ) (pairs : Pairs (λ s v. is_value_shared s v ≡ true) xs ys) where
  abbrev Shared : ℤ → ℤ → Type 0
  Shared s v = is_value_shared s v ≡ true

  sizes : (vs ws : List ℤ) → Pairs Shared vs ws → Within (naturals vs) (naturals ws)
  sizes [] [] p = same _
  sizes (x ∷ vs) (y ∷ ws) p =
      one_more (map natural vs) (map natural ws) (natural x) (natural y) (size_below x y p.0)
      (sizes vs ws p.1)
  sizes _ _ p = absurd p

  type_at : (v : Declared) → Within (declared_type xs v) (declared_type ys v)
  type_at v =
      let k = v.first_size.0 in
      mapped (λ ns. record { kind = v.kind; sizes = reverse ns })
      (sizes (take v.sizes (drop k xs)) (take v.sizes (drop k ys))
      (taken Shared v.sizes (drop k xs) (drop k ys) (dropped Shared k xs ys pairs)))

  constant_of : (o p : Option ℤ) → Alike Shared o p → Within (constant_type o) (constant_type p)
  constant_of None None a = same _
  constant_of (Some x) (Some y) a = type_shared x y a
  constant_of _ _ a = absurd a

  constant_below : (i : StaticId) → Within (constant_at xs i) (constant_at ys i)
  constant_below i = constant_of _ _ (placed Shared i.0 xs ys pairs)

  count_below : (i : StaticId) → Within (count_at xs i) (count_at ys i)
  count_below i = alike_within Shared natural size_below _ _ (placed Shared i.0 xs ys pairs)

  repeats_below : (site : CallSite) → Within (repeats_of xs site) (repeats_of ys site)
  repeats_below site = by site.count
    where
      by : (o : Option StaticId) → Within (either_or (option_map (count_at xs) o) (Some 0))
          (either_or (option_map (count_at ys) o) (Some 0))
      by None = same _
      by (Some i) = count_below i

module _ (t : Table) (xs ys : List SpecializationId)
    (pairs : Pairs (λ a b. is_callee_shared t a b ≡ true) xs ys) where
  abbrev IsShared : SpecializationId → SpecializationId → Type 0
  IsShared a b = is_callee_shared t a b ≡ true

  abbrev found : SpecializationId → Option Specialization
  found id = slice_get t.specializations.items id.0

  callee_below : (a b : SpecializationId) → is_callee_shared t a b ≡ true →
      Within (found a) (found b)
  callee_below a b e =
      elim (either (a.0 == b.0) _ e) [
        | inl equal ↦
            subst (λ k. Within (found a) (slice_get t.specializations.items k))
            ((Decides-eqb a.0 b.0).0 equal) (same _)
        | inr past ↦
            let none = slice_get_past t.specializations.items a.0
            (leb-true (length t.specializations.items) a.0 past) in
            record { at = λ x e. let no : None ≡ Some x = sym none ∙ e in absurd cc }
      ]

  called_below : (k : ℕ) → Within (slice_get xs k >>= found) (slice_get ys k >>= found)
  called_below k = alike_within IsShared found callee_below _ _ (placed IsShared k xs ys pairs)

module _ (r : Reached) (t : Table) (n : ResolvedNode) (p s : Specialization)
    (shared : is_part_shared t p s ≡ true) where
  lists : (all_paired is_value_shared p.statics.items s.statics.items
      && all_paired (is_callee_shared t) p.callees.items s.callees.items) ≡ true
  lists = and_second (p.node.0 == s.node.0) _ shared

  pub same_node : p.node.0 ≡ s.node.0
  same_node = (Decides-eqb p.node.0 s.node.0).0 (and_first (p.node.0 == s.node.0) _ shared)

  below : IsBelow (context_of r t n p) (context_of r t n s)
  unfolding context_of
  below =
      let values = all_paired is_value_shared p.statics.items s.statics.items in
      let statics = paired is_value_shared p.statics.items s.statics.items
      (and_first values _ lists) in
      let callees = paired (is_callee_shared t) p.callees.items s.callees.items
      (and_second values _ lists) in
      record {
        variable = λ x. bound (same (slice_get n.variables.items x.0))
            (type_at p.statics.items s.statics.items statics);
        constant = constant_below p.statics.items s.statics.items statics;
        count = count_below p.statics.items s.statics.items statics;
        call = λ f. bound (called_below t p.callees.items s.callees.items callees f.0)
            (λ callee. same (callee_types r callee));
        repeats = λ f. bound (same (slice_get n.calls.items f.0))
            (repeats_below p.statics.items s.statics.items statics);
      }

  -- a statement that is settled by the shared part keeps the rules in each specialization
  pub still_settled : (settled : List Bool) (body : List ResolvedStatement) →
      AreSettled (context_of r t n p) settled body → AreSettled (context_of r t n s) settled body
  still_settled settled body each k st b at =
      statement_below (context_of r t n p) (context_of r t n s) below st (each k st b at)

-- a place with a flag that is set
pub is_there : (o : Option Bool) → holds (λ b. b) o ≡ true → o ≡ Some true
is_there None e = absurd cc
is_there (Some b) e = ap Some e
