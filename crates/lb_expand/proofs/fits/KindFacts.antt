-- The kinds of the parts of an expression, of temporaries and of elements.
use Rattle.lb_expand.proofs.Words
use Words.{◌≡◌, ℕ, suc, ◌+◌, ◌-◌, Bool, true, false, ◌&&◌, ◌||◌, Option, Some, None, option_map}
use Words.{List, [], ◌∷◌, map, length, refl, sym, ap, ap₂, ◌∙◌, subst, list_all, same_Some}
use Words.{UnaryOperator, Not, Negate, BinaryOperator, Kind, Int, Every, all_some, where_true}
use Words.{Declaration, and_first, and_second, Program, Instance, DataType, int, truth, is_kind}
use Words.{is_type, are_types, same_sizes, variable_type, are_ints, are_truths, unary_type}
use Words.{binary_type, common_type, array_of, element_with, element_of, index_type, slice_type}
use Words.{join_type, list_type, truly, ◌<◌, ◌++◌, take, get_or, append-nil, append_assoc}
use Words.{map-append, take_more, FlatEquation, operation_kind, kind_among, kinds_from, equation_of}
use Words.{FlatClock, Always, Operation, Input, Constant, Copy, ApplyUnary, ApplyBinary, Choose}
use Words.{FirstThen, Previous, Latest, Sample, clock_reads, reads, keeps, nat_le, nat_lt, zero}
use Words.{slice_get, arith, length-append, class_of, OperatorClass, Logical, class_on_truths}
use Words.{Clock}
use Rattle.lb_syntax.specs.declared.tree.Kind.TheVariants.{Bool as Truth}
use Rattle.lb_syntax.specs.declared.tree.OperatorClass.TheVariants.{Arithmetic, Equality, Order}
use Rattle.lb_flat.specs.Fitting.{class_on_integers, binary_kind, unary_kind}
use Rattle.lb_flat.{specs.declared.equation.Equation.Equation, proofs.lists.Lists.Every-second}
use Rattle.lb_expand.{specs.EquationKinds.equation_kind, proofs.fits.FitWords.{Sorts, AllSorted}}
use Rattle.lb_expand.proofs.{solutions.Filling.Fresh, widths.TypeFacts.{bound, each, types_first}}
use Rattle.lb_expand.proofs.widths.TypeFacts.{types_missing}

-- The kinds of the parts of an expression, from its types.

-- ## The same kind

pub same_kind : (k l : Kind) → is_kind k l ≡ true → k ≡ l
same_kind k l e = grind arith

pub type_kind : (s t : DataType) → is_type s t ≡ true → s.kind ≡ t.kind
type_kind s t e =
    same_kind s.kind t.kind (and_first (is_kind s.kind t.kind) (same_sizes s.sizes t.sizes) e)

-- ## Operators

pub unary_kinds :
    (op : UnaryOperator) (s r : DataType) → unary_type op s ≡ Some r →
    unary_kind op s.kind ≡ Some r.kind
unary_kinds Not s r e =
    let t = truly (is_type s truth) truth r e in
    ap (unary_kind Not) (type_kind s truth t.holds)
    ∙ ap (λ (u : DataType). Some u.kind) t.same
unary_kinds Negate s r e =
    let t = truly (is_type s int) int r e in
    ap (unary_kind Negate) (type_kind s int t.holds)
    ∙ ap (λ (u : DataType). Some u.kind) t.same

-- an operator on two operands of the type `base`
both_of :
    (base : DataType) (op : BinaryOperator) (s t u r : DataType) →
    binary_kind op base.kind base.kind ≡ Some u.kind →
    where_true (is_type s base && is_type t base) u ≡ Some r →
    binary_kind op s.kind t.kind ≡ Some r.kind
both_of base op s t u r is e =
    let h = truly (is_type s base && is_type t base) u r e in
    ap₂ (binary_kind op) (type_kind s base (and_first (is_type s base) (is_type t base) h.holds))
    (type_kind t base (and_second (is_type s base) (is_type t base) h.holds)) ∙ is ∙ ap
    (λ (v : DataType). Some v.kind) h.same

either :
    (op : BinaryOperator) (s t r : DataType) → binary_kind op Int Int ≡ Some Truth →
    binary_kind op Truth Truth ≡ Some Truth → (a b : Bool) → are_ints s t ≡ a →
    are_truths s t ≡ b → where_true (a || b) truth ≡ Some r →
    binary_kind op s.kind t.kind ≡ Some r.kind
either op s t r i j true b p q e = both_of int op s t truth r i (ap (λ d. where_true d truth) p ∙ e)
either op s t r i j false b p q e =
    both_of truth op s t truth r j (ap (λ d. where_true d truth) q ∙ e)

-- an operator takes operands of the kinds of its types
pub binary_kinds :
    (op : BinaryOperator) (s t r : DataType) → binary_type op s t ≡ Some r →
    binary_kind op s.kind t.kind ≡ Some r.kind
binary_kinds op s t r e = by (class_of op) refl
  where
    by : (c : OperatorClass) → class_of op ≡ c → binary_kind op s.kind t.kind ≡ Some r.kind
    by Arithmetic is = both_of int op s t int r (ap class_on_integers is) (rw is at e)
    by Order is = both_of int op s t truth r (ap class_on_integers is) (rw is at e)
    by Logical is = both_of truth op s t truth r (ap class_on_truths is) (rw is at e)
    by Equality is =
        either op s t r (ap class_on_integers is) (ap class_on_truths is) _ _ refl refl (rw is at e)

-- both operands have the kind of the result
pub record SameKinds (s t r : DataType) : Type 0 where
  pub first : s.kind ≡ r.kind
  pub second : t.kind ≡ r.kind

pub common_kinds : (s t r : DataType) → common_type s t ≡ Some r → SameKinds s t r
common_kinds s t r e =
    let h = truly (is_type s t) t r e in
    let second = ap (λ (u : DataType). u.kind) h.same in
    record { first = type_kind s t h.holds ∙ second; second = second }

-- ## Arrays

pub array_kind : (n : ℕ) (t r : DataType) → array_of n t ≡ Some r → t.kind ≡ r.kind
array_kind n t r e =
    let h = truly (nat_le 1 n && nat_le n 4096) (record { kind = t.kind; sizes = n ∷ t.sizes }) r e
    in
    ap (λ (u : DataType). u.kind) h.same

with_kind : (k : Kind) (ns : List ℕ) (a : ℕ × DataType) → element_with k ns ≡ Some a → k ≡ a.1.kind
with_kind k [] a e = cc
with_kind k (n ∷ ns) a e =
    let same : (n, record { kind = k; sizes = ns }) ≡ a = same_Some _ _ e in
    ap (λ (b : ℕ × DataType). b.1.kind) same

element_kind : (t : DataType) (a : ℕ × DataType) → element_of t ≡ Some a → t.kind ≡ a.1.kind
element_kind t a e = with_kind t.kind t.sizes a e

pub index_kind : (i : ℕ) (t r : DataType) → index_type i t ≡ Some r → t.kind ≡ r.kind
index_kind i t r e =
    let a = bound (element_of t) _ r e in
    let h = truly (nat_lt i a.value.0) a.value.1 r a.gives in
    element_kind t a.value a.is ∙ ap (λ (u : DataType). u.kind) h.same

pub slice_kind : (i j : ℕ) (t r : DataType) → slice_type i j t ≡ Some r → t.kind ≡ r.kind
slice_kind i j t r e =
    let a = bound (element_of t) _ r e in
    let c = bound (where_true (nat_le i j && nat_lt j a.value.0) a.value.1) _ r a.gives in
    let h = truly (nat_le i j && nat_lt j a.value.0) a.value.1 c.value c.is in
    element_kind t a.value a.is ∙ ap (λ (u : DataType). u.kind) h.same
    ∙ array_kind (suc j - i) c.value r c.gives

pub join_kinds : (s t r : DataType) → join_type s t ≡ Some r → SameKinds s t r
join_kinds s t r e =
    let a = bound (element_of s) _ r e in
    let b = bound (element_of t) _ r a.gives in
    let c = bound (common_type a.value.1 b.value.1) _ r b.gives in
    let same = common_kinds a.value.1 b.value.1 c.value c.is in
    let whole = array_kind (a.value.0 + b.value.0) c.value r c.gives in
    record {
      first = element_kind s a.value a.is ∙ same.first ∙ whole;
      second = element_kind t b.value b.is ∙ same.second ∙ whole;
    }

-- every type of a list has the kind `c`
abbrev pub AllOf : Kind → List DataType → Type 0
AllOf c ts = Every (λ (t : DataType). t.kind ≡ c) ts

pub kinds_alike :
    (t : DataType) (ts : List DataType) (c : Kind) → list_all (is_type t) ts ≡ true → t.kind ≡ c →
    AllOf c ts
kinds_alike t [] c e k = tt
kinds_alike t (u ∷ ts) c e k = (
  sym (type_kind t u (and_first (is_type t u) (list_all (is_type t) ts) e)) ∙ k,
  kinds_alike t ts c (and_second (is_type t u) (list_all (is_type t) ts) e) k,
)

pub list_kinds : (ts : List DataType) (r : DataType) → list_type ts ≡ Some r → AllOf r.kind ts
list_kinds [] r e = tt
list_kinds (t ∷ ts) r e =
    let b = bound (where_true (list_all (is_type t) ts) t) _ r e in
    let h = truly (list_all (is_type t) ts) t b.value b.is in
    let own = ap (λ (u : DataType). u.kind) h.same
    ∙ array_kind (suc (length ts)) b.value r b.gives in
    (own, kinds_alike t ts r.kind h.holds own)

-- arguments for arrays of types of one kind are of that kind
pub arrays_alike :
    (n : ℕ) (c : Kind) (ins wanted args : List DataType) → AllOf c ins →
    all_some (map (array_of n) ins) ≡ Some wanted → are_types wanted args ≡ true → AllOf c args
arrays_alike n c [] wanted [] a o same = tt
arrays_alike n c [] wanted (t ∷ args) a o same = types_missing (sym (same_Some _ _ o)) refl same
arrays_alike n c (u ∷ ins) wanted [] a o same = tt
arrays_alike n c (u ∷ ins) wanted (t ∷ args) a o same =
    let h = each (array_of n u) (map (array_of n) ins) wanted o in
    let fit = types_first h.all refl same in (
      sym (array_kind n u h.first h.is ∙ type_kind h.first t fit.0) ∙ a.0,
      arrays_alike n c ins h.rest args a.1 h.others fit.1,
    )

-- ## Variables

-- the type of a variable has the kind that it was declared with
pub variable_kind :
    (P : Program) (here : Instance) (d : Declaration) (t : DataType) →
    variable_type P here d ≡ Some t → t.kind ≡ d.kind
variable_kind P here d t e = by _ e
  where
    by :
        (o : Option (List ℕ)) →
        option_map (λ ns. record { kind = d.kind; sizes = ns }) o ≡ Some t → t.kind ≡ d.kind
    by None e = cc
    by (Some ns) e = ap (λ (s : DataType). s.kind) (sym (same_Some _ _ e))

-- The kinds of temporaries, one equation after another.

-- the kinds that a list of equations gives, with one equation added at its end
from_more :
    (kinds : List Kind) (qs : List FlatEquation) (q : FlatEquation) →
    kinds_from kinds (qs ++ q ∷ [])
    ≡ kinds_from kinds qs
    ++ operation_kind (kind_among (kinds ++ kinds_from kinds qs)) q.operation ∷ []
from_more kinds [] q =
    ap (λ ks. operation_kind (kind_among ks) q.operation ∷ []) (sym (append-nil kinds))
from_more kinds (p ∷ qs) q =
    let new = operation_kind (kind_among kinds) p.operation in
    let later = kinds_from (kinds ++ new ∷ []) qs in
    ap (λ ks. new ∷ ks)
    (from_more (kinds ++ new ∷ []) qs q
    ∙ ap (λ ks. later ++ operation_kind (kind_among ks) q.operation ∷ [])
    (append_assoc kinds (new ∷ []) later))

-- the kinds of the first `i + 1` equations are those of the first `i`, and the kind of the next
kind_added :
    (kinds after more : List Kind) (qs : List Equation) (i : ℕ) (q : Equation)
    (clocks : List Clock) → i < length qs →
    after ≡ kinds ++ kinds_from kinds (map (equation_of clocks) (take i qs)) →
    more ≡ after ++ equation_kind after (get_or qs i q) ∷ [] →
    more ≡ kinds ++ kinds_from kinds (map (equation_of clocks) (take (i + 1) qs))
unfolding equation_kind
kind_added kinds after more qs i q clocks lt known e =
    let done = map (equation_of clocks) (take i qs) in
    let next = equation_of clocks (get_or qs i q) in
    let equations : map (equation_of clocks) (take (i + 1) qs) ≡ done ++ next ∷ [] =
    ap (map (equation_of clocks)) (take_more qs i q lt)
    ∙ map-append (equation_of clocks) (take i qs) (get_or qs i q ∷ []) in
    e
    ∙ ap (λ ks. ks ++ equation_kind ks (get_or qs i q) ∷ []) known
    ∙ append_assoc kinds (kinds_from kinds done)
    (equation_kind (kinds ++ kinds_from kinds done) (get_or qs i q) ∷ [])
    ∙ ap (λ ks. kinds ++ ks)
    (sym (from_more kinds done next) ∙ sym (ap (kinds_from kinds) equations))

-- the kinds of the first `i + 1` equations, where the code pushes the kind of the next
pub kind_next :
    (kinds after more known : List Kind) (qs : List Equation) (i : ℕ) (q d : Equation) (k : Kind)
    (clocks : List Clock) → i < length qs →
    after ≡ kinds ++ kinds_from kinds (map (equation_of clocks) (take i qs)) →
    more ≡ after ++ k ∷ [] → k ≡ equation_kind known q → known ≡ after → q ≡ get_or qs i d →
    more ≡ kinds ++ kinds_from kinds (map (equation_of clocks) (take (i + 1) qs))
kind_next kinds after more known qs i q d k clocks lt h e is same item =
    kind_added kinds after more qs i d clocks lt h
    (e ∙ ap (λ k. after ++ k ∷ []) (is
    ∙ (ap (λ ks. equation_kind ks q) same ∙ ap (λ q. equation_kind after q) item)))

-- Every element has a clock and a kind: an element of a variable from the lists of the variables,
-- and a temporary from its equation.

-- ## Places in longer lists

at_end : {A : Type 0} (d x : A) (xs ys : List A) → get_or (xs ++ (x ∷ ys)) (length xs) d ≡ x
at_end d x [] ys = refl
at_end d x (z ∷ xs) ys = at_end d x xs ys

one_by_one : {A : Type 0} (x : A) (xs ys : List A) → xs ++ (x ∷ ys) ≡ (xs ++ (x ∷ [])) ++ ys
one_by_one x [] ys = refl
one_by_one x (z ∷ xs) ys = ap (λ zs. z ∷ zs) (one_by_one x xs ys)

before_end :
    {A : Type 0} (d : A) (xs ys : List A) (i : ℕ) → i < length xs →
    get_or (xs ++ ys) i d ≡ get_or xs i d
before_end d [] ys i lt = absurd (omega arith)
before_end d (x ∷ xs) ys zero lt = refl
before_end d (x ∷ xs) ys (suc i) lt = before_end d xs ys i (omega arith)

-- an item of the first list is at the same place in both lists joined
pub got_first :
    {A : Type 0} (d x : A) (xs ys : List A) (i : ℕ) → slice_get xs i ≡ Some x →
    get_or (xs ++ ys) i d ≡ x
got_first d x [] ys i e = cc
got_first d x (z ∷ xs) ys zero e = let same : z ≡ x = cc in same
got_first d x (z ∷ xs) ys (suc i) e = got_first d x xs ys i e

-- ## Clocks

clocks_in :
    (all clocks : List FlatClock) (Q : List FlatEquation) →
    all ≡ clocks ++ map (λ q. q.clock) Q → Fresh (length clocks) Q →
    Every (λ q. get_or all q.element Always ≡ q.clock) Q
clocks_in all clocks [] e f = tt
clocks_in all clocks (q ∷ Q) e f = (
  ap (λ i. get_or all i Always) f.0.element
      ∙ ap (λ (ks : List FlatClock). get_or ks (length clocks) Always) e
      ∙ at_end Always q.clock clocks (map (λ q. q.clock) Q),
  clocks_in all (clocks ++ (q.clock ∷ [])) Q
      (e ∙ one_by_one q.clock clocks (map (λ q. q.clock) Q))
      (let longer : suc (length clocks) ≡ length (clocks ++ (q.clock ∷ [])) =
      omega (arith, length-append clocks (q.clock ∷ [])) in
      subst (λ n. Fresh n Q) longer f.1),
)

-- ## Kinds

-- an operation gives the same kind by `f` and by `g` where they agree on the elements that it names
operation_same :
    (n : ℕ) (f g : ℕ → Kind) → ((i : ℕ) → i < n → f i ≡ g i) → (o : Operation) →
    Every (λ i. i < n) (reads o ++ keeps o) → operation_kind f o ≡ operation_kind g o
operation_same n f g same (Input j) h = refl
operation_same n f g same (Constant v) h = refl
operation_same n f g same (Copy a) h = same a h.0
operation_same n f g same (ApplyUnary op a) h = refl
operation_same n f g same (ApplyBinary op a b) h = refl
operation_same n f g same (Choose c a b) h = same a h.1.0
operation_same n f g same (FirstThen started a b) h = same a h.0
operation_same n f g same (Previous v a) h = same a h.0
operation_same n f g same (Latest v a) h = same a h.0
operation_same n f g same (Sample a) h = same a h.0

kinds_in :
    (all kinds : List Kind) (Q : List FlatEquation) → all ≡ kinds ++ kinds_from kinds Q →
    Fresh (length kinds) Q →
    Every (λ q. kind_among all q.element ≡ operation_kind (kind_among all) q.operation) Q
kinds_in all kinds [] e f = tt
kinds_in all kinds (q ∷ Q) e f =
    let new = operation_kind (kind_among kinds) q.operation in
    let later = kinds_from (kinds ++ (new ∷ [])) Q in
    let named = Every-second (λ i. i < length kinds) (clock_reads q.clock)
    (reads q.operation ++ keeps q.operation) f.0.names_below in
    let known : (i : ℕ) → i < length kinds → kind_among kinds i ≡ kind_among all i =
    λ i lt.
    sym (ap (λ (ks : List Kind). kind_among ks i) e ∙ before_end Int kinds (new ∷ later) i lt)
    in (
      ap (kind_among all) f.0.element
          ∙ ap (λ (ks : List Kind). kind_among ks (length kinds)) e
          ∙ at_end Int new kinds later
          ∙ operation_same (length kinds) (kind_among kinds) (kind_among all) known q.operation
          named,
      kinds_in all (kinds ++ (new ∷ [])) Q (e ∙ one_by_one new kinds later)
          (let longer : suc (length kinds) ≡ length (kinds ++ (new ∷ [])) =
          omega (arith, length-append kinds (new ∷ [])) in
          subst (λ n. Fresh n Q) longer f.1),
    )

-- ## Both

-- the clock and kind of every element, from lists for the variables and the equations of the others
abbrev pub sorts_of : List Kind → List FlatClock → List Kind → List FlatEquation → Sorts
sorts_of signature clocks kinds Q = record {
  inputs = signature;
  clock_of = λ i. get_or (clocks ++ map (λ q. q.clock) Q) i Always;
  kind_of = kind_among (kinds ++ kinds_from kinds Q);
}

both :
    (S : Sorts) (Q : List FlatEquation) → Every (λ q. S.clock_of q.element ≡ q.clock) Q →
    Every (λ q. S.kind_of q.element ≡ operation_kind S.kind_of q.operation) Q → AllSorted S Q
both S [] h g = tt
both S (q ∷ Q) h g = (record { clock = h.0; kind = g.0 }, both S Q h.1 g.1)

-- the temporaries have the clocks and the kinds of their equations
pub further_sorted :
    (signature : List Kind) (clocks : List FlatClock) (kinds : List Kind)
    (Q : List FlatEquation) → length clocks ≡ length kinds → Fresh (length kinds) Q →
    AllSorted (sorts_of signature clocks kinds Q) Q
further_sorted signature clocks kinds Q e f =
    both (sorts_of signature clocks kinds Q) Q
    (clocks_in (clocks ++ map (λ q. q.clock) Q) clocks Q refl
    (subst (λ n. Fresh n Q) (sym e) f))
    (kinds_in (kinds ++ kinds_from kinds Q) kinds Q refl f)

-- ## The number of kinds

-- the temporaries have as many kinds as equations
pub length-kinds_from :
    (kinds : List Kind) (Q : List FlatEquation) → length (kinds_from kinds Q) ≡ length Q
length-kinds_from kinds [] = refl
length-kinds_from kinds (q ∷ Q) =
    ap suc
    (length-kinds_from (kinds ++ (operation_kind (kind_among kinds) q.operation ∷ [])) Q)
