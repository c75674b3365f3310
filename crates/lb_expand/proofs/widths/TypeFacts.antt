-- The types of the parts of an expression, and the widths of lists and outputs.
use Rattle.lb_expand.proofs.Words
use Words.{ArrayIterator, BinaryOperator, Bool, DataType, Declaration, Every, Fill, IfSome}
use Words.{Instance, Kind, List, Map, Name, Negate, None, Not, Option, Program, Red, Some, Stream}
use Words.{UnaryOperator, [], all_some, and_first, and_second, ap, ap₂, are_ints, are_same}
use Words.{are_truths, are_types, arith, array_of, choice, choices, common_type, cond}
use Words.{constant_type, copies, drop, either_or, element_count, element_of, element_with}
use Words.{eqb-true, false, find, flat_map, gathered, heads_same, holds, if◌then◌else◌, index_type}
use Words.{inl, inr, int, is_arithmetic, is_kind, is_logical, is_type, iterator_types, join_type}
use Words.{last_of, leb-true, length, length-append, length-both, length-drop, length-take-le}
use Words.{ltb-true, map, mul-le-mul_right, nat_eq, nat_le, nat_lt, option_map, product}
use Words.{range_with_len, red_types, refl, same_Some, same_sizes, singly, slice_type, subst, suc}
use Words.{sym, symbol_types, take, true, truly, truth, unary_type, variable_type, where_true}
use Words.{width, zero, ℕ, ℤ, ◌&&◌, ◌*◌, ◌+◌, ◌-◌, ◌<◌, ◌||◌, ◌∙◌, ◌∷◌, ◌≡◌, ◌≤◌, ◌⊎◌}
use Rattle.{lb_check.specs.Types.fill_types, lb_expand.proofs.numbering.ReceivedInputs.AreFed}
use Rattle.{lb_static.specs.Arithmetic.is_int as is_in_range, std.proofs.Common.add-mul}
pub use Rattle.lb_check.proofs.typing.OperandTypes.{Bound, One, Single, Truths, Two, alone, bound}
pub use Rattle.lb_check.proofs.typing.OperandTypes.{from_true, one, single, two}

-- The types of the parts of an expression, from its own types, and their scalar elements.

-- the number of scalar elements of a list of types
abbrev pub elements_in : List DataType → ℕ
elements_in [] = 0
elements_in (t ∷ ts) = element_count t + elements_in ts

-- ## Tests

-- a number has the type `int`, and is in its range
pub record Constant (o : Option ℤ) (ts : List DataType) : Type 0 where
  pub within : holds is_in_range o ≡ true
  pub all : ts ≡ int ∷ []

pub constant :
    (o : Option ℤ) (ts : List DataType) → singly (constant_type o) ≡ Some ts → Constant o ts
constant o ts e =
    let a = alone (constant_type o) ts e in
    let t = truly (holds is_in_range o) int a.data_type a.is in
    record { within = t.holds; all = a.all ∙ ap (λ u. u ∷ []) (sym t.same) }

-- an iterated symbol takes two numbers and gives a number, or takes two truths and gives a truth
pub record Symbolic (op : BinaryOperator) (types : List DataType × List DataType) : Type 0 where
  pub data_type : DataType
  pub are : types ≡ (data_type ∷ (data_type ∷ []), data_type ∷ [])
  pub of : ((is_arithmetic op ≡ true) × (data_type ≡ int))
      ⊎ ((is_logical op ≡ true) × (data_type ≡ truth))

pub symbolic :
    (op : BinaryOperator) (types : List DataType × List DataType) →
    symbol_types op ≡ Some types → Symbolic op types
symbolic op types e = by (is_arithmetic op) (is_logical op) refl refl e
  where
    by : (a b : Bool) → is_arithmetic op ≡ a → is_logical op ≡ b →
        (if a then Some (int ∷ (int ∷ []), int ∷ [])
        else where_true b (truth ∷ (truth ∷ []), truth ∷ []))
        ≡ Some types → Symbolic op types
    by true b p q e =
        record { data_type = int; are = sym (same_Some _ _ e); of = inl (p, refl) }
    by false b p q e =
        let t = truly b _ types e in
        record { data_type = truth; are = sym t.same; of = inr (q ∙ t.holds, refl) }

-- ## Scalars

no_sizes : (ns : List ℕ) → same_sizes ns [] ≡ true → product ns ≡ 1
no_sizes [] e = refl
no_sizes (n ∷ ns) e = cc

none_sizes : (ns : List ℕ) → same_sizes [] ns ≡ true → product ns ≡ 1
none_sizes [] e = refl
none_sizes (n ∷ ns) e = cc

is_int : (s : DataType) → is_type s int ≡ true → element_count s ≡ 1
is_int s e = no_sizes s.sizes (and_second (is_kind s.kind (int).kind) (same_sizes s.sizes []) e)

is_truth : (s : DataType) → is_type s truth ≡ true → element_count s ≡ 1
is_truth s e = no_sizes s.sizes (and_second (is_kind s.kind (truth).kind) (same_sizes s.sizes []) e)

pub truth_is : (s : DataType) → is_type truth s ≡ true → element_count s ≡ 1
truth_is s e =
    none_sizes s.sizes (and_second (is_kind (truth).kind s.kind) (same_sizes [] s.sizes) e)

pub unary_count :
    (op : UnaryOperator) (s r : DataType) → unary_type op s ≡ Some r →
    element_count s ≡ element_count r
unary_count Not s r e =
    let t = truly (is_type s truth) truth r e in is_truth s t.holds ∙ ap element_count t.same
unary_count Negate s r e =
    let t = truly (is_type s int) int r e in is_int s t.holds ∙ ap element_count t.same

pub record Scalars (s t r : DataType) : Type 0 where
  pub first : element_count s ≡ 1
  pub second : element_count t ≡ 1
  pub result : element_count r ≡ 1

-- two operands of the type `base`, each with one scalar element, and a result with one
scalars :
    (base s t u r : DataType) →
    ((v : DataType) → is_type v base ≡ true → element_count v ≡ 1) → element_count u ≡ 1 →
    where_true (is_type s base && is_type t base) u ≡ Some r → Scalars s t r
scalars base s t u r single one e =
    let h = truly (is_type s base && is_type t base) u r e in
    record {
      first = single s (and_first _ (is_type t base) h.holds);
      second = single t (and_second (is_type s base) _ h.holds);
      result = ap element_count (sym h.same) ∙ one;
    }

same_scalars :
    (s t r : DataType) (b c : Bool) → are_ints s t ≡ b → are_truths s t ≡ c →
    where_true (b || c) truth ≡ Some r → Scalars s t r
same_scalars s t r true c p q e =
    scalars int s t truth r is_int refl (ap (λ d. where_true d truth) p ∙ e)
same_scalars s t r false c p q e =
    scalars truth s t truth r is_truth refl (ap (λ d. where_true d truth) q ∙ e)

pub binary_by :
    (s t r : DataType) (a b c : Bool) →
    (if a then where_true (are_ints s t) int else
    if b then where_true (are_truths s t) truth else
    if c then where_true (are_ints s t || are_truths s t) truth else
    where_true (are_ints s t) truth) ≡ Some r → Scalars s t r
binary_by s t r true b c e = scalars int s t int r is_int refl e
binary_by s t r false true c e = scalars truth s t truth r is_truth refl e
binary_by s t r false false true e = same_scalars s t r _ _ refl refl e
binary_by s t r false false false e = scalars int s t truth r is_int refl e

-- ## Types that are the same

sizes_same : (ns ms : List ℕ) → same_sizes ns ms ≡ true → product ns ≡ product ms
sizes_same [] [] e = refl
sizes_same (n ∷ ns) (m ∷ ms) e =
    ap₂ (λ a b. a * b) (eqb-true n m (and_first (nat_eq n m) (same_sizes ns ms) e))
    (sizes_same ns ms (and_second (nat_eq n m) (same_sizes ns ms) e))
sizes_same _ _ e = cc

pub same_count : (s t : DataType) → is_type s t ≡ true → element_count s ≡ element_count t
same_count s t e =
    sizes_same s.sizes t.sizes (and_second (is_kind s.kind t.kind) (same_sizes s.sizes t.sizes) e)

pub record Alike (s t r : DataType) : Type 0 where
  pub first : element_count s ≡ element_count r
  pub second : element_count t ≡ element_count r

pub alike : (s t r : DataType) → common_type s t ≡ Some r → Alike s t r
alike s t r e =
    let h = truly (is_type s t) t r e in
    record {
      first = same_count s t h.holds ∙ ap element_count h.same;
      second = ap element_count h.same;
    }

pub are_counts :
    (ss ts : List DataType) → are_types ss ts ≡ true →
    map element_count ss ≡ map element_count ts
are_counts [] [] e = refl
are_counts (s ∷ ss) (t ∷ ts) e =
    ap₂ (λ n ns. n ∷ ns) (same_count s t (and_first (is_type s t) (are_types ss ts) e))
    (are_counts ss ts (and_second (is_type s t) (are_types ss ts) e))
are_counts _ _ e = cc

-- two lists of the same types have the same first types, and the same types behind them
pub types_first :
    {ss ts us vs : List DataType} {s t : DataType} → ss ≡ s ∷ us → ts ≡ t ∷ vs →
    are_types ss ts ≡ true → (is_type s t ≡ true) × (are_types us vs ≡ true)
types_first p q e =
    let all = ap₂ are_types (sym p) (sym q) ∙ e in (and_first _ _ all, and_second _ _ all)

-- lists of types of which one alone is empty are not the same
pub types_missing :
    {A : Type 0} {ss ts us : List DataType} {t : DataType} → ss ≡ [] → ts ≡ t ∷ us →
    are_types ss ts ≡ true → A
types_missing p q e = let never = ap₂ are_types (sym p) (sym q) ∙ e in absurd cc

-- and so it is where the second list is the empty one
pub types_left :
    {A : Type 0} {ss ts us : List DataType} {s : DataType} → ss ≡ s ∷ us → ts ≡ [] →
    are_types ss ts ≡ true → A
types_left p q e = let never = ap₂ are_types (sym p) (sym q) ∙ e in absurd cc

-- the types of the right and of the left side exist and agree
pub record BothThere (o p : Option (List DataType)) : Type 0 where
  pub right : List DataType
  pub left : List DataType
  pub is_right : o ≡ Some right
  pub is_left : p ≡ Some left
  pub same : are_types right left ≡ true

pub both_there :
    (P : Program) (o p : Option (List DataType)) → are_same P o p ≡ true → BothThere o p
both_there P None p e = cc
both_there P (Some ts) None e = cc
both_there P (Some ts) (Some us) e =
    record { right = ts; left = us; is_right = refl; is_left = refl; same = e }

-- ## Arrays

pub array_count :
    (n : ℕ) (t r : DataType) → array_of n t ≡ Some r → element_count r ≡ n * element_count t
array_count n t r e =
    let h = truly (nat_le 1 n && nat_le n 4096) (record { kind = t.kind; sizes = n ∷ t.sizes }) r e
    in
    ap element_count (sym h.same)

-- the sizes of an array are its length and the sizes of its elements
parts_with :
    (k : Kind) (ns : List ℕ) (a : ℕ × DataType) → element_with k ns ≡ Some a →
    ns ≡ a.0 ∷ a.1.sizes
parts_with k [] a e = cc
parts_with k (n ∷ ns) a e =
    let same : (n, record { kind = k; sizes = ns }) ≡ a = same_Some _ _ e in
    ap (λ (b : ℕ × DataType). b.0 ∷ b.1.sizes) same

pub element_is :
    (t : DataType) (a : ℕ × DataType) → element_of t ≡ Some a → t.sizes ≡ a.0 ∷ a.1.sizes
element_is t a e = parts_with t.kind t.sizes a e

pub record Indexed (i : ℕ) (t r : DataType) : Type 0 where
  pub count : ℕ
  pub sizes : t.sizes ≡ count ∷ r.sizes
  pub within : i < count

pub indexed : (i : ℕ) (t r : DataType) → index_type i t ≡ Some r → Indexed i t r
indexed i t r e =
    let a = bound (element_of t) _ r e in
    let h = truly (nat_lt i a.value.0) a.value.1 r a.gives in
    record {
      count = a.value.0;
      sizes = element_is t a.value a.is ∙ ap (λ (s : DataType). a.value.0 ∷ s.sizes) h.same;
      within = ltb-true i a.value.0 h.holds;
    }

pub record Sliced (i j : ℕ) (t r : DataType) : Type 0 where
  pub count : ℕ
  pub element : DataType
  pub sizes : t.sizes ≡ count ∷ element.sizes
  pub ordered : i ≤ j
  pub within : j < count
  pub result : element_count r ≡ (suc j - i) * element_count element

pub sliced : (i j : ℕ) (t r : DataType) → slice_type i j t ≡ Some r → Sliced i j t r
sliced i j t r e =
    let a = bound (element_of t) _ r e in
    let c = bound (where_true (nat_le i j && nat_lt j a.value.0) a.value.1) _ r a.gives in
    let h = truly (nat_le i j && nat_lt j a.value.0) a.value.1 c.value c.is in
    record {
      count = a.value.0;
      element = c.value;
      sizes = element_is t a.value a.is ∙ ap (λ (s : DataType). a.value.0 ∷ s.sizes) h.same;
      ordered = leb-true i j (and_first (nat_le i j) (nat_lt j a.value.0) h.holds);
      within = ltb-true j a.value.0 (and_second (nat_le i j) (nat_lt j a.value.0) h.holds);
      result = array_count (suc j - i) c.value r c.gives;
    }

pub joined_count :
    (s t r : DataType) → join_type s t ≡ Some r →
    element_count s + element_count t ≡ element_count r
joined_count s t r e =
    let a = bound (element_of s) _ r e in
    let b = bound (element_of t) _ r a.gives in
    let c = bound (common_type a.value.1 b.value.1) _ r b.gives in
    let same = alike a.value.1 b.value.1 c.value c.is in
    ap₂ (λ m n. m + n)
    (ap product (element_is s a.value a.is) ∙ ap (λ n. a.value.0 * n) same.first)
    (ap product (element_is t b.value b.is) ∙ ap (λ n. b.value.0 * n) same.second)
    ∙ sym (add-mul a.value.0 b.value.0 (element_count c.value))
    ∙ sym (array_count (a.value.0 + b.value.0) c.value r c.gives)

-- The types of the results of an iterated node, where it is `red` or `fill`.

-- `red` gives one result, of the type of the one output
pub record Reduced (outs ts : List DataType) : Type 0 where
  pub out : DataType
  pub outs_is : outs ≡ out ∷ []
  pub ts_is : ts ≡ out ∷ []

pub red_of :
    (n : ℕ) (ins outs args ts : List DataType) → red_types n ins outs args ≡ Some ts →
    Reduced outs ts
red_of n (a ∷ ins) (o ∷ []) (i ∷ args) ts e =
    let h = truly _ (o ∷ []) ts (bound (all_some (map (array_of n) ins)) _ ts e).gives in
    record { out = o; outs_is = refl; ts_is = sym h.same }
red_of n _ _ _ ts e = cc

-- `fill` gives a result of the type of the first output, and arrays of the other outputs
pub record Filled (n : ℕ) (outs ts : List DataType) : Type 0 where
  pub out : DataType
  pub others : List DataType
  pub arrays : List DataType
  pub outs_is : outs ≡ out ∷ others
  pub ts_is : ts ≡ out ∷ arrays
  pub gives : all_some (map (array_of n) others) ≡ Some arrays

pub fill_of :
    (n : ℕ) (ins outs args ts : List DataType) → fill_types n ins outs args ≡ Some ts →
    Filled n outs ts
fill_of n (a ∷ []) (o ∷ (p ∷ outs)) (i ∷ []) ts e =
    let w = bound (all_some (map (array_of n) (p ∷ outs))) _ ts e in
    record {
      out = o;
      others = p ∷ outs;
      arrays = w.value;
      outs_is = refl;
      ts_is = sym (truly _ (o ∷ w.value) ts w.gives).same;
      gives = w.is;
    }
fill_of n _ _ _ ts e = cc

-- Widths of lists, and of the outputs of the instances of a call.

-- ## Lists

pub length-copies : {A : Type 0} (n : ℕ) (xs : List A) → length (copies n xs) ≡ n * length xs
length-copies zero xs = omega arith
length-copies (suc n) xs = omega (arith, length-append xs (copies n xs), length-copies n xs)

pub length-choices :
    (cs xss yss : List Stream) (n : ℕ) → length cs ≡ 1 → length xss ≡ n → length yss ≡ n →
    length (choices cs xss yss) ≡ n
length-choices (z ∷ []) xss yss n c p q = length-both (choice z) n xss yss p q
length-choices _ xss yss n c p q = absurd (omega arith)

-- a part of `n` items, from a list of `m` items of `q` elements each, has `q * n` elements
pub length-part :
    {A : Type 0} (q i n m : ℕ) (xs : List A) → length xs ≡ m * q → i + n ≤ m →
    length (take (q * n) (drop (q * i) xs)) ≡ q * n
length-part q i n m xs e le =
    let bound = mul-le-mul_right q le in
    length-take-le (q * n) (drop (q * i) xs) (omega (arith, length-drop (q * i) xs, e, bound))

pub length-index :
    (q i m : ℕ) (xs : List Stream) → length xs ≡ m * q → i < m →
    length (take q (drop (q * i) xs)) ≡ q
length-index q i m xs e lt =
    let one : q * 1 ≡ q = omega arith in
    sym (ap (λ p. length (take p (drop (q * i) xs))) one)
    ∙ length-part q i 1 m xs e (omega arith) ∙ one

-- where `P` holds of `x` and of what `o` holds, it holds of the choice between both
chosen_one :
    {A : Type 0} (P : A → Type 0) (b : Bool) (x : A) (o : Option A) → P x → IfSome o P →
    IfSome (cond b (Some x) o) P
chosen_one P true x o h g = h
chosen_one P false x o h g = g

pub found_in :
    {A : Type 0} (P : A → Type 0) (test : A → Bool) (xs : List A) → Every P xs →
    IfSome (find test xs) P
found_in P test [] h = tt
found_in P test (x ∷ xs) h = chosen_one P (test x) x (find test xs) h.0 (found_in P test xs h.1)

-- `n` joined pieces of `w` items each have `n * w` items
pub length-range :
    {A : Type 0} (f : ℕ → List A) (w a n : ℕ) → ((i : ℕ) → i < n → length (f (a + i)) ≡ w) →
    length (flat_map f (range_with_len a n)) ≡ n * w
length-range f w a zero h = omega arith
length-range f w a (suc n) h =
    let here : length (f a) ≡ w = let e : a + 0 ≡ a = omega arith in
    subst (λ i. length (f i) ≡ w) e (h 0 (omega arith)) in
    let rest = length-range f w (a + 1) n (λ i lt.
    let e : a + suc i ≡ (a + 1) + i = omega arith in
    subst (λ j. length (f j) ≡ w) e (h (suc i) (omega arith))) in
    omega (arith, length-append (f a) (flat_map f (range_with_len (a + 1) n)), here, rest)

-- ## Lists of types

pub record Each {A : Type 0} (o : Option A) (os : List (Option A)) (ys : List A) : Type 0 where
  pub first : A
  pub rest : List A
  pub is : o ≡ Some first
  pub others : all_some os ≡ Some rest
  pub all : ys ≡ first ∷ rest

pub each :
    {A : Type 0} (o : Option A) (os : List (Option A)) (ys : List A) →
    all_some (o ∷ os) ≡ Some ys → Each o os ys
each None os ys e = cc
each (Some x) os ys e = from (all_some os) refl e
  where
    from :
        (r : Option _) → all_some os ≡ r → option_map (λ xs. x ∷ xs) r ≡ Some ys →
        Each (Some x) os ys
    from None q g = cc
    from (Some xs) q g =
        record { first = x; rest = xs; is = refl; others = q; all = sym (same_Some _ _ g) }

-- ## What the types of an iterator say

-- arrays of length `m` of the types `us` are `m` times as wide as these, type by type
arrays_wide :
    (m : ℕ) (us ts : List DataType) → all_some (map (array_of m) us) ≡ Some ts →
    map element_count ts ≡ map (λ w. m * w) (map element_count us)
arrays_wide m [] ts e = ap (map element_count) (sym (same_Some _ _ e))
arrays_wide m (u ∷ us) ts e =
    let h = each (array_of m u) (map (array_of m) us) ts e in
    ap (map element_count) h.all
    ∙ ap₂ (λ n ns. n ∷ ns) (array_count m u h.first h.is) (arrays_wide m us h.rest h.others)

-- the operands of an iterator are as wide as its inputs, instance by instance
pub fed_by_types :
    (it : ArrayIterator) (m : ℕ) (ins outs args ts : List DataType) →
    iterator_types it m ins outs args ≡ Some ts →
    AreFed it m (map element_count ins) (map element_count args)
fed_by_types Map m ins outs args ts e =
    let wanted = bound (all_some (map (array_of m) ins)) _ ts e in
    let b = bound (where_true (are_types wanted.value args) outs) _ ts wanted.gives in
    let t = truly (are_types wanted.value args) outs b.value b.is in
    sym (are_counts wanted.value args t.holds) ∙ arrays_wide m ins wanted.value wanted.is
fed_by_types Red m (a ∷ ins) (u ∷ []) (t ∷ args) ts e =
    let wanted = bound (all_some (map (array_of m) ins)) _ ts e in
    let arrays = are_types wanted.value args in
    let fit = truly (is_type a u && (is_type a t && arrays)) (u ∷ []) ts wanted.gives in
    let inner = and_second (is_type a u) (is_type a t && arrays) fit.holds in (
      sym (same_count a t (and_first (is_type a t) arrays inner)),
      sym (are_counts wanted.value args (and_second (is_type a t) arrays inner))
          ∙ arrays_wide m ins wanted.value wanted.is,
    )
fed_by_types Fill m (a ∷ []) (u ∷ (v ∷ us)) (t ∷ []) ts e =
    let arrays = bound (all_some (map (array_of m) (v ∷ us))) _ ts e in
    let fit = truly (is_type a u && is_type a t) (u ∷ arrays.value) ts arrays.gives in
    sym (same_count a t (and_second (is_type a u) (is_type a t) fit.holds))
fed_by_types _ m _ _ _ ts e = cc

-- arrays of length `n` of the types `us` have `n` times as many elements as `us`
pub arrays_count :
    (n : ℕ) (us ts : List DataType) → all_some (map (array_of n) us) ≡ Some ts →
    elements_in ts ≡ n * elements_in us
arrays_count n [] ts e = ap elements_in (sym (same_Some _ _ e)) ∙ omega arith
arrays_count n (u ∷ us) ts e =
    let h = each (array_of n u) (map (array_of n) us) ts e in
    ap elements_in h.all
    ∙ omega (arith, array_count n u h.first h.is, arrays_count n us h.rest h.others)

-- ## The outputs of an instance that is called

module _ (P : Program) (c : Instance) where
  abbrev pub AreOutputs : (Declaration → List Stream) → List Declaration → Type 0
  AreOutputs f ds = Every (λ d. length (f d) ≡ width P c d) ds

  pub width_of :
      (d : Declaration) (t : DataType) → variable_type P c d ≡ Some t →
      width P c d ≡ element_count t
  width_of d t e = ap (λ o. either_or (option_map element_count o) 0) e

  pub outputs_wide :
      (f : Declaration → List Stream) (ds : List Declaration) (ts : List DataType) →
      AreOutputs f ds → all_some (map (variable_type P c) ds) ≡ Some ts →
      length (flat_map f ds) ≡ elements_in ts
  outputs_wide f [] ts w e = ap elements_in (same_Some _ _ e)
  outputs_wide f (d ∷ ds) ts w e =
      let h = each (variable_type P c d) (map (variable_type P c) ds) ts e in
      let first = w.0 ∙ width_of d h.first h.is in
      let rest = outputs_wide f ds h.rest w.1 h.others in
      omega (arith, length-append (f d) (flat_map f ds), first, rest)
      ∙ sym (ap elements_in h.all)

  module _ (outputs : ℕ → Name → List Stream) (n : ℕ) where
    abbrev pub AllOutputs : List Declaration → Type 0
    AllOutputs ds = (i : ℕ) → i < n → AreOutputs (λ d. outputs i d.name) ds

    pub gathered_wide :
        (ds : List Declaration) (us : List DataType) → AllOutputs ds →
        all_some (map (variable_type P c) ds) ≡ Some us →
        length (gathered outputs n ds) ≡ n * elements_in us
    gathered_wide [] us w e = let none = same_Some _ _ e in
        omega arith ∙ ap (λ vs. n * elements_in vs) none
    gathered_wide (d ∷ ds) us w e =
        let h = each (variable_type P c d) (map (variable_type P c) ds) us e in
        let inner = λ (i : ℕ). outputs i d.name in
        let first = length-range inner (element_count h.first) 0 n (λ i lt.
        let at : 0 + i ≡ i = omega arith in
        ap (λ j. length (inner j)) at ∙ (w i lt).0 ∙ width_of d h.first h.is) in
        let rest = gathered_wide ds h.rest (λ i lt. (w i lt).1) h.others in
        omega (
          arith,
          length-append (flat_map inner (range_with_len 0 n)) (gathered outputs n ds),
          first,
          rest,
        )
        ∙ sym (ap (λ vs. n * elements_in vs) h.all)

    pub last_wide :
        0 < n → (ds : List Declaration) (u : DataType) (us : List DataType) → AllOutputs ds →
        all_some (map (variable_type P c) ds) ≡ Some (u ∷ us) →
        length (last_of outputs n ds) ≡ element_count u
    last_wide positive [] u us w e = cc
    last_wide positive (d ∷ ds) u us w e =
        let h = each (variable_type P c d) (map (variable_type P c) ds) (u ∷ us) e in
        (w (n - 1) (omega arith)).0 ∙ width_of d h.first h.is
        ∙ ap element_count (sym (heads_same _ _ _ _ h.all))
