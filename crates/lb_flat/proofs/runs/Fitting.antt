-- In a solution of a flat program that fits, elements are present on their clocks and have their
-- kinds.
use Rattle.lb_flat.proofs.Words
use Words.{ApplyBinary, ApplyUnary, Bad, BinaryOperator, Bool, Boolean, Choose, Constant, Copy}
use Words.{Divide, Every, FirstThen, FlatClock, FlatEquation, FlatSolves, IfSome, In, Input, Inputs}
use Words.{Int, Integer, Kind, Latest, List, Minus, Modulo, Negate, None, Not, Operation, Plus}
use Words.{Previous, Ready, Row, Sample, Scalar, Some, Stream, Times, UnaryOperator, [], advanced}
use Words.{ap, ap₂, arith, cases_lt, cell, chosen_cell, clock_reads, column, false, first_cell}
use Words.{fits, get_or-eq_default, held, inl, inr, instants, is_given, is_int, is_now, is_of_kind}
use Words.{is_row, is_some, length, length-map, map, newest, now, one_cell, one_scalar, or_fault}
use Words.{pos, reads, refl, remembered, sample, shows, slice_get, strict, subst, suc, sym, true}
use Words.{two_cells, two_scalars, where_true, zero, ℕ, ℤ, ◌&&◌, ◌/◌, ◌<◌, ◌∙◌, ◌∷◌, ◌≡◌, ◌≢◌, ◌≤◌}
use Rattle.{lb_check.specs.Scalars.{Cell, Nil, chosen}, lb_flat.proofs.lists.Lists.Every-both}
use Rattle.lb_flat.proofs.lists.Lists.{Every-first, Every-map, column_long, instants_long}
use Rattle.lb_flat.proofs.runs.Running.{HoldsNow, NowAndLater, Step, after_first, column_step}
use Rattle.lb_flat.proofs.runs.Running.{first_row, instants_step, now_and_later, ready_advanced}
use Rattle.lb_flat.{proofs.runs.Running.step_of, specs.Fitting.{integers_kind, truths_kind}}
use Rattle.lb_static.specs.Arithmetic.{is_divisible}
use Rattle.lb_syntax.specs.declared.tree.BinaryOperator.TheVariants.{AtLeast, AtMost, Equal}
use Rattle.lb_syntax.specs.declared.tree.BinaryOperator.TheVariants.{Greater, Less, Unequal}
use Rattle.{lb_syntax.specs.declared.tree.Kind.TheVariants.Bool as Truth, std.proofs.Common.int_div}
use Rattle.std.proofs.{Common.{int_rem, neg_ℤ, negsuc, ◌*ℤ◌, ◌+ℤ◌, ◌-ℤ◌}, Math.Nat.div-le_of_le-mul}
use Rattle.std.proofs.{Math.Nat.{div-le_self, div-lt_iff_lt-mul, div-one}, lemmas.Bool.and_parts}
use Rattle.std.specs.Int.Signed.{mag, mag_rem}
pub use Rattle.lb_flat.specs.Fitting.{ClockFits, IsFitting, IsOf, KindFits, OperandKinds}
pub use Rattle.lb_flat.specs.Fitting.{OperandsFit, binary_kind, unary_kind}

-- The operators give scalars of their kinds.

-- ## Results in the range of `int`

small_is_int : (z : ℤ) → mag z ≤ 2147483647 → is_int z ≡ true
small_is_int (pos n) h = grind arith
small_is_int (negsuc n) h = grind arith

int_is_small : (z : ℤ) → is_int z ≡ true → mag z ≤ 2147483647
int_is_small (pos n) h = grind arith
int_is_small (negsuc n) h = grind arith

lawful_int : (z : ℤ) (b : Bool) → is_int z ≡ b → is_of_kind Int (or_fault (where_true b z)) ≡ true
lawful_int z true e = e
lawful_int z false e = refl

neg_small : (n m : ℕ) → n ≤ suc m → mag (neg_ℤ (pos n)) ≤ m
neg_small zero m h = omega arith
neg_small (suc n) m h = omega arith

half_less : (n k : ℕ) → suc n / suc (suc k) ≤ n
half_less zero k =
    let both = div-lt_iff_lt-mul {k = suc (suc k)} {x = 1} {y = 1} (omega arith) in
    let lt : 1 / suc (suc k) < 1 = both.1 (omega arith) in
    omega (arith, lt)
half_less (suc n) k = div-le_of_le-mul (suc (suc k)) (omega arith)

not_least : (a : ℕ) → is_divisible (negsuc a) (negsuc 0) ≡ true → a ≢ 2147483647
not_least a d e =
    let never : is_divisible (negsuc 2147483647) (negsuc 0) ≡ true =
    subst (λ n. is_divisible (negsuc n) (negsuc 0) ≡ true) e d in
    absurd cc

quotient_small :
    (a b : ℤ) → mag a ≤ 2147483647 → is_divisible a b ≡ true → mag (int_div a b) ≤ 2147483647
quotient_small (pos a) (pos b) h d = omega (arith, h, div-le_self a b)
quotient_small (pos a) (negsuc b) h d =
    neg_small (a / suc b) 2147483647 (omega (arith, h, div-le_self a (suc b)))
quotient_small (negsuc a) (pos b) h d =
    neg_small (suc a / b) 2147483647 (omega (arith, h, div-le_self (suc a) b))
quotient_small (negsuc a) (negsuc zero) h d =
    let other : a ≢ 2147483647 = not_least a d in
    omega (arith, h, other, div-one (suc a))
quotient_small (negsuc a) (negsuc (suc b)) h d = omega (arith, h, half_less a b)

quotient_int :
    (a b : ℤ) (c : Bool) → is_int a ≡ true → is_divisible a b ≡ c →
    is_of_kind Int (or_fault (where_true c (int_div a b))) ≡ true
quotient_int a b true i d = small_is_int (int_div a b) (quotient_small a b (int_is_small a i) d)
quotient_int a b false i d = refl

remainder_int :
    (a b : ℤ) (c : Bool) → is_int a ≡ true →
    is_of_kind Int (or_fault (where_true c (int_rem a b))) ≡ true
remainder_int a b true i = small_is_int (int_rem a b) (omega (arith, int_is_small a i, mag_rem a b))
remainder_int a b false i = refl

-- ## Scalars of their kinds

pub nil_of : (k : Kind) → IsOf k Nil
nil_of Int = refl
nil_of Truth = refl

pub bad_of : (k : Kind) → IsOf k Bad
bad_of Int = refl
bad_of Truth = refl

-- an operator on nil and another operand gives a scalar of every kind
nil_and : (k : Kind) (v : Scalar) → IsOf k (strict (v ∷ []) Nil)
nil_and k Bad = bad_of k
nil_and k _ = nil_of k

one_kind : (k l : Kind) (v : Scalar) → Some k ≡ Some l → IsOf k v → IsOf l v
one_kind k l v e h = let same : k ≡ l = cc in subst (λ m. IsOf m v) same h

of_integers :
    (op : BinaryOperator) (r : Kind) (a b : ℤ) → integers_kind op ≡ Some r → is_int a ≡ true →
    is_int b ≡ true → IsOf r (two_scalars op (Integer a) (Integer b))
of_integers Plus r a b e i j = one_kind Int r _ e (lawful_int (a +ℤ b) _ refl)
of_integers Minus r a b e i j = one_kind Int r _ e (lawful_int (a -ℤ b) _ refl)
of_integers Times r a b e i j = one_kind Int r _ e (lawful_int (a *ℤ b) _ refl)
of_integers Divide r a b e i j = one_kind Int r _ e (quotient_int a b _ i refl)
of_integers Modulo r a b e i j = one_kind Int r _ e (remainder_int a b _ i)
of_integers Equal r a b e i j = one_kind Truth r _ e refl
of_integers Unequal r a b e i j = one_kind Truth r _ e refl
of_integers Less r a b e i j = one_kind Truth r _ e refl
of_integers AtMost r a b e i j = one_kind Truth r _ e refl
of_integers Greater r a b e i j = one_kind Truth r _ e refl
of_integers AtLeast r a b e i j = one_kind Truth r _ e refl
of_integers _ r a b e i j = cc

of_truths :
    (op : BinaryOperator) (r : Kind) (a b : Bool) → truths_kind op ≡ Some r →
    IsOf r (two_scalars op (Boolean a) (Boolean b))
of_truths Plus r a b e = cc
of_truths Minus r a b e = cc
of_truths Times r a b e = cc
of_truths Divide r a b e = cc
of_truths Modulo r a b e = cc
of_truths Less r a b e = cc
of_truths AtMost r a b e = cc
of_truths Greater r a b e = cc
of_truths AtLeast r a b e = cc
of_truths _ r a b e = one_kind Truth r _ e refl

pub binary_of :
    (op : BinaryOperator) (k l r : Kind) (v w : Scalar) → binary_kind op k l ≡ Some r →
    IsOf k v → IsOf l w → IsOf r (two_scalars op v w)
binary_of op Int Int r (Integer a) (Integer b) e i j = of_integers op r a b e i j
binary_of op Truth Truth r (Boolean a) (Boolean b) e i j = of_truths op r a b e
binary_of op k l r Nil w e i j = nil_and r w
binary_of op k l r Bad w e i j = bad_of r
binary_of op k l r _ Nil e i j = nil_of r
binary_of op k l r _ Bad e i j = bad_of r
binary_of op _ _ r _ _ e i j = cc

pub unary_of :
    (op : UnaryOperator) (k r : Kind) (v : Scalar) → unary_kind op k ≡ Some r → IsOf k v →
    IsOf r (one_scalar op v)
unary_of Negate Int r (Integer a) e i = one_kind Int r _ e (lawful_int (neg_ℤ a) _ refl)
unary_of Not Truth r (Boolean a) e i = one_kind Truth r _ e refl
unary_of _ _ r Nil e i = nil_of r
unary_of _ _ r Bad e i = bad_of r
unary_of _ _ r _ e i = cc

pub chosen_of : (k : Kind) (c v w : Scalar) → IsOf k v → IsOf k w → IsOf k (chosen c v w)
chosen_of k (Boolean true) v w i j = i
chosen_of k (Boolean false) v w i j = j
chosen_of k Nil v w i j = nil_of k
chosen_of k _ v w i j = bad_of k

-- In a row of a flat program whose clocks fit, an element is present exactly where its clock has an
-- instant.

pub held_present : (v : Scalar) (b : Bool) → is_some (held v b) ≡ b
held_present v true = refl
held_present v false = refl

pub one_present : (f : Scalar → Scalar) (x : Cell) → is_some (one_cell f x) ≡ is_some x
one_present f None = refl
one_present f (Some v) = refl

pub two_present :
    (f : Scalar → Scalar → Scalar) (x y : Cell) (b : Bool) → is_some x ≡ b → is_some y ≡ b →
    is_some (two_cells f x y) ≡ b
two_present f None y b p q = p
two_present f (Some v) None b p q = q
two_present f (Some v) (Some w) b p q = p

pub choice_present :
    (c x y : Cell) (b : Bool) → is_some c ≡ b → is_some x ≡ b → is_some y ≡ b →
    is_some (chosen_cell c x y) ≡ b
choice_present None x y b p q r = p
choice_present (Some c) None y b p q r = q
choice_present (Some c) (Some v) None b p q r = r
choice_present (Some c) (Some v) (Some w) b p q r = p

pub kept_present : (b c : Bool) (x : Cell) → is_some x ≡ b → is_some (sample (b && c) x) ≡ (b && c)
kept_present true true x e = e
kept_present _ _ x e = refl

-- what holds of an equation's element where it holds of all that the equation's operation reads,
-- holds of each element of equations in order
each_element :
    (P : ℕ → Type 0) (R : FlatEquation → Type 0) (size : ℕ) →
    ((q : FlatEquation) → R q → Every P (reads q.operation) → P q.element) →
    (done : List ℕ) (Q : List FlatEquation) → ((i : ℕ) → In i done → P i) →
    Ready size done Q → Every R Q → (i : ℕ) → i < size → P i
each_element P R size next done [] f ready h i lt = f i (ready i lt)
each_element P R size next done (q ∷ Q) f ready h i lt =
    each_element P R size next (q.element ∷ done) Q wider ready.1 h.1 i lt
  where
    new : P q.element
    new =
        next q h.0 (Every-map (λ i. In i done) P f (reads q.operation) (Every-first
        (λ i. In i done) (reads q.operation) (clock_reads q.clock) ready.0.reads_done))

    wider : (i : ℕ) → In i (q.element ∷ done) → P i
    wider i (inl e) = subst P e new
    wider i (inr p) = f i p

module _ (inputs : ℕ) (K : ℕ → FlatClock) (given : List Scalar) (row : Row)
    (all_given : (j : ℕ) → j < inputs → is_some (slice_get given j) ≡ true) where
  abbrev pub IsOnClock : ℕ → Type 0
  IsOnClock i = is_some (cell row i) ≡ is_now row (K i)

  -- an element on clock `k` is present exactly where `k` has an instant
  on : (k : FlatClock) (i : ℕ) → K i ≡ k → IsOnClock i → is_some (cell row i) ≡ is_now row k
  on k i e h = h ∙ ap (is_now row) e

  now_on :
      (k : FlatClock) (o : Operation) → OperandsFit inputs K k o → Every IsOnClock (reads o) →
      is_some (now given row k o) ≡ is_now row k
  now_on k (Input j) f h = all_given j f.1 ∙ sym (ap (is_now row) f.0)
  now_on k (Constant v) f h = held_present v (is_now row k)
  now_on k (Copy a) f h = on k a f h.0
  now_on k (ApplyUnary op a) f h = one_present _ (cell row a) ∙ on k a f h.0
  now_on k (ApplyBinary op a b) f h = two_present _ _ _ _ (on k a f.0 h.0) (on k b f.1 h.1.0)
  now_on k (Choose c a b) f h =
      choice_present _ _ _ _ (on k c f.0 h.0) (on k a f.1 h.1.0) (on k b f.2 h.1.1.0)
  now_on k (FirstThen true a b) f h = on k b f.1 h.1.0
  now_on k (FirstThen false a b) f h = on k a f.0 h.0
  now_on k (Previous v a) f h = held_present v (is_now row k)
  now_on k (Latest v a) f h = held_present _ (is_now row k)
  now_on k (Sample a) f h =
      subst (λ c. is_some (sample (is_now row c) (cell row a)) ≡ is_now row c) (sym f.2)
      (kept_present (is_now row (K a)) (shows f.1 (cell row f.0)) (cell row a) h.0)

  -- where all equations hold of a row, each element of the row is on its clock
  pub row_on :
      (size : ℕ) (Q : List FlatEquation) → Ready size [] Q → Every (HoldsNow given row) Q →
      Every (ClockFits inputs K) Q → (i : ℕ) → i < size → IsOnClock i
  row_on size Q ready h fits i lt =
      each_element IsOnClock (λ q. HoldsNow given row q × ClockFits inputs K q) size (λ q r read.
      ap is_some r.0 ∙ now_on q.clock q.operation r.1.operands read
      ∙ sym (ap (is_now row) r.1.own)) [] Q (λ j p. absurd p) ready
      (Every-both (HoldsNow given row) (ClockFits inputs K) Q h fits) i lt

-- In a solution of a flat program whose clocks and kinds fit, each element is present exactly at
-- the instants of its clock, with scalars of its kind.

-- a cell is absent or holds a scalar of a kind
abbrev pub CellOf : Kind → Cell → Type 0
CellOf kind x = IfSome x (IsOf kind)

pub held_of : (kind : Kind) (v : Scalar) (b : Bool) → IsOf kind v → CellOf kind (held v b)
held_of kind v true h = h
held_of kind v false h = tt

pub kept_of : (kind : Kind) (x : Cell) (b : Bool) → CellOf kind x → CellOf kind (sample b x)
kept_of kind x true h = h
kept_of kind x false h = tt

pub newest_of : (kind : Kind) (v : Scalar) (x : Cell) → IsOf kind v → CellOf kind x →
    IsOf kind (newest v x)
newest_of kind v None h g = h
newest_of kind v (Some w) h g = g

pub one_of :
    (kind r : Kind) (f : Scalar → Scalar) (x : Cell) →
    ((v : Scalar) → IsOf kind v → IsOf r (f v)) → CellOf kind x → CellOf r (one_cell f x)
one_of kind r f None e h = tt
one_of kind r f (Some v) e h = e v h

pub two_of :
    (k l r : Kind) (f : Scalar → Scalar → Scalar) (x y : Cell) →
    ((v w : Scalar) → IsOf k v → IsOf l w → IsOf r (f v w)) → CellOf k x → CellOf l y →
    CellOf r (two_cells f x y)
two_of k l r f (Some v) (Some w) e h g = e v w h g
two_of k l r f _ _ e h g = tt

pub chosen_cell_of :
    (kind : Kind) (c x y : Cell) → CellOf kind x → CellOf kind y →
    CellOf kind (chosen_cell c x y)
chosen_cell_of kind (Some c) (Some v) (Some w) h g = chosen_of kind c v w h g
chosen_cell_of kind _ _ _ h g = tt

-- ## A row of the trace

given_of : (kind : Kind) (v : Scalar) → is_given kind v ≡ true → IsOf kind v
given_of kind (Integer z) e = e
given_of kind (Boolean b) e = e
given_of kind _ e = cc

pub all_given :
    (kinds : List Kind) (given : List Scalar) → is_row kinds given ≡ true → (j : ℕ) →
    j < length kinds → is_some (slice_get given j) ≡ true
all_given [] given e j lt = absurd (omega arith)
all_given (k ∷ kinds) [] e j lt = cc
all_given (k ∷ kinds) (v ∷ given) e zero lt = refl
all_given (k ∷ kinds) (v ∷ given) e (suc j) lt =
    all_given kinds given (and_parts (is_given k v) _ e).1 j (omega arith)

pub given_kind :
    (kinds : List Kind) (given : List Scalar) → is_row kinds given ≡ true → (j : ℕ)
    (kind : Kind) → slice_get kinds j ≡ Some kind → CellOf kind (slice_get given j)
given_kind [] given e j kind at = cc
given_kind (k ∷ kinds) [] e j kind at = cc
given_kind (k ∷ kinds) (v ∷ given) e zero kind at =
    let same : k ≡ kind = cc in
    subst (λ l. IsOf l v) same (given_of k v (and_parts (is_given k v) _ e).0)
given_kind (k ∷ kinds) (v ∷ given) e (suc j) kind at =
    given_kind kinds given (and_parts (is_given k v) _ e).1 j kind at

-- ## One row

module _ (inputs : List Kind) (N : ℕ → Kind) (given : List Scalar) (row : Row)
    (is_given_row : is_row inputs given ≡ true) where
  abbrev IsOfKind : ℕ → Type 0
  IsOfKind i = CellOf (N i) (cell row i)

  of : (kind : Kind) (i : ℕ) → N i ≡ kind → IsOfKind i → CellOf kind (cell row i)
  of kind i e h = subst (λ k. CellOf k (cell row i)) e h

  now_kind :
      (k : FlatClock) (kind : Kind) (o : Operation) → OperandKinds inputs N kind o →
      Every IsOfKind (reads o) → CellOf kind (now given row k o)
  now_kind k kind (Input j) f h = given_kind _ given is_given_row j kind f
  now_kind k kind (Constant v) f h = held_of kind v _ f
  now_kind k kind (Copy a) f h = of kind a f h.0
  now_kind k kind (ApplyUnary op a) f h =
      one_of _ kind (one_scalar op) _ (λ v i. unary_of op _ kind v f i) h.0
  now_kind k kind (ApplyBinary op a b) f h =
      two_of _ _ kind (two_scalars op) _ _ (λ v w i j. binary_of op _ _ kind v w f i j) h.0 h.1.0
  now_kind k kind (Choose c a b) f h =
      chosen_cell_of kind _ _ _ (of kind a f.0 h.1.0) (of kind b f.1 h.1.1.0)
  now_kind k kind (FirstThen true a b) f h = of kind b f.1 h.1.0
  now_kind k kind (FirstThen false a b) f h = of kind a f.0 h.0
  now_kind k kind (Previous v a) f h = held_of kind v _ f.0
  now_kind k kind (Latest v a) f h = held_of kind _ _ (newest_of kind v _ f.0 (of kind a f.1 h.0))
  now_kind k kind (Sample a) f h = kept_of kind _ _ (of kind a f h.0)

  -- where all equations hold of a row, each element of the row is of its kind
  row_kinds :
      (size : ℕ) (Q : List FlatEquation) → Ready size [] Q → Every (HoldsNow given row) Q →
      Every (KindFits inputs N) Q → (i : ℕ) → i < size → IsOfKind i
  row_kinds size Q ready h fit i lt =
      each_element IsOfKind (λ q. HoldsNow given row q × KindFits inputs N q) size (λ q r read.
      subst (CellOf (N q.element)) (sym r.0) (now_kind q.clock (N q.element) q.operation r.1 read))
      [] Q (λ j p. absurd p) ready
      (Every-both (HoldsNow given row) (KindFits inputs N) Q h fit) i lt

  -- ## The memories after it

  kind_advanced :
      (kind : Kind) (o : Operation) → ((i : ℕ) → IsOfKind i) → OperandKinds inputs N kind o →
      OperandKinds inputs N kind (remembered row o)
  kind_advanced kind (Previous v a) all f = (newest_of kind v _ f.0 (of kind a f.1 (all a)), f.1)
  kind_advanced kind (Latest v a) all f = (newest_of kind v _ f.0 (of kind a f.1 (all a)), f.1)
  kind_advanced kind _ all f = f

  kinds_advanced :
      (Q : List FlatEquation) → ((i : ℕ) → IsOfKind i) → Every (KindFits inputs N) Q →
      Every (KindFits inputs N) (map (advanced row) Q)
  kinds_advanced [] all fit = tt
  kinds_advanced (q ∷ Q) all fit = (kind_advanced _ _ all fit.0, kinds_advanced Q all fit.1)

-- ## All instants

operands_advanced :
    (inputs : ℕ) (K : ℕ → FlatClock) (row : Row) (k : FlatClock) (o : Operation) →
    OperandsFit inputs K k o → OperandsFit inputs K k (remembered row o)
operands_advanced inputs K row k (Input j) f = f
operands_advanced inputs K row k _ f = f

clocks_advanced :
    (inputs : ℕ) (K : ℕ → FlatClock) (row : Row) (Q : List FlatEquation) →
    Every (ClockFits inputs K) Q → Every (ClockFits inputs K) (map (advanced row) Q)
clocks_advanced inputs K row [] fit = tt
clocks_advanced inputs K row (q ∷ Q) fit = (
  record {
    own = fit.0.own;
    operands = operands_advanced inputs K row q.clock q.operation fit.0.operands;
  },
  clocks_advanced inputs K row Q fit.1,
)

-- a stream that fits still fits with a first instant before it, where that one fits
fits_step :
    (kind : Kind) (b : Bool) (x : Cell) (bs : List Bool) (xs : Stream) → is_some x ≡ b →
    CellOf kind x → fits kind bs xs ≡ true → fits kind (b ∷ bs) (x ∷ xs) ≡ true
fits_step kind false None bs xs p h e = e
fits_step kind true None bs xs p h e = cc
fits_step kind _ (Some v) bs xs p h e = cc

pub fits_nothing :
    (kind : Kind) (bs : List Bool) (xs : Stream) → length bs ≡ 0 → length xs ≡ 0 →
    fits kind bs xs ≡ true
fits_nothing kind [] [] p q = refl
fits_nothing kind _ _ p q = absurd (omega arith)

module _ (inputs : List Kind) (K : ℕ → FlatClock) (N : ℕ → Kind) (size : ℕ) where
  pub solution_fits :
      (X : Inputs) (Q : List FlatEquation) (F : List Stream) → Ready size [] Q →
      FlatSolves size Q X F → Every (λ row. is_row inputs row ≡ true) X →
      IsFitting inputs K N Q → (i : ℕ) → i < size →
      fits (N i) (instants X F (K i)) (column X F i) ≡ true
  solution_fits [] Q F ready s rows fit i lt =
      fits_nothing (N i) _ _ (instants_long [] F s.as_long (K i)) (column_long [] F s.as_long i)
  solution_fits (given ∷ X) Q F ready s rows fit i lt =
      let later = solution_fits X (map (advanced row) Q) (after_first F)
      (ready_advanced size row [] Q ready) rest rows.1 fit_later i lt in
      ap₂ (fits (N i)) (instants_step given X F s.as_long (K i))
      (column_step given X F s.as_long i)
      ∙ fits_step (N i) (is_now row (K i)) (cell row i) _ _ (present i lt) (kinds i) later
    where
      row : Row
      row = first_row F

      halves : NowAndLater given X F s.as_long Q
      halves = now_and_later given X F s.as_long Q s.equations

      present : (j : ℕ) → j < size → is_some (cell row j) ≡ is_now row (K j)
      present =
          row_on (length inputs) K given row (all_given inputs given rows.0) size Q ready
          halves.holds_now fit.clocks

      elements : length row ≡ size
      elements = length-map F first_cell ∙ s.elements

      kinds : (j : ℕ) → CellOf (N j) (cell row j)
      kinds j =
          elim (cases_lt j size) [
            | inl less ↦
                row_kinds inputs N given row rows.0 size Q ready halves.holds_now fit.kinds j less
            | inr past ↦
                let none : cell row j ≡ None =
                get_or-eq_default row None (omega (arith, elements)) in
                subst (CellOf (N j)) (sym none) tt
          ]

      step : Step size given X Q F
      step = step_of size given X Q F ready s

      rest : FlatSolves size (map (advanced row) Q) X (after_first F)
      rest =
          subst (λ r. FlatSolves size (map (advanced r) Q) X (after_first F)) (sym step.row)
          step.rest

      fit_later : IsFitting inputs K N (map (advanced row) Q)
      fit_later = record {
        clocks = clocks_advanced (length inputs) K row Q fit.clocks;
        kinds = kinds_advanced inputs N given row rows.0 Q kinds fit.kinds;
      }
