-- Orders of equations: their test, how they grow, and what scheduling keeps.
use Rattle.lb_flat.proofs.Words
use Words.{list_all, get_or-set_same, get_or-set_other, length-replicate, Every, In, and_first}
use Words.{and_second, contrary, FlatEquation, is_done, IsNext, Ready, equation_reads, keeps, ◌≤◌}
use Words.{◌+◌, ◌-◌, cond, Option, Some, None, ◌++◌, get_or, ap, slice_get, slice_get-get_or}
use Words.{same_Some, ClockId, ElementId, first_left, clock_reads, reads, clock_of, clock_within}
use Words.{clock_from, operation_of, IsClock, AreClocks, map, ◌⊎◌, map-append, append-nil, in_first}
use Words.{IsScheduled, AreScheduled, IsStuckAt, awaited, left, flat_equations, equation_of, ◌≡◌, ℕ}
use Words.{zero, suc, ◌<◌, Bool, true, false, not, ◌&&◌, nat_lt, List, [], ◌∷◌, length, replicate}
use Words.{set, All, refl, sym, subst, ◌∙◌, arith, inl, inr, ⊎_elim, length-set, append_assoc}
use Words.{cases_eq, ltb-true, lt-ltb, not-true, and_from, Clock}
use Rattle.std.{specs.Option.{option_map, is_some}, proofs.Common.below_more}
use Rattle.{std.proofs.lemmas.Bool.{not_from_false, cases_Bool}, lb_flat.specs.InOrder.is_next}
use Rattle.lb_flat.specs.{InOrder.is_in_order, Ordering.{AreSettled, IsOn, IsTable, IsNotNext}}
use Rattle.lb_flat.specs.declared.{equation.Equation.Equation, program.FlatProgram.FlatProgram}

-- The test of an order, and how an order grows by an equation.

-- ## Tests

pub unmarked : (size i : ℕ) → is_done (replicate size false) i ≡ false
unmarked zero i = refl
unmarked (suc size) zero = refl
unmarked (suc size) (suc i) = unmarked size i

module _ {A : Type 0} (test : A → Bool) (P : A → Type 0) where
  pub Every-of_test :
      ((a : A) → test a ≡ true → P a) → (xs : List A) → list_all test xs ≡ true → Every P xs
  Every-of_test says [] h = tt
  Every-of_test says (a ∷ xs) h = (
    says a (and_first (test a) (list_all test xs) h),
    Every-of_test says xs (and_second (test a) (list_all test xs) h),
  )

  pub test_of-Every :
      ((a : A) → P a → test a ≡ true) → (xs : List A) → Every P xs → list_all test xs ≡ true
  test_of-Every says [] h = refl
  test_of-Every says (a ∷ xs) h =
      and_from (test a) (list_all test xs) (says a h.0) (test_of-Every says xs h.1)

pub Every-of_All : {A : Type 0} (P : A → Type 0) (xs : List A) → All P xs → Every P xs
Every-of_All P [] h = tt
Every-of_All P (a ∷ xs) h =
    (h 0 a (omega arith), Every-of_All P xs (λ k d lt. h (suc k) d (omega arith)))

-- ## An order that the test accepts

-- the elements that are marked are exactly the elements of a list
pub record AreMarks (done : List Bool) (before : List ℕ) : Type 0 where
  pub given : (i : ℕ) → is_done done i ≡ true → In i before
  pub marked : (i : ℕ) → In i before → is_done done i ≡ true

-- an element that is done stays so when another one is marked
pub done_stays : (done : List Bool) (e i : ℕ) → e < length done → is_done done i ≡ true →
    is_done (set done e true) i ≡ true
done_stays done e i lt h =
    ⊎_elim (λ (same : i ≡ e). rw same (get_or-set_same done e true false lt))
    (λ (other : i ≡ e → ⊥). get_or-set_other done e i true false other ∙ h) (cases_eq i e)

pub marks_more : (done : List Bool) (before : List ℕ) (e : ℕ) → e < length done →
    AreMarks done before → AreMarks (set done e true) (e ∷ before)
marks_more done before e lt h = record {
  given = λ i is.
      ⊎_elim (λ (same : i ≡ e). inl (sym same))
      (λ (other : i ≡ e → ⊥).
      inr (h.given i (sym (get_or-set_other done e i true false other) ∙ is)))
      (cases_eq i e);
  marked = λ i is.
      ⊎_elim (λ (same : e ≡ i). rw (← same) (get_or-set_same done e true false lt))
      (λ (earlier : In i before). done_stays done e i lt (h.marked i earlier)) is;
}

module _ (done : List Bool) (q : FlatEquation) where
  -- an equation passes the test where each part of it does
  pub passes :
      list_all (is_done done) (equation_reads q) ≡ true →
      Every (λ i. i < length done) (keeps q.operation) → q.element < length done →
      is_done done q.element ≡ false → is_next done q ≡ true
  passes all_read kept lt new =
      and_from _ _ all_read (and_from _ _ (test_of-Every (λ i. nat_lt i (length done))
      (λ i. i < length done) (λ i. lt-ltb i (length done)) _ kept) (and_from _ _
      (lt-ltb q.element (length done) lt) (not_from_false _ new)))

  module _ (h : is_next done q ≡ true) where
    next_element : (nat_lt q.element (length done) && not (is_done done q.element)) ≡ true
    next_element = and_second _ _ (and_second _ _ h)

    pub next_below : q.element < length done
    next_below = ltb-true q.element (length done) (and_first _ _ next_element)

    pub next_of_test : (before : List ℕ) → AreMarks done before → IsNext (length done) before q
    next_of_test before marks = record {
      reads_done = Every-of_test (is_done done) (λ i. In i before) marks.given _ (and_first _ _ h);
      keeps_element =
          Every-of_test (λ i. nat_lt i (length done)) (λ i. i < length done)
          (λ i. ltb-true i (length done)) _ (and_first _ _ (and_second _ _ h));
      is_element = next_below;
      is_new = λ old.
          contrary (is_done done q.element) (marks.marked q.element old)
          (not-true (is_done done q.element) (and_second _ _ next_element));
    }

marked_all :
    (done : List Bool) → ((i : ℕ) → i < length done → is_done done i ≡ true) →
    list_all (λ b. b) done ≡ true
marked_all [] all = refl
marked_all (b ∷ done) all =
    and_from b _ (all 0 (omega arith))
    (marked_all done (λ i lt. all (suc i) (omega arith)))

-- where all marks of a list are set, each element below its length is done
all_marked :
    (done : List Bool) → list_all (λ b. b) done ≡ true → (i : ℕ) → i < length done →
    is_done done i ≡ true
all_marked [] h i lt = absurd (omega arith)
all_marked (b ∷ done) h zero lt = and_first b _ h
all_marked (b ∷ done) h (suc i) lt = all_marked done (and_second b _ h) i (omega arith)

-- equations that the test accepts are in an order in which they can be computed
pub ready_of_test :
    (Q : List FlatEquation) (done : List Bool) (before : List ℕ) (size : ℕ) →
    length done ≡ size → AreMarks done before → is_in_order done Q ≡ true → Ready size before Q
unfolding is_in_order
ready_of_test [] done before size long marks h = λ i lt.
    marks.given i (all_marked done h i (omega arith))
ready_of_test (q ∷ Q) done before size long marks h =
    let next = and_first (is_next done q) (is_in_order (set done q.element true) Q) h in (
      subst (λ n. IsNext n before q) long (next_of_test done q next before marks),
      ready_of_test Q (set done q.element true) (q.element ∷ before) size
          (length-set done q.element true ∙ long)
          (marks_more done before q.element (next_below done q next) marks)
          (and_second (is_next done q) (is_in_order (set done q.element true) Q) h),
    )

no_marks : (size : ℕ) → AreMarks (replicate size false) []
no_marks size = record {
  given = λ i is. absurd (contrary _ is (unmarked size i));
  marked = λ i is. absurd is;
}

pub ready_of :
    (size : ℕ) (Q : List FlatEquation) → is_in_order (replicate size false) Q ≡ true →
    Ready size [] Q
ready_of size Q h = ready_of_test Q _ [] size (length-replicate size false) (no_marks size) h

-- ## Growth of an order

-- where all elements are done, the test accepts an empty list of equations
pub ends_order :
    (done : List Bool) → ((i : ℕ) → i < length done → is_done done i ≡ true) →
    is_in_order done [] ≡ true
unfolding is_in_order
ends_order done all = marked_all done all

pub goes_before :
    (done : List Bool) (q : FlatEquation) (Q : List FlatEquation) → is_next done q ≡ true →
    is_in_order (set done q.element true) Q ≡ true → is_in_order done (q ∷ Q) ≡ true
unfolding is_in_order
goes_before done q Q next rest = and_from _ _ next rest

-- The first element that is not done, and the element that the climb up a clock finds.

-- ## The first that is not done

module _ (done : List Bool) where
  -- if `first_left` finds no element, all are done
  pub none_left : (is : List ℕ) → first_left done is ≡ None → list_all (is_done done) is ≡ true
  none_left [] h = refl
  none_left (i ∷ is) h = grind (arith, none_left is, h)

  -- an element that `first_left` finds is one of the list, and not done
  pub some_left :
      (is : List ℕ) (a : ℕ) → first_left done is ≡ Some a →
      In a is × (is_done done a ≡ false)
  some_left [] a h = absurd (cc)
  some_left (i ∷ is) a h =
      ⊎_elim
      (λ (e : is_done done i ≡ true). let r = some_left is a (rw e at h) in (inr r.0, r.1))
      (λ (e : is_done done i ≡ false).
      let same : i ≡ a = same_Some i a (rw e at h) in
      (inl same, ap (is_done done) (sym same) ∙ e))
      (cases_Bool (is_done done i))

-- if `first_left` finds no element in `is ++ js`, it finds none in `js`
pub none_behind :
    (done : List Bool) (is js : List ℕ) → first_left done (is ++ js) ≡ None →
    first_left done js ≡ None
none_behind done [] js h = h
none_behind done (i ∷ is) js h = grind (arith, none_behind done is js, h)

-- if `first_left` finds no element, it finds none when one more element is done
pub none_still :
    (done : List Bool) (e : ℕ) → e < length done → (is : List ℕ) → first_left done is ≡ None →
    first_left (set done e true) is ≡ None
none_still done e lt [] h = refl
none_still done e lt (i ∷ is) h = grind (arith, done_stays done e i lt, none_still done e lt is, h)

-- if `o` is `None`, so is its number `p`
pub found_none :
    (o : Option ElementId) (p : Option ℕ) → option_map (λ a. a.0) o ≡ p → is_some o ≡ false →
    p ≡ None
found_none None p e h = sym e
found_none (Some a) p e h = absurd (cc)

-- ## The climb up a clock

-- the first element not done of those that a clock, followed at most n clocks deep, reads
abbrev pub clock_awaited : List Bool → List Clock → ℕ → Option ClockId → Option ℕ
clock_awaited done clocks n k = first_left done (clock_reads (clock_within n clocks k))

base_awaited :
    (done : List Bool) (clocks : List Clock) (n : ℕ) → clock_awaited done clocks n None ≡ None
base_awaited done clocks zero = refl
base_awaited done clocks (suc n) = refl

none_deep :
    (done : List Bool) (clocks : List Clock) (rest : Option ClockId) →
    clock_awaited done clocks 0 rest ≡ None
none_deep done clocks None = refl
none_deep done clocks (Some id) = refl

module _ (done : List Bool) (clocks : List Clock) (clock rest : Option ClockId) (depth : ℕ)
    (same : (n : ℕ) → n + depth ≡ length clocks →
    clock_awaited done clocks n rest ≡ clock_awaited done clocks (length clocks) clock) where
  pub ends_base :
      depth < length clocks → rest ≡ None →
      None ≡ clock_awaited done clocks (length clocks) clock
  ends_base lt e =
      let n = length clocks - depth in
      sym (base_awaited done clocks n) ∙ ap (clock_awaited done clocks n) (sym e)
      ∙ same n (omega arith)

  -- if a clock followed m deep awaits nothing, it awaits nothing when followed only n deep
  none_within :
      (n m : ℕ) (k : Option ClockId) → n ≤ m → clock_awaited done clocks m k ≡ None →
      clock_awaited done clocks n k ≡ None
  none_within n m None le h = base_awaited done clocks n
  none_within zero m (Some id) le h = refl
  none_within (suc n) zero (Some id) le h = absurd (omega (arith, le))
  none_within (suc n) (suc m) (Some id) le h =
      at (slice_get clocks id.0) h (λ t. none_within n m t.parent (omega (arith, le)))
    where
      at :
          (o : Option Clock) →
          first_left done (clock_reads (clock_from (clock_within m clocks) o)) ≡ None →
          ((t : Clock) → clock_awaited done clocks m t.parent ≡ None →
          clock_awaited done clocks n t.parent ≡ None) →
          first_left done (clock_reads (clock_from (clock_within n clocks) o)) ≡ None
      at None h less = refl
      at (Some t) h less = grind (arith, h, less t)

  pub ends_past : length clocks ≤ depth → depth ≤ length clocks →
      None ≡ clock_awaited done clocks (length clocks) clock
  ends_past le ge = sym (none_deep done clocks rest) ∙ same 0 (omega arith)

  module _ (id : ClockId) (d : Clock) (e : rest ≡ Some id) (in_table : IsClock clocks rest)
      (lt : depth < length clocks) where
    within : id.0 < length clocks
    within = in_table id e

    -- the element of the clock `id` if it is not done, else the element that its parent awaits
    abbrev next : ℕ → Bool → Option ℕ
    next n b =
        cond (not b) (Some (get_or clocks id.0 d).element.0)
        (clock_awaited done clocks n (get_or clocks id.0 d).parent)

    above :
        (n : ℕ) → n + (depth + 1) ≡ length clocks →
        next n (is_done done (get_or clocks id.0 d).element.0)
        ≡ clock_awaited done clocks (length clocks) clock
    above n count =
        sym (ap (λ t. first_left done (clock_reads (clock_from (clock_within n clocks) t)))
        (slice_get-get_or clocks id.0 d within))
        ∙ ap (clock_awaited done clocks (suc n)) (sym e)
        ∙ same (suc n) (omega arith)

    pub ends_waiting :
        is_done done (get_or clocks id.0 d).element.0 ≡ false →
        Some (get_or clocks id.0 d).element.0 ≡ clock_awaited done clocks (length clocks) clock
    ends_waiting waits =
        let n = length clocks - (depth + 1) in
        sym (ap (next n) waits) ∙ above n (omega arith)

    pub parent_in_table :
        (size : ℕ) → AreClocks size clocks → IsClock clocks (get_or clocks id.0 d).parent
    parent_in_table size table = (table id.0 d within).parent

    pub goes_on :
        is_done done (get_or clocks id.0 d).element.0 ≡ true →
        (n : ℕ) → n + (depth + 1) ≡ length clocks →
        clock_awaited done clocks n (get_or clocks id.0 d).parent
        ≡ clock_awaited done clocks (length clocks) clock
    goes_on is n count = sym (ap (next n) is) ∙ above n count

    -- if the element of the clock is done, all that the clock reads is done
    pub ends_settled :
        (table : List (Option Equation)) → AreSettled clocks table done →
        is_done done (get_or clocks id.0 d).element.0 ≡ true →
        IsOn table (get_or clocks id.0 d).element.0 (get_or clocks id.0 d).parent →
        None ≡ clock_awaited done clocks (length clocks) clock
    ends_settled table settled is on =
        let n = length clocks - (depth + 1) in
        let q = on.equation in
        let all : first_left done (clock_reads (clock_of clocks q.clock)) ≡ None =
        none_behind done (reads (operation_of q.operation))
        (clock_reads (clock_of clocks q.clock)) (settled _ q is on.stands) in
        sym (none_within n (length clocks) (get_or clocks id.0 d).parent (omega arith)
        (ap (clock_awaited done clocks (length clocks)) (sym on.clock_is) ∙ all))
        ∙ goes_on is n (omega arith)

-- Facts that scheduling keeps, and a table in which no element is next.

-- ## Lists

module _ {A : Type 0} where
  pub In-last : (a : A) (xs : List A) → In a (xs ++ a ∷ [])
  In-last a [] = inl refl
  In-last a (x ∷ xs) = inr (In-last a xs)

  pub In-cases : (a b : A) (xs : List A) → In a (xs ++ b ∷ []) → In a xs ⊎ (b ≡ a)
  In-cases a b [] (inl e) = inr e
  In-cases a b [] (inr h) = absurd h
  In-cases a b (x ∷ xs) (inl e) = inl (inl e)
  In-cases a b (x ∷ xs) (inr h) =
      ⊎_elim (λ (i : In a xs). inl (inr i)) (λ (e : b ≡ a). inr e) (In-cases a b xs h)

  pub In-get_or : (xs : List A) (i : ℕ) (d : A) → i < length xs → In (get_or xs i d) xs
  In-get_or [] i d lt = absurd (omega arith)
  In-get_or (x ∷ xs) zero d lt = inl refl
  In-get_or (x ∷ xs) (suc i) d lt = inr (In-get_or xs i d (omega arith))

  pub In-All : (P : A → Type 0) (a : A) (xs : List A) → All P xs → In a xs → P a
  In-All P a [] h i = absurd i
  In-All P a (x ∷ xs) h (inl e) = subst P e (h 0 x (omega arith))
  In-All P a (x ∷ xs) h (inr i) = In-All P a xs (λ k d lt. h (suc k) d (omega arith)) i

  pub All-In : (P : A → Type 0) (xs : List A) → ((a : A) → In a xs → P a) → All P xs
  All-In P xs h k d lt = h (get_or xs k d) (In-get_or xs k d lt)

module _ {A B : Type 0} (f : A → B) where
  pub In-map : (a : A) (xs : List A) → In a xs → In (f a) (map f xs)
  In-map a [] h = absurd h
  In-map a (x ∷ xs) (inl e) = inl (ap f e)
  In-map a (x ∷ xs) (inr h) = inr (In-map a xs h)

  -- `b` is `f` of an item of the list
  pub record IsFrom (b : B) (xs : List A) : Type 0 where
    pub source : A
    pub is_in : In source xs
    pub is : f source ≡ b

  pub from_map : (b : B) (xs : List A) → In b (map f xs) → IsFrom b xs
  from_map b [] h = absurd h
  from_map b (x ∷ xs) (inl e) = record { source = x; is_in = inl refl; is = e }
  from_map b (x ∷ xs) (inr h) =
      let s = from_map b xs h in
      record { source = s.source; is_in = inr s.is_in; is = s.is }

-- ## Scheduling

-- with one more mark, one element less is left
pub left-set :
    (done : List Bool) (e : ℕ) → e < length done → is_done done e ≡ false →
    suc (left (set done e true)) ≡ left done
left-set [] e lt h = absurd (omega arith)
left-set (true ∷ done) zero lt h = cc
left-set (false ∷ done) zero lt h = refl
left-set (true ∷ done) (suc e) lt h = left-set done e (omega arith) h
left-set (false ∷ done) (suc e) lt h = ap suc (left-set done e (omega arith) h)

module _ (clocks : List Clock) (table : List (Option Equation)) (done : List Bool)
    (out : List Equation) (e : ℕ) (q : Equation) (is_table : IsTable clocks table)
    (h : IsScheduled clocks table done out) (at : get_or table e None ≡ Some q)
    (lt : e < length table) (new : is_done done e ≡ false)
    (ready : awaited clocks done q ≡ None) where
  element : q.element.0 ≡ e
  element = is_table.own e q at

  next_ready : is_next done (equation_of clocks q) ≡ true
  next_ready =
      let w = is_table.within e q at in
      passes done _ (none_left done _ ready) (rw h.marks
      (Every-of_All (λ i. i < length table) _ w.memory_operands))
      (omega (arith, h.marks, element)) (ap (is_done done) element ∙ new)

  pub schedules : IsScheduled clocks table (set done e true) (out ++ q ∷ [])
  schedules = record {
    marks = length-set done e true ∙ h.marks;
    begins = λ Q rest.
        let grown : flat_equations clocks out ++ (equation_of clocks q ∷ Q) ≡ flat_equations
        clocks (out ++ q ∷ []) ++ Q = cc (
          map-append (equation_of clocks) out (q ∷ []),
          append_assoc (flat_equations clocks out) (equation_of clocks q ∷ []) Q,
        ) in
        rw (← grown) (h.begins (equation_of clocks q ∷ Q) (goes_before done _ Q next_ready (subst
        (λ i. is_in_order (set done i true) Q ≡ true) (sym element) rest)));
    entries = λ p is.
        ⊎_elim (h.entries p) (λ (same : q ≡ p). rw (← same)
        (ap (λ i. get_or table i None) element ∙ at)) (In-cases p q out is);
    holds = λ i p is stands.
        ⊎_elim
        (λ (same : i ≡ e).
        let both : Some q ≡ Some p = cc in
        let equal : q ≡ p = cc in
        rw (← equal) (In-last q out)) (λ (other : i ≡ e → ⊥). in_first p out (q ∷ []) (h.holds i p
        (sym (get_or-set_other done e i true false other) ∙ is) stands)) (cases_eq i e);
    settled = λ i p is stands.
        none_still done e (omega (arith, h.marks)) _ (⊎_elim (λ (same : i ≡ e).
        let both : Some q ≡ Some p = cc in
        rw (← (same_Some q p both)) ready) (λ (other : i ≡ e → ⊥). h.settled i p
        (sym (get_or-set_other done e i true false other) ∙ is) stands) (cases_eq i e));
  }

-- ## A pass

-- the state of a pass behind the elements below `e`: it has scheduled some element, or nothing has
-- changed and none of them is next
pub record IsPassing (clocks : List Clock) (table : List (Option Equation))
    (first done : List Bool) (some : Bool) (e : ℕ) : Type 0 where
  pub scheduled : some ≡ true → left done < left first
  pub unchanged : some ≡ false → done ≡ first
  pub stuck : some ≡ false → (k : ℕ) → k < e → IsNotNext clocks table first k

module _ (clocks : List Clock) (table : List (Option Equation)) (first done : List Bool)
    (some : Bool) (e : ℕ) (h : IsPassing clocks table first done some e) (after : List Bool) where
  at_most : left done ≤ left first
  at_most =
      ⊎_elim
      (λ (is : some ≡ true). let less : left done < left first = h.scheduled is in omega arith)
      (λ (is : some ≡ false).
      let same : left done ≡ left first = ap left (h.unchanged is) in omega arith)
      (cases_Bool some)

  pub one_settled : suc (left after) ≡ left done → IsPassing clocks table first after true (e + 1)
  one_settled less = record {
    scheduled = λ is. omega (arith, at_most);
    unchanged = λ is. absurd (cc);
    stuck = λ is. absurd (cc);
  }

  pub none_settled :
      after ≡ done → IsNotNext clocks table done e →
      IsPassing clocks table first after some (e + 1)
  none_settled same here = record {
    scheduled = λ is. rw same (h.scheduled is);
    unchanged = λ is. same ∙ h.unchanged is;
    stuck = λ is.
        below_more (IsNotNext clocks table first) e (h.stuck is) (rw (← (h.unchanged is)) here);
  }

-- ## All scheduled

pub all_settled :
    (clocks : List Clock) (table : List (Option Equation)) (done : List Bool) (out : List Equation)
    (n : ℕ) → IsScheduled clocks table done out → length table ≤ n →
    ((i : ℕ) → i < n → is_done done i ≡ true) → AreScheduled clocks table out
all_settled clocks table done out n h le all = record {
  in_order =
      rw (← (append-nil (flat_equations clocks out))) (h.begins []
      (ends_order done (λ i lt. all i (omega (arith, h.marks)))));
  entries = h.entries;
  holds = λ e q lt. h.holds e q (all e (omega arith));
}

-- ## Where none is next

module _ (p : FlatProgram) (table : List (Option Equation)) (done : List Bool)
    (s : IsStuckAt p table done) where
  abbrev clocks : List Clock
  clocks = p.clocks.items

  abbrev Q : List FlatEquation
  Q = flat_equations clocks p.equations.items

  -- element `e` has an equation in the table
  pub record IsEntry (e : ℕ) : Type 0 where
    pub equation : Equation
    pub stands : get_or table e None ≡ Some equation

  pub entry : (e : ℕ) → e < p.size → IsEntry e
  entry e lt =
      let q = from_map (λ (q : FlatEquation). q.element) e Q (s.given.each e lt) in
      let r = from_map (equation_of clocks) q.source p.equations.items q.is_in in
      let element : r.source.element.0 ≡ e = ap (λ x. x.element) r.is ∙ q.is in
      record {
        equation = r.source;
        stands =
            subst (λ i. get_or table i None ≡ Some r.source) element
            (s.table.each r.source r.is_in);
      }
