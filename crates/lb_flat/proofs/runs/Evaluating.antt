-- The state of the evaluator: selected equations, fixed cells, memories, and what each instant
-- keeps.
use Rattle.lb_flat.proofs.Words
use Words.{◌≡◌, ◌≢◌, ℕ, ◌≤◌, Bool, true, false, cond, inl, inr, None, List, [], ◌∷◌, length, set}
use Words.{refl, sym, ap, ◌∙◌, subst, arith, length-set, filter, get_or-set_same, get_or-set_other}
use Words.{Every, In, contrary, Scalar, FlatEquation, Row, cell, now, Ready, filled, suc, not, ◌||◌}
use Words.{map, ap₂, Where, FlatClock, Always, Operation, Input, Constant, FirstThen, Previous}
use Words.{Latest, remembered, advanced, row_of, drop, All, add-one, drop-cons, length-map, Verdict}
use Words.{Passed, Inputs, or_later, InputPlace, place_equation, run, FlatProgram, row_judged}
use Words.{rows_judged, flat_verdict, cell_of, equation_of, IsWithin, zero, ◌+◌, ◌<◌, ◌++◌, get_or}
use Words.{append_assoc, is_input, is_fixed, is_step, has_memory, fixed_in, steps_in}
use Words.{inputs_in, memory_places, AreFixed, Cell, Clock, length-append}
use Rattle.{std.proofs.lemmas.List.set-get_or, lb_flat.specs.Prepared.HoldsFixed}
use Rattle.lb_flat.{specs.declared.equation.Equation.Equation, proofs.lists.Lists.Every-map}
use Rattle.lb_flat.proofs.{lists.Lists.Every-both, runs.Running.{HoldsNow, filled_is}}
use Rattle.lb_flat.proofs.runs.Running.{length-filled, row_holds, ready_advanced}

-- Selected equations fill a row: what they change, and when they fill it as all equations do.

pub by_test : {A : Type 0} (b : Bool) → (b ≡ true → A) → (b ≡ false → A) → A
by_test true f g = f refl
by_test false f g = g refl

-- no later equation gives an element that is done
pub later_new :
    (size : ℕ) (done : List ℕ) (Q : List FlatEquation) → Ready size done Q →
    (i : ℕ) → In i done → Every (λ q. q.element ≢ i) Q
later_new size done [] ready i p = tt
later_new size done (q ∷ Q) ready i p = (
  (λ same. ready.0.is_new (subst (λ j. In j done) (sym same) p)),
  later_new size (q.element ∷ done) Q ready.1 i (inr p),
)

module _ (given : List Scalar) (size : ℕ) (p : FlatEquation → Bool) where
  -- a row with the cell of one equation
  abbrev after : Row → FlatEquation → Row
  after row q = set row q.element (now given row q.clock q.operation)

  abbrev some_filled : Row → List FlatEquation → Row
  some_filled row Q = filled given row (filter p Q)

  -- the row that is filled where `b` says whether the first equation is selected
  abbrev filled_by : Bool → Row → FlatEquation → List FlatEquation → Row
  filled_by b row q Q = filled given row (cond b (q ∷ filter p Q) (filter p Q))

  kept_beside :
      (row : Row) (q r : FlatEquation) → r.element ≢ q.element →
      cell (after row q) r.element ≡ cell row r.element
  kept_beside row q r other = get_or-set_other row q.element r.element _ None other

  pub some_keep :
      (done : List ℕ) (Q : List FlatEquation) (row : Row) → Ready size done Q →
      (i : ℕ) → In i done → cell (some_filled row Q) i ≡ cell row i
  some_keep done [] row ready i is = refl
  some_keep done (q ∷ Q) row ready i is =
      by_test (p q)
      (λ e. rw e (some_keep (q.element ∷ done) Q (after row q) ready.1 i (inr is)
      ∙ get_or-set_other row q.element i _ None (λ same. ready.0.is_new (rw (← same) is))))
      (λ e. rw e (some_keep (q.element ∷ done) Q row ready.1 i (inr is)))

  -- an element of an equation that is not selected keeps its cell
  abbrev IsKept : Row → Row → FlatEquation → Type 0
  IsKept new row q = p q ≡ false → cell new q.element ≡ cell row q.element

  pub others_kept :
      (done : List ℕ) (Q : List FlatEquation) (row : Row) → Ready size done Q →
      Every (IsKept (some_filled row Q) row) Q
  others_kept done [] row ready = tt
  others_kept done (q ∷ Q) row ready =
      by_test (p q)
      (λ e. (
        (λ no. absurd (contrary (p q) e no)),
        subst (λ b. Every (IsKept (filled_by b row q Q) row) Q) (sym e) (Every-map _
            (IsKept (some_filled (after row q) Q) row) (λ r h no. h.0 no ∙ kept_beside row q r h.1)
            Q (Every-both (IsKept (some_filled (after row q) Q) (after row q))
            (λ r. r.element ≢ q.element) Q (others_kept (q.element ∷ done) Q (after row q) ready.1)
            (later_new size _ Q ready.1 _ (inl refl)))),
      ))
      (λ e. (
        (λ no. rw e (some_keep _ Q row ready.1 _ (inl refl))),
        subst (λ b. Every (IsKept (filled_by b row q Q) row) Q) (sym e)
            (others_kept (q.element ∷ done) Q row ready.1),
      ))

  -- a selected equation holds of the row
  abbrev IsFilled : Row → FlatEquation → Type 0
  IsFilled row q = p q ≡ true → HoldsNow given row q

  module _ (stable : (q : FlatEquation) → p q ≡ true → (r s : Row) →
      now given r q.clock q.operation ≡ now given s q.clock q.operation) where
    pub some_hold :
        (done : List ℕ) (Q : List FlatEquation) (row : Row) → Ready size done Q →
        size ≤ length row → Every (IsFilled (some_filled row Q)) Q
    some_hold done [] row ready le = tt
    some_hold done (q ∷ Q) row ready le =
        by_test (p q)
        (λ e. (
          (λ yes. rw e (some_keep (q.element ∷ done) Q (after row q) ready.1 _ (inl refl)
              ∙ get_or-set_same row q.element _ None (omega (arith, ready.0.is_element))
              ∙ stable q e row (some_filled (after row q) Q))),
          subst (λ b. Every (IsFilled (filled_by b row q Q)) Q) (sym e)
              (some_hold (q.element ∷ done) Q (after row q) ready.1
              (omega (arith, length-set row q.element (now given row q.clock q.operation)))),
        ))
        (λ e. (
          (λ yes. absurd (contrary (p q) yes e)),
          subst (λ b. Every (IsFilled (filled_by b row q Q)) Q) (sym e)
              (some_hold (q.element ∷ done) Q row ready.1 le),
        ))

  -- an equation that is not selected holds of the row already
  abbrev IsKnown : Row → FlatEquation → Type 0
  IsKnown row q = p q ≡ false → HoldsNow given row q

  -- where the other equations already hold, the selected ones fill the row as all do
  pub some_fill_all :
      (stable : (q : FlatEquation) → p q ≡ false → (r s : Row) →
      now given r q.clock q.operation ≡ now given s q.clock q.operation) →
      (done : List ℕ) (Q : List FlatEquation) (row : Row) → Ready size done Q →
      Every (IsKnown row) Q → some_filled row Q ≡ filled given row Q
  some_fill_all stable done [] row ready known = refl
  some_fill_all stable done (q ∷ Q) row ready known =
      by_test (p q)
      (λ e. rw e (some_fill_all stable (q.element ∷ done) Q (after row q) ready.1 (Every-map _
      (IsKnown (after row q)) (λ r h no. kept_beside row q r h.1 ∙ h.0 no
      ∙ stable r no row (after row q)) Q (Every-both (IsKnown row) (λ r. r.element ≢ q.element) Q
      known.1 (later_new size _ Q ready.1 _ (inl refl))))))
      (λ e. rw e (some_fill_all stable (q.element ∷ done) Q row ready.1 known.1
      ∙ ap (λ r. filled given r Q) (sym (ap (set row q.element) (sym (known.0 e))
      ∙ set-get_or row q.element None))))

-- A row whose constants are set and whose inputs were read is filled by the steps alone.

-- ## Inputs and constants

-- an operation that is an input
pub record IsInput (o : Operation) : Type 0 where
  pub number : ℕ
  pub is : o ≡ Input number

pub input_is : (o : Operation) → is_input o ≡ true → IsInput o
input_is (Input j) e = record { number = j; is = refl }
input_is _ e = absurd (cc)

-- a constant on the base clock
pub record IsFixed (k : FlatClock) (o : Operation) : Type 0 where
  pub value : Scalar
  pub clock : k ≡ Always
  pub is : o ≡ Constant value

pub fixed_is : (k : FlatClock) (o : Operation) → is_fixed k o ≡ true → IsFixed k o
fixed_is Always (Constant v) e = record { value = v; clock = refl; is = refl }
fixed_is (Where k i sign) (Constant v) e = absurd (cc)
fixed_is k _ e = absurd (cc)

module _ (given : List Scalar) where
  input_now :
      (k : FlatClock) (o : Operation) → is_input o ≡ true → (r s : Row) (l : FlatClock) →
      now given r k o ≡ now given s l o
  input_now k o e r s l =
      let h = input_is o e in
      rw h.is refl

  fixed_now :
      (k : FlatClock) (o : Operation) → is_fixed k o ≡ true → (r s : Row) (X : List Scalar) →
      now given r k o ≡ now X s k o
  fixed_now k o e r s X =
      let h = fixed_is k o e in
      rw h.is (subst (λ l. now given r l (Constant h.value) ≡ now X s l (Constant h.value))
      (sym h.clock) refl)

  -- an operation that is no input gives the same cell whatever the inputs are
  no_input_now :
      (r : Row) (k : FlatClock) (o : Operation) → is_input o ≡ false →
      now given r k o ≡ now [] r k o
  no_input_now r k (Input j) e = absurd (cc)
  no_input_now r k _ e = refl

fixed_left : (a b : Bool) → not (a || b) ≡ false → a ≡ false → b ≡ true
fixed_left true b e f = absurd (cc)
fixed_left false true e f = refl
fixed_left false false e f = absurd (cc)

no_input : (a b : Bool) → not (a || b) ≡ true → a ≡ false
no_input true b e = absurd (cc)
no_input false b e = refl

-- ## The row of an instant

module _ (given : List Scalar) where
  abbrev reads_input : FlatEquation → Bool
  reads_input q = is_input q.operation

  input_stable :
      (q : FlatEquation) → reads_input q ≡ true → (r s : Row) →
      now given r q.clock q.operation ≡ now given s q.clock q.operation
  input_stable q e r s = input_now given q.clock q.operation e r s q.clock

  known_stable :
      (q : FlatEquation) → is_step q ≡ false → (r s : Row) →
      now given r q.clock q.operation ≡ now given s q.clock q.operation
  known_stable q e r s =
      by_test (reads_input q) (λ yes. input_stable q yes r s)
      (λ no. fixed_now given q.clock q.operation (fixed_left _ _ e no) r s given)

  -- inputs fill a row in the same way whatever their clocks are
  inputs_fill :
      (Q : List FlatEquation) (row : Row) →
      filled given row (inputs_in Q) ≡ filled given row (filter reads_input Q)
  inputs_fill [] row = refl
  inputs_fill (q ∷ Q) row =
      by_test (reads_input q)
      (λ e. rw e (inputs_fill Q (set row q.element (now given row Always q.operation))
      ∙ ap (λ v. filled given (set row q.element v) (filter reads_input Q))
      (input_now given Always q.operation e row row q.clock)))
      (λ e. rw e (inputs_fill Q row))

  -- the steps read no input
  steps_alone :
      (Q : List FlatEquation) (row : Row) →
      filled [] row (steps_in Q) ≡ filled given row (steps_in Q)
  steps_alone [] row = refl
  steps_alone (q ∷ Q) row =
      by_test (is_step q)
      (λ e. rw e (steps_alone Q (set row q.element (now [] row q.clock q.operation))
      ∙ ap (λ v. filled given (set row q.element v) (steps_in Q))
      (sym (no_input_now given row q.clock q.operation (no_input _ _ e)))))
      (λ e. rw e (steps_alone Q row))

  module _ (size : ℕ) (Q : List FlatEquation) (row : Row) (ready : Ready size [] Q)
      (long : length row ≡ size) (fixed : AreFixed row Q) where
    -- the row with its inputs
    abbrev with_inputs : Row
    with_inputs = filled given row (filter reads_input Q)

    known_there : Every (λ q. is_step q ≡ false → HoldsNow given with_inputs q) Q
    known_there =
        Every-map _ (λ q. is_step q ≡ false → HoldsNow given with_inputs q) (λ q h no. by_test _
        (λ yes. h.0 yes) (λ other.
        let is = fixed_left _ _ no other in
        h.1.0 other ∙ h.1.1 is ∙ sym (fixed_now given _ _ is _ row []))) Q (Every-both
        (λ q. reads_input q ≡ true → HoldsNow given with_inputs q) _ Q (some_hold given size
        reads_input input_stable [] Q row ready (omega (arith, long))) (Every-both (λ q.
        reads_input q ≡ false → cell with_inputs q.element ≡ cell row q.element) (HoldsFixed row)
        Q (others_kept given size reads_input [] Q row ready) fixed))

    pub instant_row : filled [] (filled given row (inputs_in Q)) (steps_in Q) ≡ row_of size Q given
    instant_row =
        ap (λ r. filled [] r (steps_in Q)) (inputs_fill Q row)
        ∙ steps_alone Q with_inputs
        ∙ some_fill_all given size is_step known_stable [] Q with_inputs ready known_there
        ∙ filled_is given size Q with_inputs ready
        (length-filled given size (filter reads_input Q) row ∙ long)

-- ## The constants

-- setting the constants on the base clock gives a row that holds them
pub constants_set :
    (size : ℕ) (Q : List FlatEquation) (row : Row) → Ready size [] Q → size ≤ length row →
    AreFixed (filled [] row (fixed_in Q)) Q
constants_set size Q row ready le =
    some_hold [] size (λ q. is_fixed q.clock q.operation)
    (λ q e r s. fixed_now [] q.clock q.operation e r s []) [] Q row ready le

-- ## The memories move on

module _ (row : Row) where
  input_same : (o : Operation) → is_input (remembered row o) ≡ is_input o
  input_same (Input j) = refl
  input_same _ = refl

  fixed_same : (k : FlatClock) (o : Operation) → is_fixed k (remembered row o) ≡ is_fixed k o
  fixed_same k (Input j) = refl
  fixed_same k _ = refl

  memory_same : (o : Operation) → has_memory (remembered row o) ≡ has_memory o
  memory_same (Input j) = refl
  memory_same _ = refl

  pub no_memory : (o : Operation) → has_memory o ≡ false → remembered row o ≡ o
  no_memory (FirstThen started a b) e = absurd (cc)
  no_memory (Previous v a) e = absurd (cc)
  no_memory (Latest v a) e = absurd (cc)
  no_memory _ e = refl

  step_same : (q : FlatEquation) → is_step (advanced row q) ≡ is_step q
  step_same q = cc (input_same q.operation, fixed_same q.clock q.operation)

  pub steps_advanced :
      (Q : List FlatEquation) →
      map (advanced row) (steps_in Q) ≡ steps_in (map (advanced row) Q)
  steps_advanced [] = refl
  steps_advanced (q ∷ Q) = cc (map_cond (is_step q), step_same q, steps_advanced Q)
    where
      map_cond :
          (b : Bool) → map (advanced row) (cond b (q ∷ steps_in Q) (steps_in Q))
          ≡ cond b (advanced row q ∷ map (advanced row) (steps_in Q))
          (map (advanced row) (steps_in Q))
      map_cond true = refl
      map_cond false = refl

  input_stays : (o : Operation) → is_input o ≡ true → remembered row o ≡ o
  input_stays o e =
      let h = input_is o e in
      subst (λ x. remembered row x ≡ x) (sym h.is) refl

  pub inputs_advanced : (Q : List FlatEquation) → inputs_in (map (advanced row) Q) ≡ inputs_in Q
  inputs_advanced [] = refl
  inputs_advanced (q ∷ Q) =
      by_test (is_input q.operation)
      (λ e. rw (input_same q.operation, e)
      (ap₂ (λ o qs. record { element = q.element; clock = Always; operation = o } ∷ qs)
      (input_stays q.operation e) (inputs_advanced Q)))
      (λ e. rw (input_same q.operation, e) (inputs_advanced Q))

  pub places_advanced :
      (n : ℕ) (Q : List FlatEquation) →
      memory_places n (map (advanced row) Q) ≡ memory_places n Q
  places_advanced n [] = refl
  places_advanced n (q ∷ Q) = cc (memory_same q.operation, places_advanced (suc n) Q)

-- the row of an instant holds the constants, also for the equations of the next instant
pub fixed_stay :
    (given : List Scalar) (size : ℕ) (Q : List FlatEquation) (row : Row) → Ready size [] Q →
    AreFixed (row_of size Q given) (map (advanced row) Q)
fixed_stay given size Q row ready = stays Q (row_holds given size Q ready)
  where
    stays :
        (R : List FlatEquation) → Every (HoldsNow given (row_of size Q given)) R →
        AreFixed (row_of size Q given) (map (advanced row) R)
    stays [] h = tt
    stays (q ∷ R) h = (
      (λ e.
          let is = sym (fixed_same row q.clock q.operation) ∙ e in
          let c = fixed_is q.clock q.operation is in
          h.0 ∙ fixed_now given q.clock q.operation is _ (row_of size Q given) []
          ∙ ap (now [] (row_of size Q given) q.clock)
          (subst (λ o. o ≡ remembered row o) (sym c.is) refl)),
      stays R h.1,
    )

-- The memories of equations move on, one place after the other.

module _ (row : Row) where
  -- the equations with the memory of the one at place `n` moved on
  abbrev pub moved : ℕ → List FlatEquation → List FlatEquation
  moved n [] = []
  moved zero (q ∷ Q) = advanced row q ∷ Q
  moved (suc n) (q ∷ Q) = q ∷ moved n Q

  -- the equations with the memories at all places `ns` moved on
  abbrev pub all_moved : List ℕ → List FlatEquation → List FlatEquation
  all_moved [] Q = Q
  all_moved (n ∷ ns) Q = all_moved ns (moved n Q)

  pub moved_is :
      {A : Type 0} (f : A → FlatEquation) (xs : List A) (n : ℕ) (d y : A) → n < length xs →
      f y ≡ advanced row (f (get_or xs n d)) → map f (set xs n y) ≡ moved n (map f xs)
  moved_is f [] n d y lt e = absurd (omega arith)
  moved_is f (x ∷ xs) zero d y lt e = ap (λ q. q ∷ map f xs) e
  moved_is f (x ∷ xs) (suc n) d y lt e = ap (λ qs. f x ∷ qs) (moved_is f xs n d y (omega arith) e)

  moved_next :
      (P : List FlatEquation) (q : FlatEquation) (Q : List FlatEquation) →
      moved (length P) (P ++ q ∷ Q) ≡ P ++ advanced row q ∷ Q
  moved_next [] q Q = refl
  moved_next (p ∷ P) q Q = ap (λ qs. p ∷ qs) (moved_next P q Q)

  -- moving on the memories of `Q`, where the equations `P` stand before it
  rest_moved :
      (P Q : List FlatEquation) (n : ℕ) → n ≡ length P →
      all_moved (memory_places n Q) (P ++ Q) ≡ P ++ map (advanced row) Q
  rest_moved P [] n e = refl
  rest_moved P (q ∷ Q) n e =
      by_test (has_memory q.operation)
      (λ yes. rw yes (ap (λ k. all_moved (memory_places (suc n) Q) (moved k (P ++ q ∷ Q))) e
      ∙ ap (all_moved (memory_places (suc n) Q))
      (moved_next P q Q ∙ sym (append_assoc P (advanced row q ∷ []) Q))
      ∙ rest_moved (P ++ advanced row q ∷ []) Q (suc n)
      (omega (arith, e, length-append P (advanced row q ∷ [])))
      ∙ append_assoc P (advanced row q ∷ []) (map (advanced row) Q)))
      (λ no. rw (no, no_memory row q.operation no) (ap (all_moved (memory_places (suc n) Q))
      (sym (append_assoc P (q ∷ []) Q))
      ∙ rest_moved (P ++ q ∷ []) Q (suc n) (omega (arith, e, length-append P (q ∷ [])))
      ∙ append_assoc P (q ∷ []) (map (advanced row) Q)))

  -- moving on all equations is moving on the equations with a memory
  pub memories_moved :
      (Q : List FlatEquation) → all_moved (memory_places 0 Q) Q ≡ map (advanced row) Q
  memories_moved Q = rest_moved [] Q 0 refl

-- the place of a memory is the place of one of the equations
pub places_within :
    (n : ℕ) (Q : List FlatEquation) →
    Every (λ k. k < n + length Q) (memory_places n Q)
places_within n [] = tt
places_within n (q ∷ Q) =
    let later =
    Every-map (λ k. k < suc n + length Q) (λ k. k < n + suc (length Q)) (λ k lt. omega arith)
    (memory_places (suc n) Q) (places_within (suc n) Q) in
    by_test (has_memory q.operation) (λ yes. rw yes (omega arith, later)) (λ no. rw no later)

pub every_at :
    {A : Type 0} (P : A → Type 0) (xs : List A) (i : ℕ) (d : A) → Every P xs → i < length xs →
    P (get_or xs i d)
every_at P [] i d h lt = absurd (omega arith)
every_at P (x ∷ xs) zero d h lt = h.0
every_at P (x ∷ xs) (suc i) d h lt = every_at P xs i d h.1 (omega arith)

-- The invariant that each instant of the evaluator keeps.

-- before instant t the steps are the steps of the program with their memories moved on, the row
-- holds the constants, and the verdict is up to the rest of the trace
pub record IsEvaluating (f : FlatProgram) (X : Inputs) (clocks : List Clock)
    (inputs : List InputPlace) (memories : List ℕ) (steps : List Equation) (row : List Cell)
    (t : ℕ) : Type 0 where
  pub equations : List FlatEquation
  pub in_order : Ready f.size [] equations
  pub inputs_are : map place_equation inputs ≡ inputs_in equations
  pub steps_are : map (equation_of clocks) steps ≡ steps_in equations
  pub places_are : memories ≡ memory_places 0 (map (equation_of clocks) steps)
  pub within : All (IsWithin f.size clocks) steps
  pub as_long : length row ≡ f.size
  pub fixed : AreFixed (map cell_of row) equations
  pub rest : rows_judged f t (run f.size equations (drop t X)) ≡ flat_verdict f X

later_is : (v w : Verdict) → v ≢ Passed → or_later v w ≡ v
later_is Passed w n = absurd (n refl)
later_is _ w n = refl

module _ (f : FlatProgram) (X : Inputs) (clocks : List Clock) (inputs : List InputPlace)
    (memories : List ℕ) (steps : List Equation) (before : List Cell) (t : ℕ)
    (h : IsEvaluating f X clocks inputs memories steps before t) where
  module _ (lt : t < length X) (with_inputs row : List Cell)
      (read : map cell_of with_inputs
      ≡ filled (get_or X t []) (map cell_of before) (map place_equation inputs))
      (computed : map cell_of row
      ≡ filled [] (map cell_of with_inputs) (map (equation_of clocks) steps)) where
    is_row : map cell_of row ≡ row_of f.size h.equations (get_or X t [])
    is_row =
        computed
        ∙ ap₂ (filled []) (read ∙ ap (filled (get_or X t []) (map cell_of before)) h.inputs_are)
        h.steps_are
        ∙ instant_row (get_or X t []) f.size h.equations (map cell_of before) h.in_order
        (length-map before cell_of ∙ h.as_long) h.fixed

    -- the verdict of the instants after this one
    abbrev later : Verdict
    later =
        rows_judged f (suc t)
        (run f.size (map (advanced (map cell_of row)) h.equations) (drop (suc t) X))

    now_or_later : or_later (row_judged f t (map cell_of row)) later ≡ flat_verdict f X
    now_or_later =
        ap (λ r. or_later (row_judged f t r)
        (rows_judged f (suc t) (run f.size (map (advanced r) h.equations) (drop (suc t) X))))
        is_row
        ∙ sym (ap (λ Z. rows_judged f t (run f.size h.equations Z)) (drop-cons X t [] lt))
        ∙ h.rest

    pub ends_with :
        (v : Verdict) → v ≡ row_judged f t (map cell_of row) → v ≢ Passed →
        v ≡ flat_verdict f X
    ends_with v e n = sym (later_is v later n) ∙ ap (λ w. or_later w later) e ∙ now_or_later

    pub goes_on :
        (after : List Equation) → All (IsWithin f.size clocks) after → length row ≡ f.size →
        map (equation_of clocks) after
        ≡ map (advanced (map cell_of row)) (map (equation_of clocks) steps) →
        Passed ≡ row_judged f t (map cell_of row) →
        IsEvaluating f X clocks inputs memories after row (t + 1)
    goes_on after within as_long e passed =
        let r = map cell_of row in
        record {
          equations = map (advanced r) h.equations;
          in_order = ready_advanced f.size r [] h.equations h.in_order;
          inputs_are = h.inputs_are ∙ sym (inputs_advanced r h.equations);
          steps_are = e ∙ ap (map (advanced r)) h.steps_are ∙ steps_advanced r h.equations;
          places_are =
              h.places_are ∙ sym (places_advanced r 0 (map (equation_of clocks) steps))
              ∙ ap (memory_places 0) (sym e);
          within = within;
          as_long = as_long;
          fixed =
              subst (λ s. AreFixed s (map (advanced r) h.equations)) (sym is_row)
              (fixed_stay (get_or X t []) f.size h.equations r h.in_order);
          rest =
              ap (λ n. rows_judged f n (run f.size (map (advanced r) h.equations) (drop n X)))
              (add-one t)
              ∙ ap (λ w. or_later w later) passed ∙ now_or_later;
        }
