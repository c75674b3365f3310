-- The invariants of the loops that evaluate and prepare a program.
use Rattle.lb_flat.proofs.Words
use Words.{◌≡◌, ◌<◌, ◌≤◌, ℕ, zero, suc, ◌+◌, ◌-◌, true, false, ◌&&◌, ◌||◌, Option, Some, None, List}
use Words.{[], ◌∷◌, length, map, drop, set, get_or, refl, sym, ap, ◌∙◌, subst, arith, All, add-one}
use Words.{length-set, drop-cons, range_with_len, slice_get-get_or, drop_of_length-le, get_or-map}
use Words.{length-map, Every, is_bad, some_in, shows, Row, cell, is_now, now, filled, remembered}
use Words.{advanced, reads, keeps, ClockId, IsClock, AreClocks, IsWithin, FlatEquation}
use Words.{memory_places, cell_of, clock_within, clock_of, operation_of, equation_of, Bool, cond}
use Words.{◌++◌, append-nil, filter, All-push, InputPlace, is_input, is_fixed, is_step, has_memory}
use Words.{on_base, inputs_in, steps_in, fixed_in, place_equation, not, append_assoc, Cell, Clock}
use Rattle.std.proofs.{Math.Bool.{and-false, and-true}, lemmas.List.{map_push, Elements.All-set}}
use Rattle.lb_flat.specs.declared.equation.{Equation.Equation, InputId.InputId, Operation.Operation}
use Rattle.lb_flat.specs.declared.equation.Operation.TheVariants.{Input}
use Rattle.lb_flat.proofs.runs.Evaluating.{moved, all_moved, moved_is, memories_moved}
use Rattle.lb_flat.proofs.runs.{Evaluating.{places_within, every_at, by_test}, Running.reads_same}
use Rattle.lb_flat.proofs.runs.Running.{keeps_same}
use Rattle.lb_check.specs.Scalars as scalars

-- The invariants of the evaluator's loops: what one pass of each loop keeps.

-- ## Clocks

-- a clock is now exactly where its parent clock is now and its element shows its sign
pub is_now_step :
    (row : Row) (clocks : List Clock) (n : ℕ) (id : ClockId) (d : Clock) → id.0 < length clocks →
    is_now row (clock_within (suc n) clocks (Some id))
    ≡ (is_now row (clock_within n clocks (get_or clocks id.0 d).parent)
    && shows (get_or clocks id.0 d).sign (cell row (get_or clocks id.0 d).element.0))
is_now_step row clocks n id d lt = cc (slice_get-get_or clocks id.0 d lt)

base_is_now :
    (row : Row) (clocks : List Clock) (n : ℕ) → is_now row (clock_within n clocks None) ≡ true
base_is_now row clocks zero = refl
base_is_now row clocks (suc n) = refl

all_is_now :
    (row : Row) (clocks : List Clock) (rest : Option ClockId) →
    is_now row (clock_within 0 clocks rest) ≡ true
all_is_now row clocks None = refl
all_is_now row clocks (Some id) = refl

module _ (row : Row) (clocks : List Clock) (clock rest : Option ClockId) (depth : ℕ)
    (same : (n : ℕ) → n + depth ≡ length clocks →
    is_now row (clock_within n clocks rest) ≡ is_now row (clock_of clocks clock)) where
  pub ends_base : depth < length clocks → rest ≡ None → true ≡ is_now row (clock_of clocks clock)
  ends_base lt e =
      let n = length clocks - depth in
      cc (base_is_now row clocks n, same n (omega arith))

  pub ends_past : length clocks ≤ depth → depth ≤ length clocks →
      true ≡ is_now row (clock_of clocks clock)
  ends_past le ge = sym (all_is_now row clocks rest) ∙ same 0 (omega arith)

  module _ (id : ClockId) (d : Clock) (e : rest ≡ Some id) (in_table : IsClock clocks rest)
      (lt : depth < length clocks) where
    within : id.0 < length clocks
    within = in_table id e

    above :
        (n : ℕ) → n + (depth + 1) ≡ length clocks →
        (is_now row (clock_within n clocks (get_or clocks id.0 d).parent)
        && shows (get_or clocks id.0 d).sign (cell row (get_or clocks id.0 d).element.0))
        ≡ is_now row (clock_of clocks clock)
    above n count = cc (is_now_step row clocks n id d within, same (suc n) (omega arith))

    pub ends_hidden :
        shows (get_or clocks id.0 d).sign (cell row (get_or clocks id.0 d).element.0) ≡ false →
        false ≡ is_now row (clock_of clocks clock)
    ends_hidden hidden =
        let n = length clocks - (depth + 1) in
        let b = is_now row (clock_within n clocks (get_or clocks id.0 d).parent) in
        sym (ap (λ c. b && c) hidden ∙ and-false b) ∙ above n (omega arith)

    pub parent_in_table :
        (size : ℕ) → AreClocks size clocks → IsClock clocks (get_or clocks id.0 d).parent
    parent_in_table size table = (table id.0 d within).parent

    pub goes_on :
        shows (get_or clocks id.0 d).sign (cell row (get_or clocks id.0 d).element.0) ≡ true →
        (n : ℕ) → n + (depth + 1) ≡ length clocks →
        is_now row (clock_within n clocks (get_or clocks id.0 d).parent)
        ≡ is_now row (clock_of clocks clock)
    goes_on shown n count =
        let b = is_now row (clock_within n clocks (get_or clocks id.0 d).parent) in
        sym (ap (λ c. b && c) shown ∙ and-true b) ∙ above n count

-- ## Computing

here_is :
    {A : Type 0} (i : ℕ) (d : A) (xs : List A) → i < length xs →
    drop i xs ≡ get_or xs i d ∷ drop (i + 1) xs
here_is i d xs lt = rw (add-one, drop-cons xs i d)

-- filling `row` by the equations from `i` on gives what filling `first` by all of them gives
pub record IsFilling {A : Type 0} (f : A → FlatEquation) (given : List scalars.Scalar)
    (row first : List Cell) (all : List A) (i : ℕ) : Type 0 where
  pub as_long : length row ≡ length first
  pub rest :
      filled given (map cell_of row) (map f (drop i all))
      ≡ filled given (map cell_of first) (map f all)

pub map-set :
    (row : List Cell) (k : ℕ) (c : Cell) →
    map cell_of (set row k c) ≡ set (map cell_of row) k (cell_of c)
map-set [] k c = refl
map-set (x ∷ row) zero c = refl
map-set (x ∷ row) (suc k) c = ap (λ xs. cell_of x ∷ xs) (map-set row k c)

pub fill_step :
    {A : Type 0} (f : A → FlatEquation) (given : List scalars.Scalar) (row first : List Cell)
    (all : List A) (i : ℕ) (d : A) (c : Cell) → i < length all →
    IsFilling f given row first all i →
    cell_of c
    ≡ now given (map cell_of row) (f (get_or all i d)).clock (f (get_or all i d)).operation →
    IsFilling f given (set row (f (get_or all i d)).element c) first all (i + 1)
fill_step f given row first all i d c lt h is_c =
    let q = f (get_or all i d) in
    record {
      as_long = length-set row q.element c ∙ h.as_long;
      rest = cc (here_is i d all lt, map-set row q.element c, h.rest);
    }

pub all_filled :
    {A : Type 0} (f : A → FlatEquation) (given : List scalars.Scalar) (row first : List Cell)
    (all : List A) (i : ℕ) → length all ≤ i → IsFilling f given row first all i →
    map cell_of row ≡ filled given (map cell_of first) (map f all)
all_filled f given row first all i le h = cc (drop_of_length-le all le, h.rest)

-- ## Committing

-- moving on the memories of `steps` from place `i` on gives what moving on all of `first` gives
pub record IsCommitting (clocks : List Clock) (row : List Cell) (steps first : List Equation)
    (places : List ℕ) (i : ℕ) : Type 0 where
  pub rest :
      all_moved (map cell_of row) (drop i places) (map (equation_of clocks) steps)
      ≡ all_moved (map cell_of row) places (map (equation_of clocks) first)

module _ (clocks : List Clock) (row : List Cell) (steps : List Equation) (n : ℕ) (d : Equation)
    (o : Operation) (there : n < length steps)
    (is_o : operation_of o
    ≡ remembered (map cell_of row) (operation_of (get_or steps n d).operation)) where
  -- the equation with its memory moved on
  abbrev moved_on : Equation
  moved_on = record (get_or steps n d) { operation = o }

  pub within_step :
      (size : ℕ) → All (IsWithin size clocks) steps →
      All (IsWithin size clocks) (set steps n moved_on)
  within_step size w =
      let h = w n d there in
      let before = operation_of (get_or steps n d).operation in
      All-set (IsWithin size clocks) steps n moved_on (record {
        element = h.element;
        clock = h.clock;
        operands = rw (ap reads is_o ∙ reads_same (map cell_of row) before) h.operands;
        memory_operands =
            rw (ap keeps is_o ∙ keeps_same (map cell_of row) before) h.memory_operands;
      }) w

  pub commit_step :
      (first : List Equation) (places : List ℕ) (i : ℕ) → i < length places →
      n ≡ get_or places i 0 → IsCommitting clocks row steps first places i →
      IsCommitting clocks row (set steps n moved_on) first places (i + 1)
  commit_step first places i lt at h = record {
    rest =
        ap (all_moved (map cell_of row) (drop (i + 1) places))
        (moved_is (map cell_of row) (equation_of clocks) steps n d moved_on there
        (ap (λ x. record {
          element = (get_or steps n d).element.0;
          clock = clock_of clocks (get_or steps n d).clock;
          operation = x;
        }) is_o)
        ∙ ap (λ k. moved (map cell_of row) k (map (equation_of clocks) steps)) at)
        ∙ sym (ap (λ ns. all_moved (map cell_of row) ns (map (equation_of clocks) steps))
        (here_is i 0 places lt))
        ∙ h.rest;
  }

-- each place of a memory is the place of a step
pub places_there :
    (clocks : List Clock) (steps : List Equation) (places : List ℕ) →
    places ≡ memory_places 0 (map (equation_of clocks) steps) →
    All (λ n. n < length steps) places
places_there clocks steps places e i d lt =
    let Q = map (equation_of clocks) steps in
    let within =
    every_at (λ k. k < 0 + length Q) places i d
    (subst (Every (λ k. k < 0 + length Q)) (sym e) (places_within 0 Q)) lt in
    omega (arith, within, length-map steps (equation_of clocks))

pub all_committed :
    (clocks : List Clock) (row : List Cell) (steps first : List Equation) (places : List ℕ)
    (i : ℕ) → places ≡ memory_places 0 (map (equation_of clocks) first) → length places ≤ i →
    IsCommitting clocks row steps first places i →
    map (equation_of clocks) steps
    ≡ map (advanced (map cell_of row)) (map (equation_of clocks) first)
all_committed clocks row steps first places i e le h =
    let Q = map (equation_of clocks) first in
    cc (drop_of_length-le places le, h.rest, memories_moved (map cell_of row) Q)

-- ## Judging

module _ (row : List Cell) (count i : ℕ) (in_row : count ≤ length row)
    (same : (n : ℕ) → i + n ≡ count →
    some_in is_bad (map cell_of row) (range_with_len i n)
    ≡ some_in is_bad (map cell_of row) (range_with_len 0 count)) where
  cell_is : (d : Cell) → i < count → cell (map cell_of row) i ≡ cell_of (get_or row i d)
  cell_is d lt = get_or-map cell_of row i d None (omega arith)

  -- there is a fault exactly where the cell at `i` or one of the rest is a fault
  bad_or_rest :
      (d : Cell) → i < count → (n : ℕ) → i + 1 + n ≡ count →
      (is_bad (Some (cell_of (get_or row i d)))
      || some_in is_bad (map cell_of row) (range_with_len (i + 1) n))
      ≡ some_in is_bad (map cell_of row) (range_with_len 0 count)
  bad_or_rest d lt n e = cc (cell_is d lt, same (suc n) (omega arith))

  pub finds_bad :
      (d : Cell) → i < count → is_bad (Some (cell_of (get_or row i d))) ≡ true →
      true ≡ some_in is_bad (map cell_of row) (range_with_len 0 count)
  finds_bad d lt bad =
      let n = count - (i + 1) in
      cc (bad_or_rest d lt n (omega arith))

  pub looks_on :
      (d : Cell) → i < count → is_bad (Some (cell_of (get_or row i d))) ≡ false →
      (n : ℕ) → i + 1 + n ≡ count →
      some_in is_bad (map cell_of row) (range_with_len (i + 1) n)
      ≡ some_in is_bad (map cell_of row) (range_with_len 0 count)
  looks_on d lt good n e = cc (bad_or_rest d lt n e)

  pub finds_none :
      count ≤ i → i ≤ count →
      false ≡ some_in is_bad (map cell_of row) (range_with_len 0 count)
  finds_none le ge = same 0 (omega arith)

-- One more equation of a program is put among its inputs, its steps or its constants.

-- ## Selecting

-- the equations before index `i` are put apart: with the inputs and the steps among the rest, they
-- give all inputs and all steps
pub record AreApart (size : ℕ) (clocks : List Clock) (qs : List Equation) (i : ℕ)
    (inputs : List InputPlace) (steps : List Equation) (memories : List ℕ) : Type 0 where
  pub inputs_are :
      map place_equation inputs ++ inputs_in (map (equation_of clocks) (drop i qs))
      ≡ inputs_in (map (equation_of clocks) qs)
  pub places : All (λ p. p.element.0 < size) inputs
  pub steps_are :
      map (equation_of clocks) steps ++ steps_in (map (equation_of clocks) (drop i qs))
      ≡ steps_in (map (equation_of clocks) qs)
  pub within : All (IsWithin size clocks) steps
  pub memories_are : memories ≡ memory_places 0 (map (equation_of clocks) steps)

-- the place `n` of one more equation, if it has a memory
abbrev place_of_memory : Bool → ℕ → List ℕ
place_of_memory b n = cond b (n ∷ []) []

memory_places_more : (n : ℕ) (Q : List FlatEquation) (q : FlatEquation) →
    memory_places n (Q ++ q ∷ [])
    ≡ memory_places n Q ++ place_of_memory (has_memory q.operation) (n + length Q)
memory_places_more n [] q = ap (place_of_memory (has_memory q.operation)) (omega arith)
memory_places_more n (p ∷ Q) q =
    let place : suc n + length Q ≡ n + suc (length Q) = omega arith in
    let rest = memory_places_more (suc n) Q q
    ∙ ap (λ k. memory_places (suc n) Q ++ place_of_memory (has_memory q.operation) k) place in
    by_test (has_memory p.operation) (λ yes. rw yes (ap (λ ks. n ∷ ks) rest)) (λ no. rw no rest)

pub one_memory_more : (memories more : List ℕ) (b : Bool) (n k : ℕ) → b ≡ true → k ≡ n →
    more ≡ memories ++ k ∷ [] → more ≡ memories ++ place_of_memory b n
one_memory_more memories more b n k e f g = cc

pub no_memory_more : (memories more : List ℕ) (b : Bool) (n : ℕ) → b ≡ false →
    more ≡ memories → more ≡ memories ++ place_of_memory b n
no_memory_more memories more b n e g = cc (append-nil memories)

-- `AreApart` holds of equal lists
pub apart_same :
    (size : ℕ) (clocks : List Clock) (qs : List Equation) (i : ℕ) (is js : List InputPlace)
    (ss ts : List Equation) (ms ns : List ℕ) → js ≡ is → ts ≡ ss → ns ≡ ms →
    AreApart size clocks qs i is ss ms → AreApart size clocks qs i js ts ns
apart_same size clocks qs i is js ss ts ms ns e f g h = rw (e, f, g) h

not_input : (o : Operation) → ((j : InputId) → o ≡ Input j → ⊥) → is_input (operation_of o) ≡ false
not_input (Input j) never = absurd (never j refl)
not_input _ never = refl

module _ (clocks : List Clock) (qs : List Equation) (i : ℕ) (d : Equation) (lt : i < length qs)
  where
    abbrev flat : List Equation → List FlatEquation
    flat rs = map (equation_of clocks) rs

    abbrev next : Equation
    next = get_or qs i d

    abbrev later : List Equation
    later = drop (i + 1) qs

    abbrev inputs_of : List Equation → List FlatEquation
    inputs_of rs = filter (λ q. is_input q.operation) (flat rs)

    -- the selected equations `Q` of the rest, behind the next equation where that is selected
    abbrev one_more : Bool → FlatEquation → List FlatEquation → List FlatEquation
    one_more b q Q = cond b (q ∷ Q) Q

    steps_here :
        (b : Bool) → is_step (equation_of clocks next) ≡ b →
        steps_in (flat (drop i qs)) ≡ one_more b (equation_of clocks next) (steps_in (flat later))
    steps_here b e = cc (here_is i d qs lt)

    inputs_here :
        (b : Bool) → is_input (operation_of next.operation) ≡ b →
        inputs_in (flat (drop i qs))
        ≡ one_more b (on_base (equation_of clocks next)) (inputs_in (flat later))
    inputs_here true e = cc (here_is i d qs lt)
    inputs_here false e = cc (here_is i d qs lt)

    later_place : (steps : List Equation) → length steps ≡ 0 + length (flat steps)
    later_place steps = omega (arith, length-map steps (equation_of clocks))

    module _ (size : ℕ) (inputs : List InputPlace) (steps : List Equation) (memories : List ℕ)
        (h : AreApart size clocks qs i inputs steps memories) where
      pub input_put :
          (j : InputId) → next.operation ≡ Input j → IsWithin size clocks next →
          AreApart size clocks qs (i + 1)
          (inputs ++ record { element = next.element; input = j } ∷ [])
          steps memories
      input_put j is within =
          let p : InputPlace = record { element = next.element; input = j } in
          let yes = ap (λ o. is_input (operation_of o)) is in
          let same : place_equation p ≡ on_base (equation_of clocks next) =
          sym (ap (λ o. on_base (equation_of clocks
          (record { element = next.element; clock = next.clock; operation = o }))) is) in
          record {
            inputs_are =
                ap (λ xs. xs ++ inputs_in (flat later)) (map_push place_equation inputs p)
                ∙ append_assoc (map place_equation inputs) (place_equation p ∷ [])
                (inputs_in (flat later))
                ∙ ap (λ x. map place_equation inputs ++ x ∷ inputs_in (flat later)) same
                ∙ ap (λ xs. map place_equation inputs ++ xs) (sym (inputs_here true yes))
                ∙ h.inputs_are;
            places = All-push (λ (p : InputPlace). p.element.0 < size) inputs p h.places
                within.element;
            steps_are =
                ap (λ xs. flat steps ++ xs) (sym (steps_here false
                (ap (λ b. not (b || is_fixed (clock_of clocks next.clock)
                (operation_of next.operation))) yes)))
                ∙ h.steps_are;
            within = h.within;
            memories_are = h.memories_are;
          }

      pub step_put :
          (more : List ℕ) → ((j : InputId) → next.operation ≡ Input j → ⊥) →
          is_step (equation_of clocks next) ≡ true → IsWithin size clocks next →
          more
          ≡ memories ++ place_of_memory (has_memory (operation_of next.operation)) (length steps) →
          AreApart size clocks qs (i + 1) inputs (steps ++ next ∷ []) more
      step_put more never e within grown = record {
        inputs_are =
            ap (λ xs. map place_equation inputs ++ xs)
            (sym (inputs_here false (not_input next.operation never))) ∙ h.inputs_are;
        places = h.places;
        steps_are =
            ap (λ xs. xs ++ steps_in (flat later)) (map_push (equation_of clocks) steps next)
            ∙ append_assoc (flat steps) (equation_of clocks next ∷ []) (steps_in (flat later))
            ∙ ap (λ xs. flat steps ++ xs) (sym (steps_here true e)) ∙ h.steps_are;
        within = All-push (IsWithin size clocks) steps next h.within within;
        memories_are =
            grown
            ∙ ap (λ ks. ks ++ place_of_memory (has_memory (operation_of next.operation))
            (length steps))
            h.memories_are
            ∙ ap (λ k. memory_places 0 (flat steps)
            ++ place_of_memory (has_memory (operation_of next.operation)) k)
            (later_place steps)
            ∙ sym (memory_places_more 0 (flat steps) (equation_of clocks next))
            ∙ ap (memory_places 0) (sym (map_push (equation_of clocks) steps next));
      }

      pub constant_passed_over :
          ((j : InputId) → next.operation ≡ Input j → ⊥) →
          is_step (equation_of clocks next) ≡ false →
          AreApart size clocks qs (i + 1) inputs steps memories
      constant_passed_over never e = record {
        inputs_are = cc (inputs_here false (not_input next.operation never), h.inputs_are);
        places = h.places;
        steps_are = cc (steps_here false e, h.steps_are);
        within = h.within;
        memories_are = h.memories_are;
      }

    fixed_here :
        (b : Bool) → is_fixed (clock_of clocks next.clock) (operation_of next.operation) ≡ b →
        fixed_in (flat (drop i qs)) ≡ one_more b (equation_of clocks next) (fixed_in (flat later))
    fixed_here b e = cc (here_is i d qs lt)

    pub constant_set :
        (row : List Cell) (c : Cell) (all : Row) →
        is_fixed (clock_of clocks next.clock) (operation_of next.operation) ≡ true →
        cell_of c
        ≡ now [] (map cell_of row) (clock_of clocks next.clock) (operation_of next.operation) →
        filled [] (map cell_of row) (fixed_in (flat (drop i qs))) ≡ all →
        filled [] (map cell_of (set row next.element.0 c)) (fixed_in (flat later)) ≡ all
    constant_set row c all e is h = cc (map-set row next.element.0 c, fixed_here true e)

    pub constant_passed :
        (row : List Cell) (all : Row) →
        is_fixed (clock_of clocks next.clock) (operation_of next.operation) ≡ false →
        filled [] (map cell_of row) (fixed_in (flat (drop i qs))) ≡ all →
        filled [] (map cell_of row) (fixed_in (flat later)) ≡ all
    constant_passed row all e h = cc (fixed_here false e)
