-- No memory is a fault in a lane whose trace has passed, since its operand is a named place.
use Rattle.std.proofs.Common.{◌≡◌, ◌≢◌, ℕ, suc, ◌+◌, ◌<◌, Bool, false, Option, Some}
use Rattle.std.proofs.Common.{None, List, [], ◌∷◌, ◌++◌, map, length, flat_map, refl, sym, ◌∙◌}
use Rattle.std.proofs.Common.{subst, arith}
use Rattle.std.proofs.lemmas.List.Folds.{list_any-append}
use Rattle.std.specs.List.{list_any}
use Rattle.std.specs.Prelude.{◌||◌, slice_get}
use Rattle.lb_syntax.specs.Lists.{Every, some_of, listed}
use Rattle.lb_syntax.proofs.TruthValues.{or_first, or_second}
use Rattle.lb_syntax.proofs.ListPlaces.{heads_same, tails_same}
use Rattle.lb_syntax.specs.Tree.{Expr, Literal, Truth, Variable, Group, Unary, Binary, If, Arrow}
use Rattle.lb_syntax.specs.Tree.{Fby, Pre, Current, When, Replicate, Index, Slice, Join, Array}
use Rattle.lb_syntax.specs.Tree.{AtMostOne, Nor, Call, Iterate}
use Rattle.lb_static.specs.Instances.{Program, Instance, instances}
use Rattle.lb_static.specs.DataTypes.{input_kinds}
use Rattle.lb_check.specs.Clocks.{Clock, clock_of, clock_or}
use Rattle.lb_check.specs.Occurrences.{Occurrence, at, call_count, node_occurrences}
use Rattle.lb_check.specs.Scalars.{Scalar, Integer, Boolean, Nil, Bad, Cell, Stream}
use Rattle.lb_check.specs.Solutions.{Inputs, streams_at}
use Rattle.lb_check.specs.Streams.{History, newest}
use Rattle.lb_check.specs.Verdicts.{Ends, is_bad, is_fault, is_undefined, is_failed, is_violated}
use Rattle.lb_check.specs.Verdicts.{some_at, operand_of, memory_operand, memory_columns}
use Rattle.lb_check.specs.Verdicts.{variable_columns, assertion_columns}
use Rattle.lb_check.specs.declared.verdict.Verdict.TheVariants.{Passed}
use Rattle.lb_flat.specs.Flat.{Operation, column}
use Rattle.lb_flat.specs.FlatPrograms.{IsFlatOf}
use Rattle.lb_flat.specs.FlatSolutions.{IsFlatSolution}
use Rattle.lb_flat.specs.Flattening.{history_of, IsTrace}
use Rattle.lb_flat.specs.TemporaryKinds.{kind_among}
use Rattle.lb_flat.specs.Judging.{FlatProgram, flat_verdict}
use Rattle.lb_flat.specs.MemoryPlaces.{HasMemories, KeepsOperand, newest_of}
use Rattle.lb_flat.specs.NumberedLayouts.{layout}
use Rattle.lb_flat.specs.Run.{Ready, run, streams_of}
use Rattle.lb_flat.proofs.{lists.Lists.column_long, runs.Judging.flat_ends}
use Rattle.lb_machine.specs.Meaning.{Lane}
use Rattle.lb_sim.specs.Showing.{scalar_at}
use Rattle.lb_sim.specs.SoundMemories.{NoneIsFault, KeepsNoFault, EachKeepsNoFault, AllKeepNoFault}
use Rattle.lb_sim.specs.States.{kept_at, IsStateAfter}
use Rattle.lb_sim.specs.declared.place.Holding.{Holding}
use Rattle.lb_sim.proofs.Promised.{memories_held, solution}

-- ## A memory

newest_sound : (v : Scalar) (x : Cell) → v ≢ Bad → is_bad (Some x) ≡ false → newest v x ≢ Bad
newest_sound v None good e = good
newest_sound v (Some (Integer n)) good e = λ bad. cc bad
newest_sound v (Some (Boolean b)) good e = λ bad. cc bad
newest_sound v (Some Nil) good e = λ bad. cc bad
newest_sound v (Some Bad) good e = absurd (cc e)

stream_sound :
    (v : Scalar) (xs : Stream) → v ≢ Bad →
    ((t : ℕ) → t < length xs → is_bad (slice_get xs t) ≡ false) → newest_of v xs ≢ Bad
stream_sound v [] good none = good
stream_sound v (x ∷ xs) good none =
    stream_sound (newest v x) xs (newest_sound v x good (none 0 (omega arith)))
    (λ t lt. none (suc t) (omega (arith, lt)))

-- memories are no faults, if they hold the newest scalars of streams without a fault
places_sound :
    (memory : ℕ → Scalar) (n : ℕ) (places : List ℕ) (xss : List Stream) →
    map memory places ≡ map (newest_of Nil) xss → Every (λ xs. length xs ≡ n) xss →
    ((t : ℕ) → t < n → some_at is_bad t xss ≡ false) → Every (λ e. memory e ≢ Bad) places
places_sound memory n [] xss e long none = tt
places_sound memory n (p ∷ places) [] e long none = absurd (cc e)
places_sound memory n (p ∷ places) (xs ∷ xss) e long none =
    let nil : Nil ≢ Bad = λ same. cc same in
    let good : newest_of Nil xs ≢ Bad =
    stream_sound Nil xs nil
    (λ t lt. or_first (is_bad (slice_get xs t)) (some_at is_bad t xss)
    (none t (omega (arith, lt, long.0)))) in (
      λ bad. good (sym (heads_same _ _ (map memory places) (map (newest_of Nil) xss) e) ∙ bad),
      places_sound memory n places xss
          (tails_same _ _ (map memory places) (map (newest_of Nil) xss) e) long.1
          (λ t lt. or_second (is_bad (slice_get xs t)) (some_at is_bad t xss) (none t lt)),
    )

columns_long :
    (X : Inputs) (F : List Stream) → ((i : ℕ) → length (column X F i) ≡ length X) →
    (is : List ℕ) → Every (λ xs. length xs ≡ length X) (map (column X F) is)
columns_long X F long [] = tt
columns_long X F long (i ∷ is) = (long i, columns_long X F long is)

-- ## Streams side by side

-- no stream of the first part of a list passes a test, if none of the list does
none_first :
    (test : Stream → Bool) (xs ys : List Stream) → list_any test (xs ++ ys) ≡ false →
    list_any test xs ≡ false
none_first test xs ys e =
    or_first (list_any test xs) (list_any test ys) (sym (list_any-append test xs ys) ∙ e)

none_second :
    (test : Stream → Bool) (xs ys : List Stream) → list_any test (xs ++ ys) ≡ false →
    list_any test ys ≡ false
none_second test xs ys e =
    or_second (list_any test xs) (list_any test ys) (sym (list_any-append test xs ys) ∙ e)

module _ (test : Stream → Bool) (g : Occurrence → List Stream) where
  head_none :
      (o : Option Occurrence) (os : List (Option Occurrence)) →
      list_any test (flat_map g (some_of (o ∷ os))) ≡ false → list_any test (listed g o) ≡ false
  head_none None os e = refl
  head_none (Some a) os e = none_first test (g a) (flat_map g (some_of os)) e

  tail_none :
      (o : Option Occurrence) (os : List (Option Occurrence)) →
      list_any test (flat_map g (some_of (o ∷ os))) ≡ false →
      list_any test (flat_map g (some_of os)) ≡ false
  tail_none None os e = e
  tail_none (Some a) os e = none_second test (g a) (flat_map g (some_of os)) e

-- ## The memories of a program

module _ (P : Program) (f : FlatProgram) (flat : IsFlatOf P f) (ready : Ready f.size [] f.equations)
    (kept : List Holding) (s : Lane) (X : Inputs) (trace : IsTrace P X)
    (state : IsStateAfter f kept s X) where
  abbrev own : List Stream
  own = streams_of f.size (run f.size f.equations X)

  abbrev memory : ℕ → Scalar
  memory e = scalar_at s (kept_at kept e)

  abbrev H : History
  H = history_of (layout P) X own

  own_solution : IsFlatSolution (input_kinds P) (kind_among f.kinds) f X own
  own_solution = solution P f flat ready kept s X trace state

  operand_sound :
      (here : Instance) (k : Clock) (a : Occurrence) (o : ℕ → Operation)
      (h : KeepsOperand P (layout P) (kind_among f.kinds) f here k a o) →
      map memory h.places ≡ map (newest_of Nil) (streams_at P H here a) →
      ((t : ℕ) → t < length X → some_at is_bad t (streams_at P H here a) ≡ false) →
      NoneIsFault P (layout P) (kind_among f.kinds) f memory h.places
  operand_sound here k a o h held none =
      places_sound memory (length X) h.places (streams_at P H here a) held
      (subst (Every (λ xs. length xs ≡ length X)) (h.streams X own own_solution)
      (columns_long X own (column_long X own own_solution.equations.as_long) h.operands))
      none

  abbrev Sound : Instance → Clock → ℕ → Expr → Type 0
  Sound here k n e =
      (h : HasMemories P (layout P) (kind_among f.kinds) f here k n e) →
      ((t : ℕ) → t < length X →
      some_at is_bad t (listed (streams_at P H here) (operand_of P here k n e)) ≡ false) →
      KeepsNoFault P (layout P) (kind_among f.kinds) f memory here k n e h

  operator_sound : (here : Instance) (k : Clock) (n : ℕ) (e : Expr) → Sound here k n e
  operator_sound here k n (Pre a) h none =
      operand_sound here k (at k n a) _ h
      (memories_held P f flat ready kept s X trace state here k n (Pre a) h) none
  operator_sound here k n (Current a) h none =
      operand_sound here k (at (clock_or (clock_of P here.node a)) n a) _ h
      (memories_held P f flat ready kept s X trace state here k n (Current a) h) none
  operator_sound here k n (Fby a b) h none =
      operand_sound here k (at k (n + call_count a) b) _ h.0
      (memories_held P f flat ready kept s X trace state here k n (Fby a b) h).0 none
  operator_sound here k n (Arrow a b) h none = tt
  operator_sound here k n (Literal m) h none = tt
  operator_sound here k n (Truth b) h none = tt
  operator_sound here k n (Variable x) h none = tt
  operator_sound here k n (Group a) h none = tt
  operator_sound here k n (Unary op a) h none = tt
  operator_sound here k n (Binary op a b) h none = tt
  operator_sound here k n (If c a b) h none = tt
  operator_sound here k n (When a x sign) h none = tt
  operator_sound here k n (Replicate a m) h none = tt
  operator_sound here k n (Index a i) h none = tt
  operator_sound here k n (Slice a i j) h none = tt
  operator_sound here k n (Join a b) h none = tt
  operator_sound here k n (Array es) h none = tt
  operator_sound here k n (AtMostOne es) h none = tt
  operator_sound here k n (Nor es) h none = tt
  operator_sound here k n (Call g statics es) h none = tt
  operator_sound here k n (Iterate it node m es) h none = tt

  each_sound :
      (here : Instance) (os : List Occurrence)
      (h : Every (λ o.
      HasMemories P (layout P) (kind_among f.kinds) f here o.clock o.calls_before o.expr) os) →
      ((t : ℕ) → t < length X →
      some_at is_bad t
      (flat_map (streams_at P H here) (some_of (map (memory_operand P here) os))) ≡ false) →
      EachKeepsNoFault P (layout P) (kind_among f.kinds) f memory here os h
  each_sound here [] h none = tt
  each_sound here (o ∷ os) h none = (
    operator_sound here o.clock o.calls_before o.expr h.0
        (λ t lt.
        head_none (λ xs. is_bad (slice_get xs t)) (streams_at P H here)
        (memory_operand P here o) (map (memory_operand P here) os) (none t lt)),
    each_sound here os h.1
        (λ t lt.
        tail_none (λ xs. is_bad (slice_get xs t)) (streams_at P H here)
        (memory_operand P here o) (map (memory_operand P here) os) (none t lt)),
  )

  abbrev none_named : ℕ → Instance → Bool
  none_named t here =
      some_at is_bad t
      (variable_columns H here ++ (memory_columns P H here ++ assertion_columns P H here))

  all_sound :
      (is : List Instance)
      (h : Every (λ here.
      Every (λ o.
      HasMemories P (layout P) (kind_among f.kinds) f here o.clock o.calls_before o.expr)
      (node_occurrences P here.node)) is) →
      ((t : ℕ) → t < length X → list_any (none_named t) is ≡ false) →
      AllKeepNoFault P (layout P) (kind_among f.kinds) f memory is h
  all_sound [] h none = tt
  all_sound (here ∷ is) h none = (
    each_sound here (node_occurrences P here.node) h.0
        (λ t lt.
        none_first (λ xs. is_bad (slice_get xs t)) (memory_columns P H here)
        (assertion_columns P H here)
        (none_second (λ xs. is_bad (slice_get xs t)) (variable_columns H here)
        (memory_columns P H here ++ assertion_columns P H here)
        (or_first (none_named t here) (list_any (none_named t) is) (none t lt)))),
    all_sound is h.1
        (λ t lt. or_second (none_named t here) (list_any (none_named t) is) (none t lt)),
  )

  own_ends : Ends P H (length X) (flat_verdict f X)
  own_ends =
      flat_ends P f X own H ready own_solution.equations
      (flat.watched X own
      (subst (λ l. IsFlatSolution l (kind_among f.kinds) f X own) (sym flat.signature)
      own_solution))

  -- where the trace has passed, no memory is a fault
  pub memories_sound :
      flat_verdict f X ≡ Passed →
      AllKeepNoFault P (layout P) (kind_among f.kinds) f memory (instances P) flat.memories
  memories_sound passed =
      let none : Ends P H (length X) Passed = subst (Ends P H (length X)) passed own_ends in
      all_sound (instances P) flat.memories
      (λ t lt.
      or_first (is_fault P H t) (is_undefined P H t || (is_failed P H t || is_violated P H t))
      (none t lt))
