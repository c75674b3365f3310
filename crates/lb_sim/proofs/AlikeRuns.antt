-- Two traces that are alike where their inputs are read have the same verdict.
use Rattle.std.proofs.Common.{◌≡◌, ◌+◌, ◌&&◌, ◌||◌, ◌++◌, ◌∷◌, ℕ, zero, suc, Bool, true, false}
use Rattle.std.proofs.Common.{List, [], Option, Some, None, map, set, replicate, refl, ap, ap₂, ◌∙◌}
use Rattle.std.proofs.Common.{subst, arith}
use Rattle.std.specs.Prelude.{slice_get}
use Rattle.lb_syntax.specs.Lists.{Every}
use Rattle.lb_check.specs.Scalars.{Scalar, Cell, one_scalar, two_scalars}
use Rattle.lb_check.specs.Solutions.{Inputs}
use Rattle.lb_check.specs.Streams.{held, newest, one_cell, sample, shows, two_cells}
use Rattle.lb_check.specs.Verdicts.{is_bad, is_false, is_nil, or_later}
use Rattle.lb_check.proofs.lists.Members.{Every-first, Every-second}
use Rattle.lb_flat.specs.Flat.{FlatClock, Always, Where, Operation, Input, Constant, Copy}
use Rattle.lb_flat.specs.Flat.{ApplyUnary, ApplyBinary, Choose, FirstThen, Previous, Latest, Sample}
use Rattle.lb_flat.specs.Flat.{FlatEquation}
use Rattle.lb_flat.specs.Judging.{FlatProgram, flat_verdict, named_elements, row_judged}
use Rattle.lb_flat.specs.Judging.{rows_judged, some_in, truth_elements}
use Rattle.lb_flat.specs.Run.{Row, advanced, cell, chosen_cell, clock_reads, filled, is_now, now}
use Rattle.lb_flat.specs.Run.{remembered, row_of, run, started_by}
use Rattle.lb_sim.specs.ReadInputs.{AreAlike, AreAllAlike, FindsClock, FindsOperands, IsLoadedFor}
use Rattle.lb_sim.specs.ReadInputs.{LoadsReads}
use Rattle.lb_sim.specs.Watching.{verdict_by}
use Rattle.lb_sim.specs.declared.place.Value.{Value}

module _ (read : ℕ → Bool) where
  -- ## Rows of cells

  -- two cells of an element are equal where it is read, and a fault both or none
  abbrev AreCellsAlike : Bool → Cell → Cell → Type 0
  AreCellsAlike r x y = (r ≡ true → x ≡ y) × (is_bad (Some x) ≡ is_bad (Some y))

  same_cells : (r : Bool) (x y : Cell) → x ≡ y → AreCellsAlike r x y
  same_cells r x y e = (λ _. e, ap (λ (z : Cell). is_bad (Some z)) e)

  -- two rows of cells are alike, from element `k` on
  abbrev AreRowsAlike : ℕ → Row → Row → Type 0
  AreRowsAlike k [] [] = Unit {0}
  AreRowsAlike k [] (y ∷ ys) = ⊥
  AreRowsAlike k (x ∷ xs) [] = ⊥
  AreRowsAlike k (x ∷ xs) (y ∷ ys) = AreCellsAlike (read k) x y × AreRowsAlike (suc k) xs ys

  none_alike : (n k : ℕ) → AreRowsAlike k (replicate n None) (replicate n None)
  none_alike zero k = tt
  none_alike (suc n) k = (same_cells (read k) None None refl, none_alike n (suc k))

  set_alike : (k : ℕ) (xs ys : Row) (i : ℕ) (v w : Cell) → AreRowsAlike k xs ys →
      AreCellsAlike (read (k + i)) v w → AreRowsAlike k (set xs i v) (set ys i w)
  set_alike k [] [] i v w h c = tt
  set_alike k [] (y ∷ ys) i v w h c = absurd h
  set_alike k (x ∷ xs) [] i v w h c = absurd h
  set_alike k (x ∷ xs) (y ∷ ys) zero v w h c =
      let e : k + 0 ≡ k = omega arith in
      (subst (λ n. AreCellsAlike (read n) v w) e c, h.1)
  set_alike k (x ∷ xs) (y ∷ ys) (suc i) v w h c =
      let e : k + suc i ≡ suc k + i = omega arith in
      (h.0, set_alike (suc k) xs ys i v w h.1 (subst (λ n. AreCellsAlike (read n) v w) e c))

  cells_from : (k : ℕ) (xs ys : Row) (i : ℕ) → AreRowsAlike k xs ys →
      AreCellsAlike (read (k + i)) (cell xs i) (cell ys i)
  cells_from k [] [] i h = same_cells (read (k + i)) None None refl
  cells_from k [] (y ∷ ys) i h = absurd h
  cells_from k (x ∷ xs) [] i h = absurd h
  cells_from k (x ∷ xs) (y ∷ ys) zero h =
      let e : k ≡ k + 0 = omega arith in subst (λ n. AreCellsAlike (read n) x y) e h.0
  cells_from k (x ∷ xs) (y ∷ ys) (suc i) h =
      let e : suc k + i ≡ k + suc i = omega arith in
      subst (λ n. AreCellsAlike (read n) (cell xs i) (cell ys i)) e
      (cells_from (suc k) xs ys i h.1)

  module _ (xs ys : Row) (h : AreRowsAlike 0 xs ys) where
    cells_alike : (i : ℕ) → AreCellsAlike (read i) (cell xs i) (cell ys i)
    cells_alike i =
        let e : 0 + i ≡ i = omega arith in
        subst (λ n. AreCellsAlike (read n) (cell xs i) (cell ys i)) e (cells_from 0 xs ys i h)

    found : (i : ℕ) → read i ≡ true → cell xs i ≡ cell ys i
    found i = (cells_alike i).0

    ticks : (k : FlatClock) → Every (λ e. read e ≡ true) (clock_reads k) → is_now xs k ≡ is_now ys k
    ticks Always m = refl
    ticks (Where k i sign) m =
        ap₂ (λ (b : Bool) (x : Cell). b && shows sign x) (ticks k m.1) (found i m.0)

    -- both rows give a memory the same cell to take over
    remembered_same : (o : Operation) → FindsOperands read o → remembered xs o ≡ remembered ys o
    remembered_same (Input j) m = refl
    remembered_same (Constant v) m = refl
    remembered_same (Copy a) m = refl
    remembered_same (ApplyUnary op a) m = refl
    remembered_same (ApplyBinary op a b) m = refl
    remembered_same (Choose c a b) m = refl
    remembered_same (FirstThen started a b) m =
        ap (λ x. FirstThen (started_by started x) a b) (found a m.0)
    remembered_same (Previous v a) m = ap (λ x. Previous (newest v x) a) (found a m.0)
    remembered_same (Latest v a) m = ap (λ x. Latest (newest v x) a) (found a m.0)
    remembered_same (Sample a) m = refl

-- ## Equations

module _ (places : List Value) (numbers : List ℕ) (truths : Bool) (read : ℕ → Bool) where
  -- the elements that an equation reads are found, and an input that is read is loaded
  record IsKnown (q : FlatEquation) : Type 0 where
    pub operands : FindsOperands read q.operation
    pub clock : Every (λ e. read e ≡ true) (clock_reads q.clock)
    pub loaded : IsLoadedFor (read q.element) places numbers truths q.operation

  operands_after : (xs : Row) (o : Operation) → FindsOperands read o →
      FindsOperands read (remembered xs o)
  operands_after xs (Input j) m = m
  operands_after xs (Constant v) m = m
  operands_after xs (Copy a) m = m
  operands_after xs (ApplyUnary op a) m = m
  operands_after xs (ApplyBinary op a b) m = m
  operands_after xs (Choose c a b) m = m
  operands_after xs (FirstThen started a b) m = m
  operands_after xs (Previous v a) m = m
  operands_after xs (Latest v a) m = m
  operands_after xs (Sample a) m = m

  loaded_after : (xs : Row) (r : Bool) (o : Operation) → IsLoadedFor r places numbers truths o →
      IsLoadedFor r places numbers truths (remembered xs o)
  loaded_after xs r (Input j) m = m
  loaded_after xs r (Constant v) m = m
  loaded_after xs r (Copy a) m = m
  loaded_after xs r (ApplyUnary op a) m = m
  loaded_after xs r (ApplyBinary op a b) m = m
  loaded_after xs r (Choose c a b) m = m
  loaded_after xs r (FirstThen started a b) m = m
  loaded_after xs r (Previous v a) m = m
  loaded_after xs r (Latest v a) m = m
  loaded_after xs r (Sample a) m = m

  known_after : (xs : Row) (Q : List FlatEquation) → Every IsKnown Q →
      Every IsKnown (map (advanced xs) Q)
  known_after xs [] h = tt
  known_after xs (q ∷ Q) h = (
    record {
      operands = operands_after xs q.operation h.0.operands;
      clock = h.0.clock;
      loaded = loaded_after xs (read q.element) q.operation h.0.loaded;
    },
    known_after xs Q h.1,
  )

  -- both rows lead to the same equations
  advanced_same : (xs ys : Row) → AreRowsAlike read 0 xs ys → (Q : List FlatEquation) →
      Every IsKnown Q → map (advanced xs) Q ≡ map (advanced ys) Q
  advanced_same xs ys h [] m = refl
  advanced_same xs ys h (q ∷ Q) m =
      ap₂ (λ (o : Operation) (l : List FlatEquation). record q { operation = o } ∷ l)
      (remembered_same read xs ys h q.operation m.0.operands) (advanced_same xs ys h Q m.1)

  module _ (given other : List Scalar) (alike : AreAlike places numbers truths given other) where
    input_same : (j : ℕ) → IsLoadedFor true places numbers truths (Input j) →
        (o : Option Value) → slice_get places j ≡ o → slice_get given j ≡ slice_get other j
    input_same j l None e = alike.there j e
    input_same j l (Some v) e = alike.same j v e (l refl v e)

    input_alike : (r : Bool) (j : ℕ) → IsLoadedFor r places numbers truths (Input j) →
        AreCellsAlike read r (slice_get given j) (slice_get other j)
    input_alike r j l = (
      λ e.
          input_same j (subst (λ b. IsLoadedFor b places numbers truths (Input j)) e l)
          (slice_get places j) refl,
      alike.bad j,
    )

    module _ (xs ys : Row) (h : AreRowsAlike read 0 xs ys) (k : FlatClock)
        (clock : Every (λ e. read e ≡ true) (clock_reads k)) (r : Bool) where
      abbrev same : (x y : Cell) → x ≡ y → AreCellsAlike read r x y
      same = same_cells read r

      abbrev at : (i : ℕ) → read i ≡ true → cell xs i ≡ cell ys i
      at = found read xs ys h

      tick : is_now xs k ≡ is_now ys k
      tick = ticks read xs ys h k clock

      now_alike : (o : Operation) → FindsOperands read o → IsLoadedFor r places numbers truths o →
          AreCellsAlike read r (now given xs k o) (now other ys k o)
      now_alike (Input j) m l = input_alike r j l
      now_alike (Constant v) m l = same _ _ (ap (held v) tick)
      now_alike (Copy a) m l = same _ _ (at a m.0)
      now_alike (ApplyUnary op a) m l = same _ _ (ap (one_cell (one_scalar op)) (at a m.0))
      now_alike (ApplyBinary op a b) m l =
          same _ _ (ap₂ (two_cells (two_scalars op)) (at a m.0) (at b m.1.0))
      now_alike (Choose c a b) m l =
          same _ _
          (ap₂ (λ x y. chosen_cell x y (cell xs b)) (at c m.0) (at a m.1.0)
          ∙ ap (chosen_cell (cell ys c) (cell ys a)) (at b m.1.1.0))
      now_alike (FirstThen false a b) m l = same _ _ (at a m.0)
      now_alike (FirstThen true a b) m l = same _ _ (at b m.1.0)
      now_alike (Previous v a) m l = same _ _ (ap (held v) tick)
      now_alike (Latest v a) m l =
          same _ _ (ap₂ (λ x b. held (newest v x) b) (at a m.0) tick)
      now_alike (Sample a) m l = same _ _ (ap₂ sample tick (at a m.0))

    filled_alike : (Q : List FlatEquation) → Every IsKnown Q → (xs ys : Row) →
        AreRowsAlike read 0 xs ys → AreRowsAlike read 0 (filled given xs Q) (filled other ys Q)
    filled_alike [] m xs ys h = h
    filled_alike (q ∷ Q) m xs ys h =
        let e : q.element ≡ 0 + q.element = omega arith in
        filled_alike Q m.1 _ _
        (set_alike read 0 xs ys q.element _ _ h
        (subst
        (λ n. AreCellsAlike read (read n) (now given xs q.clock q.operation)
        (now other ys q.clock q.operation)) e
        (now_alike xs ys h q.clock m.0.clock (read q.element) q.operation m.0.operands
        m.0.loaded)))

    row_alike : (size : ℕ) (Q : List FlatEquation) → Every IsKnown Q →
        AreRowsAlike read 0 (row_of size Q given) (row_of size Q other)
    row_alike size Q m = filled_alike Q m _ _ (none_alike read size 0)

-- ## Verdicts

module _ (f : FlatProgram) (read : ℕ → Bool)
    (wanted : Every (λ e. read e ≡ true) (truth_elements f)) where
  every_some : (test : Option Cell → Bool) (xs ys : Row) (is : List ℕ) →
      ((i : ℕ) → read i ≡ true → cell xs i ≡ cell ys i) → Every (λ e. read e ≡ true) is →
      some_in test xs is ≡ some_in test ys is
  every_some test xs ys [] h m = refl
  every_some test xs ys (i ∷ is) h m =
      ap₂ (λ (a b : Bool). a || b) (ap (λ (x : Cell). test (Some x)) (h i m.0))
      (every_some test xs ys is h m.1)

  bad_some : (xs ys : Row) → AreRowsAlike read 0 xs ys → (is : List ℕ) →
      some_in is_bad xs is ≡ some_in is_bad ys is
  bad_some xs ys h [] = refl
  bad_some xs ys h (i ∷ is) =
      ap₂ (λ (a b : Bool). a || b) (cells_alike read xs ys h i).1 (bad_some xs ys h is)

  asserted_and : Every (λ e. read e ≡ true) (f.asserted ++ f.property ∷ [])
  asserted_and = Every-second (λ e. read e ≡ true) f.clock_elements _ wanted

  judged_same : (t : ℕ) (xs ys : Row) → AreRowsAlike read 0 xs ys →
      row_judged f t xs ≡ row_judged f t ys
  judged_same t xs ys h =
      let at = found read xs ys h in
      ap₂
      (λ a b. verdict_by t a b (some_in is_false xs f.asserted)
      (some_in is_false xs (f.property ∷ [])))
      (bad_some xs ys h (named_elements f)) (every_some is_nil xs ys (truth_elements f) at wanted)
      ∙ ap₂
      (λ a b. verdict_by t (some_in is_bad ys (named_elements f))
      (some_in is_nil ys (truth_elements f)) a b)
      (every_some is_false xs ys f.asserted at
      (Every-first (λ e. read e ≡ true) f.asserted (f.property ∷ []) asserted_and))
      (every_some is_false xs ys (f.property ∷ []) at
      (Every-second (λ e. read e ≡ true) f.asserted (f.property ∷ []) asserted_and))

  module _ (places : List Value) (numbers : List ℕ) (truths : Bool) (size : ℕ) where
    rows_same : (t : ℕ) (Q : List FlatEquation) →
        Every (IsKnown places numbers truths read) Q → (X Y : Inputs) →
        AreAllAlike places numbers truths X Y →
        rows_judged f t (run size Q X) ≡ rows_judged f t (run size Q Y)
    rows_same t Q m [] [] h = refl
    rows_same t Q m [] (other ∷ Y) h = absurd h
    rows_same t Q m (given ∷ X) [] h = absurd h
    rows_same t Q m (given ∷ X) (other ∷ Y) h =
        let xs = row_of size Q given in
        let ys = row_of size Q other in
        let rows = row_alike places numbers truths read given other h.0 size Q m in
        ap₂ or_later (judged_same t xs ys rows)
        (rows_same (suc t) (map (advanced xs) Q)
        (known_after places numbers truths read xs Q m) X Y h.1
        ∙ ap (λ P. rows_judged f (suc t) (run size P Y))
        (advanced_same places numbers truths read xs ys rows Q m))

all_known : (places : List Value) (numbers : List ℕ) (truths : Bool) (read : ℕ → Bool)
    (Q : List FlatEquation) → Every (λ q. FindsOperands read q.operation) Q →
    Every (FindsClock read) Q →
    Every (λ (q : FlatEquation). IsLoadedFor (read q.element) places numbers truths q.operation) Q →
    Every (IsKnown places numbers truths read) Q
all_known places numbers truths read [] operands clocks loads = tt
all_known places numbers truths read (q ∷ Q) operands clocks loads = (
  record { operands = operands.0; clock = clocks.0; loaded = loads.0 },
  all_known places numbers truths read Q operands.1 clocks.1 loads.1,
)

-- two traces that are alike where inputs are loaded have one verdict
pub verdict_alike :
    (f : FlatProgram) (places : List Value) (numbers : List ℕ) (truths : Bool) →
    LoadsReads f places numbers truths → (X Y : Inputs) → AreAllAlike places numbers truths X Y →
    flat_verdict f X ≡ flat_verdict f Y
verdict_alike f places numbers truths h X Y alike =
    rows_same f h.read h.finds.truths places numbers truths f.size 0 f.equations
    (all_known places numbers truths h.read f.equations h.finds.operands h.finds.clocks h.loads)
    X Y alike
