-- A flat program in order has one row at each instant and one solution on each trace.
use Rattle.lb_flat.proofs.Words
use Words.{◌≡◌, ℕ, zero, suc, true, false, ◌&&◌, Some, None, List, [], ◌∷◌, map, length, refl, sym}
use Words.{ap, ap₂, ◌∙◌, arith, Every, zip2, tail_of, Scalar, Stream, two_scalars, one_scalar}
use Words.{constantly, along, along_two, choice, previous, first_then, sample, latest, shows}
use Words.{first_cell, Inputs, FlatClock, Always, Where, Operation, Input, Constant, Copy}
use Words.{ApplyUnary, ApplyBinary, Choose, FirstThen, Previous, Latest, Sample, FlatEquation}
use Words.{column, instants, operate, Holds, AreLong, Row, cell, is_now, now, remembered, advanced}
use Words.{◌<◌, ◌≤◌, inl, inr, set, replicate, subst, length-set, get_or-set_same, get_or-set_other}
use Words.{length-replicate, In, held, one_cell, two_cells, newest, chosen_cell, clock_reads, reads}
use Words.{IsNext, Ready, filled, row_of, ◌++◌, length-map, FlatSolves, keeps, run, streams_of}
use Rattle.{lb_check.specs.Scalars.Cell, lb_flat.specs.Run.started_by}
use Rattle.lb_flat.proofs.lists.Lists.{tail_long, choice_step, latest_step, Every-first}
use Rattle.lb_flat.proofs.lists.Lists.{Every-second, column_long, operate_long}

-- An equation holds of streams exactly where it holds of their first row and, with its memory moved
-- on, of the rest.

-- an equation holds of a row
abbrev pub HoldsNow : List Scalar → Row → FlatEquation → Type 0
HoldsNow given row q = cell row q.element ≡ now given row q.clock q.operation

-- the first row of streams, and the streams after it
abbrev pub first_row : List Stream → Row
first_row F = map first_cell F

abbrev pub after_first : List Stream → List Stream
after_first F = map tail_of F

pub one_off : (n : ℕ) (xs : Stream) → length xs ≡ suc n → xs ≡ first_cell xs ∷ tail_of xs
one_off n [] e = absurd (omega arith)
one_off n (x ∷ xs) e = refl

first_then_step :
    (X : Inputs) (G : List Stream) (k : FlatClock) (a b : ℕ) (x y : Cell) →
    first_then (x ∷ column X G a) (y ∷ column X G b)
    ≡ x ∷ operate X G k (FirstThen (started_by false x) a b)
first_then_step X G k a b None y = refl
first_then_step X G k a b (Some v) y = refl

module _ (given : List Scalar) (X : Inputs) where
  pub column_step :
      (F : List Stream) → AreLong (given ∷ X) F → (i : ℕ) →
      column (given ∷ X) F i ≡ cell (first_row F) i ∷ column X (after_first F) i
  column_step [] long i = refl
  column_step (xs ∷ F) long zero = one_off (length X) xs long.0
  column_step (xs ∷ F) long (suc i) = column_step F long.1 i

  module _ (F : List Stream) (long : AreLong (given ∷ X) F) where
    at : (i : ℕ) → column (given ∷ X) F i ≡ cell (first_row F) i ∷ column X (after_first F) i
    at i = column_step F long i

    pub instants_step :
        (k : FlatClock) →
        instants (given ∷ X) F k ≡ is_now (first_row F) k ∷ instants X (after_first F) k
    instants_step Always = refl
    instants_step (Where k i sign) = ap₂ (zip2 (λ b x. b && shows sign x)) (instants_step k) (at i)

    -- an operation gives its cell of this instant, and then what it gives with its memory moved on
    operate_step :
        (k : FlatClock) (o : Operation) →
        operate (given ∷ X) F k o
        ≡ now given (first_row F) k o
        ∷ operate X (after_first F) k (remembered (first_row F) o)
    operate_step k (Input j) = refl
    operate_step k (Constant v) = ap (constantly v) (instants_step k)
    operate_step k (Copy a) = at a
    operate_step k (ApplyUnary op a) = ap (along (one_scalar op)) (at a)
    operate_step k (ApplyBinary op a b) = ap₂ (along_two (two_scalars op)) (at a) (at b)
    operate_step k (Choose c a b) =
        ap (λ cs. choice cs (column (given ∷ X) F a) (column (given ∷ X) F b)) (at c)
        ∙ ap₂ (choice (cell (first_row F) c ∷ column X (after_first F) c)) (at a) (at b)
        ∙ choice_step (cell (first_row F) c) (cell (first_row F) a) (cell (first_row F) b) _ _ _
    operate_step k (FirstThen true a b) = at b
    operate_step k (FirstThen false a b) =
        ap₂ first_then (at a) (at b)
        ∙ first_then_step X (after_first F) k a b (cell (first_row F) a) _
    operate_step k (Previous v a) = ap₂ (previous v) (instants_step k) (at a)
    operate_step k (Latest v a) =
        ap₂ (latest v) (instants_step k) (at a)
        ∙ latest_step v _ _ (cell (first_row F) a) _
    operate_step k (Sample a) = ap₂ (zip2 sample) (instants_step k) (at a)

    -- the equations hold at the first instant, and with memories moved on at the later ones
    pub record NowAndLater (Q : List FlatEquation) : Type 0 where
      pub holds_now : Every (HoldsNow given (first_row F)) Q
      pub later : Every (Holds X (after_first F)) (map (advanced (first_row F)) Q)

    both_sides :
        (q : FlatEquation) → Holds (given ∷ X) F q →
        cell (first_row F) q.element ∷ column X (after_first F) q.element
        ≡ now given (first_row F) q.clock q.operation
        ∷ operate X (after_first F) q.clock (remembered (first_row F) q.operation)
    both_sides q e = sym (at q.element) ∙ e ∙ operate_step q.clock q.operation

    pub now_and_later : (Q : List FlatEquation) → Every (Holds (given ∷ X) F) Q → NowAndLater Q
    now_and_later [] h = record { holds_now = tt; later = tt }
    now_and_later (q ∷ Q) h =
        let rest = now_and_later Q h.1 in
        let e = both_sides q h.0 in
        record {
          holds_now = (cc e, rest.holds_now);
          later = (cc e, rest.later);
        }

    pub from_now_and_later :
        (Q : List FlatEquation) → Every (HoldsNow given (first_row F)) Q →
        Every (Holds X (after_first F)) (map (advanced (first_row F)) Q) →
        Every (Holds (given ∷ X) F) Q
    from_now_and_later [] h l = tt
    from_now_and_later (q ∷ Q) h l = (
      at q.element ∙ ap₂ (λ x xs. x ∷ xs) h.0 l.0 ∙ sym (operate_step q.clock q.operation),
      from_now_and_later Q h.1 l.1,
    )

-- At an instant the equations of a program in order have exactly one row: the row that is filled.

-- ## What an operation reads

chosen_same : (c d x y z w : Cell) → c ≡ d → x ≡ y → z ≡ w → chosen_cell c x z ≡ chosen_cell d y w
chosen_same c d x y z w p q r = cc

-- two rows agree on the elements that are done
abbrev pub AreSame : List ℕ → Row → Row → Type 0
AreSame done r s = (i : ℕ) → In i done → cell r i ≡ cell s i

module _ (done : List ℕ) (r s : Row) (same : AreSame done r s) where
  abbrev AreDone : List ℕ → Type 0
  AreDone is = Every (λ i. In i done) is

  is_now_same : (k : FlatClock) → AreDone (clock_reads k) → is_now r k ≡ is_now s k
  is_now_same Always h = refl
  is_now_same (Where k i sign) h = ap₂ (λ b x. b && shows sign x) (is_now_same k h.1) (same i h.0)

  -- where two rows agree on the elements that are done, an operation that reads only those gives
  -- the same cell in both
  now_same :
      (given : List Scalar) (k : FlatClock) (o : Operation) → AreDone (clock_reads k) →
      AreDone (reads o) → now given r k o ≡ now given s k o
  now_same given k (Input j) c h = refl
  now_same given k (Constant v) c h = ap (held v) (is_now_same k c)
  now_same given k (Copy a) c h = same a h.0
  now_same given k (ApplyUnary op a) c h = ap (one_cell (one_scalar op)) (same a h.0)
  now_same given k (ApplyBinary op a b) c h =
      ap₂ (two_cells (two_scalars op)) (same a h.0) (same b h.1.0)
  now_same given k (Choose z a b) c h =
      chosen_same _ _ _ _ _ _ (same z h.0) (same a h.1.0) (same b h.1.1.0)
  now_same given k (FirstThen true a b) c h = same b h.1.0
  now_same given k (FirstThen false a b) c h = same a h.0
  now_same given k (Previous v a) c h = ap (held v) (is_now_same k c)
  now_same given k (Latest v a) c h = ap₂ held (ap (newest v) (same a h.0)) (is_now_same k c)
  now_same given k (Sample a) c h = ap₂ sample (is_now_same k c) (same a h.0)

  next_same :
      (given : List Scalar) (size : ℕ) (q : FlatEquation) → IsNext size done q →
      now given r q.clock q.operation ≡ now given s q.clock q.operation
  next_same given size q n =
      let in_done = λ (i : ℕ). In i done in
      now_same given q.clock q.operation
      (Every-second in_done (reads q.operation) (clock_reads q.clock) n.reads_done)
      (Every-first in_done (reads q.operation) (clock_reads q.clock) n.reads_done)

-- ## One row

module _ (given : List Scalar) (size : ℕ) where
  pub row_unique :
      (done : List ℕ) (Q : List FlatEquation) (r s : Row) → AreSame done r s →
      Ready size done Q → Every (HoldsNow given r) Q → Every (HoldsNow given s) Q →
      (i : ℕ) → i < size → cell r i ≡ cell s i
  row_unique done [] r s same all h g i lt = same i (all i lt)
  row_unique done (q ∷ Q) r s same ready h g i lt =
      row_unique (q.element ∷ done) Q r s wider ready.1 h.1 g.1 i lt
    where
      at_q : cell r q.element ≡ cell s q.element
      at_q = h.0 ∙ next_same done r s same given size q ready.0 ∙ sym g.0

      wider : (i : ℕ) → In i (q.element ∷ done) → cell r i ≡ cell s i
      wider i (inl p) = subst (λ j. cell r j ≡ cell s j) p at_q
      wider i (inr p) = same i p

  filled_keeps :
      (done : List ℕ) (Q : List FlatEquation) (row : Row) → Ready size done Q →
      (i : ℕ) → In i done → cell (filled given row Q) i ≡ cell row i
  filled_keeps done [] row ready i p = refl
  filled_keeps done (q ∷ Q) row ready i p =
      let v = now given row q.clock q.operation in
      filled_keeps (q.element ∷ done) Q (set row q.element v) ready.1 i (inr p)
      ∙ get_or-set_other row q.element i v None
      (λ e. ready.0.is_new (subst (λ j. In j done) e p))

  pub length-filled : (Q : List FlatEquation) (row : Row) → length (filled given row Q) ≡ length row
  length-filled [] row = refl
  length-filled (q ∷ Q) row =
      let v = now given row q.clock q.operation in
      length-filled Q (set row q.element v) ∙ length-set row q.element v

  filled_holds :
      (done : List ℕ) (Q : List FlatEquation) (row : Row) → Ready size done Q →
      size ≤ length row → Every (HoldsNow given (filled given row Q)) Q
  filled_holds done [] row ready le = tt
  filled_holds done (q ∷ Q) row ready le = (
    filled_keeps (q.element ∷ done) Q row' ready.1 q.element (inl refl)
        ∙ get_or-set_same row q.element v None (omega (arith, ready.0.is_element))
        ∙ next_same done row (filled given row (q ∷ Q))
        (λ i p. sym (filled_keeps done (q ∷ Q) row ready i p)) given size q ready.0,
    filled_holds (q.element ∷ done) Q row' ready.1
        (omega (arith, length-set row q.element v)),
  )
    where
      v : Cell
      v = now given row q.clock q.operation

      row' : Row
      row' = set row q.element v

  pub length-row_of : (Q : List FlatEquation) → length (row_of size Q given) ≡ size
  length-row_of Q = length-filled Q (replicate size None) ∙ length-replicate size None

  -- the equations hold of the row of the instant
  pub row_holds :
      (Q : List FlatEquation) → Ready size [] Q →
      Every (HoldsNow given (row_of size Q given)) Q
  row_holds Q ready =
      filled_holds [] Q (replicate size None) ready
      (omega (arith, length-replicate {A = Cell} size None))

rows_equal :
    (r s : Row) → length r ≡ length s → ((i : ℕ) → i < length r → cell r i ≡ cell s i) →
    r ≡ s
rows_equal [] [] e h = refl
rows_equal (x ∷ r) (y ∷ s) e h =
    ap₂ (λ z zs. z ∷ zs) (h 0 (omega arith))
    (rows_equal r s (omega arith) (λ i lt. h (suc i) (omega arith)))
rows_equal _ _ e h = absurd (omega arith)

-- a row of which all equations hold is the row `row_of`
pub row_is :
    (given : List Scalar) (size : ℕ) (Q : List FlatEquation) (row : Row) → Ready size [] Q →
    length row ≡ size → Every (HoldsNow given row) Q → row ≡ row_of size Q given
row_is given size Q row ready e h =
    rows_equal row (row_of size Q given) (e ∙ sym (length-row_of given size Q)) (λ i lt.
    row_unique given size [] Q row (row_of size Q given) (λ j p. absurd p) ready h
    (row_holds given size Q ready) i (omega arith))

-- filling a row gives `row_of`, whatever the row held before
pub filled_is :
    (given : List Scalar) (size : ℕ) (Q : List FlatEquation) (row : Row) → Ready size [] Q →
    length row ≡ size → filled given row Q ≡ row_of size Q given
filled_is given size Q row ready e =
    row_is given size Q (filled given row Q) ready (length-filled given size Q row ∙ e)
    (filled_holds given size [] Q row ready (omega arith))

-- A flat program in order has exactly one solution on each trace: the streams of its run.

-- ## The order stays

pub reads_same : (row : Row) (o : Operation) → reads (remembered row o) ≡ reads o
reads_same row (Input j) = refl
reads_same row _ = refl

pub keeps_same : (row : Row) (o : Operation) → keeps (remembered row o) ≡ keeps o
keeps_same row (Input j) = refl
keeps_same row _ = refl

next_advanced :
    (size : ℕ) (row : Row) (done : List ℕ) (q : FlatEquation) → IsNext size done q →
    IsNext size done (advanced row q)
next_advanced size row done q n = record {
  reads_done =
      subst (λ is. Every (λ i. In i done) (is ++ clock_reads q.clock))
      (sym (reads_same row q.operation)) n.reads_done;
  keeps_element =
      subst (λ is. Every (λ i. i < size) is) (sym (keeps_same row q.operation)) n.keeps_element;
  is_element = n.is_element;
  is_new = n.is_new;
}

pub ready_advanced :
    (size : ℕ) (row : Row) (done : List ℕ) (Q : List FlatEquation) → Ready size done Q →
    Ready size done (map (advanced row) Q)
ready_advanced size row done [] ready = ready
ready_advanced size row done (q ∷ Q) ready = (
  next_advanced size row done q ready.0,
  ready_advanced size row (q.element ∷ done) Q ready.1,
)

-- ## One instant off, and on again

after_long :
    (given : List Scalar) (X : Inputs) (F : List Stream) → AreLong (given ∷ X) F →
    AreLong X (after_first F)
after_long given X [] h = tt
after_long given X (xs ∷ F) h = (tail_long (length X) xs h.0, after_long given X F h.1)

-- streams with one more row at their beginning
abbrev before : Row → List Stream → List Stream
before row F = zip2 (λ x xs. x ∷ xs) row F

rejoined :
    (given : List Scalar) (X : Inputs) (F : List Stream) → AreLong (given ∷ X) F →
    F ≡ before (first_row F) (after_first F)
rejoined given X [] h = refl
rejoined given X (xs ∷ F) h =
    ap₂ (λ y ys. y ∷ ys) (one_off (length X) xs h.0) (rejoined given X F h.1)

first_before : (r : Row) (F : List Stream) → length r ≡ length F → first_row (before r F) ≡ r
first_before [] F e = refl
first_before (x ∷ r) [] e = absurd (omega arith)
first_before (x ∷ r) (xs ∷ F) e = ap (λ ys. x ∷ ys) (first_before r F (omega arith))

after_before : (r : Row) (F : List Stream) → length r ≡ length F → after_first (before r F) ≡ F
after_before [] [] e = refl
after_before (x ∷ r) (xs ∷ F) e = ap (λ ys. xs ∷ ys) (after_before r F (omega arith))
after_before _ _ e = absurd (omega arith)

length-before : (r : Row) (F : List Stream) → length r ≡ length F → length (before r F) ≡ length F
length-before [] [] e = refl
length-before (x ∷ r) (xs ∷ F) e = ap suc (length-before r F (omega arith))
length-before _ _ e = absurd (omega arith)

before_long :
    (given : List Scalar) (X : Inputs) (r : Row) (F : List Stream) → AreLong X F →
    AreLong (given ∷ X) (before r F)
before_long given X (x ∷ r) (xs ∷ F) h = (ap suc h.0, before_long given X r F h.1)
before_long given X _ _ h = tt

-- ## No instants

none_long : (F : List Stream) → AreLong [] F → F ≡ replicate (length F) []
none_long [] h = refl
none_long ([] ∷ F) h = ap (λ ys. [] ∷ ys) (none_long F h.1)
none_long ((x ∷ xs) ∷ F) h = absurd (omega (arith, h.0))

pub each_none_long : (n : ℕ) → AreLong [] (replicate n [])
each_none_long zero = tt
each_none_long (suc n) = (refl, each_none_long n)

no_cells : (xs : Stream) → length xs ≡ 0 → xs ≡ []
no_cells [] e = refl
no_cells (x ∷ xs) e = absurd (omega arith)

pub none_holds : (Q : List FlatEquation) (F : List Stream) → AreLong [] F → Every (Holds [] F) Q
none_holds [] F long = tt
none_holds (q ∷ Q) F long = (
  no_cells _ (column_long [] F long q.element)
      ∙ sym (no_cells _ (operate_long [] F long q.clock q.operation)),
  none_holds Q F long,
)

-- ## All instants

module _ (size : ℕ) where
  -- the first row of a solution is that of the run, and the rest solves the program with its
  -- memories moved on
  pub record Step (given : List Scalar) (X : Inputs) (Q : List FlatEquation) (F : List Stream) :
      Type 0 where
    pub row : first_row F ≡ row_of size Q given
    pub rest : FlatSolves size (map (advanced (row_of size Q given)) Q) X (after_first F)

  pub step_of :
      (given : List Scalar) (X : Inputs) (Q : List FlatEquation) (F : List Stream) →
      Ready size [] Q → FlatSolves size Q (given ∷ X) F → Step given X Q F
  step_of given X Q F ready s = record {
    row = same;
    rest = record {
      elements = length-map F tail_of ∙ s.elements;
      as_long = after_long given X F s.as_long;
      equations =
          subst (λ r. Every (Holds X (after_first F)) (map (advanced r) Q)) same halves.later;
    };
  }
    where
      halves : NowAndLater given X F s.as_long Q
      halves = now_and_later given X F s.as_long Q s.equations

      same : first_row F ≡ row_of size Q given
      same = row_is given size Q (first_row F) ready (length-map F first_cell ∙ s.elements)
          halves.holds_now

  -- each solution is the streams of the run
  pub unique :
      (X : Inputs) (Q : List FlatEquation) (F : List Stream) → Ready size [] Q →
      FlatSolves size Q X F → F ≡ streams_of size (run size Q X)
  unique [] Q F ready s = none_long F s.as_long ∙ ap (λ n. replicate n []) s.elements
  unique (given ∷ X) Q F ready s =
      let t = step_of given X Q F ready s in
      rejoined given X F s.as_long
      ∙ ap₂ before t.row
      (unique X _ (after_first F) (ready_advanced size _ [] Q ready) t.rest)

  joined_solves :
      (given : List Scalar) (X : Inputs) (Q : List FlatEquation) (G : List Stream) →
      Ready size [] Q → FlatSolves size (map (advanced (row_of size Q given)) Q) X G →
      FlatSolves size Q (given ∷ X) (before (row_of size Q given) G)
  joined_solves given X Q G ready s = record {
    elements = length-before row G as_many ∙ s.elements;
    as_long = long;
    equations = from_now_and_later given X F long Q
        (subst (λ r. Every (HoldsNow given r) Q) (sym first) (row_holds given size Q ready))
        (subst (λ r. Every (Holds X (after_first F)) (map (advanced r) Q)) (sym first)
        (subst (λ xss. Every (Holds X xss) (map (advanced row) Q))
        (sym (after_before row G as_many)) s.equations));
  }
    where
      row : Row
      row = row_of size Q given

      F : List Stream
      F = before row G

      as_many : length row ≡ length G
      as_many = length-row_of given size Q ∙ sym s.elements

      long : AreLong (given ∷ X) F
      long = before_long given X row G s.as_long

      first : first_row F ≡ row
      first = first_before row G as_many

  -- the streams of the run are a solution
  pub exists :
      (X : Inputs) (Q : List FlatEquation) → Ready size [] Q →
      FlatSolves size Q X (streams_of size (run size Q X))
  exists [] Q ready = record {
    elements = length-replicate size [];
    as_long = each_none_long size;
    equations = none_holds Q _ (each_none_long size);
  }
  exists (given ∷ X) Q ready =
      joined_solves given X Q _ ready (exists X _ (ready_advanced size _ [] Q ready))
