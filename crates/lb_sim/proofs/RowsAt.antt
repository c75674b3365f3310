-- The row that a lane shows is the row of the flat program's run, from the memories in the lane:
-- each equation holds of it.
use Rattle.std.proofs.Common.{◌≡◌, ℕ, ◌<◌, Bool, true, false, ◌&&◌, None, List, []}
use Rattle.std.proofs.Common.{◌∷◌, ◌++◌}
use Rattle.std.proofs.Common.{inl, inr, map, length, cond, refl, sym, ap, ap₂, ◌∙◌, subst}
use Rattle.std.proofs.lemmas.List.{get_or-map, length-map}
use Rattle.lb_syntax.specs.Lists.{Every, In}
use Rattle.lb_check.specs.Scalars.{Scalar, two_scalars, one_scalar, chosen}
use Rattle.lb_check.specs.Streams.{held, one_cell, two_cells, sample, shows, newest}
use Rattle.lb_flat.specs.Flat.{FlatClock, Operation, Input, Constant, Copy}
use Rattle.lb_flat.specs.Flat.{ApplyUnary}
use Rattle.lb_flat.specs.Flat.{ApplyBinary, Choose, FirstThen, Previous, Latest, Sample}
use Rattle.lb_flat.specs.Flat.{FlatEquation}
use Rattle.lb_flat.specs.Fitting.{OperandsFit, ClockFits}
use Rattle.lb_flat.specs.Run.{Row, cell, is_now, chosen_cell, now, Ready, row_of, reads}
use Rattle.lb_flat.specs.Run.{clock_reads}
use Rattle.lb_flat.proofs.runs.Running.{row_is, HoldsNow}
use Rattle.lb_machine.specs.Meaning.{Lane}
use Rattle.lb_sim.specs.Showing.{scalar_at, cell_at, row_at}
use Rattle.lb_sim.specs.States.{no_place, holding_of, present_at, kept_at, with_memory, equation_in}
use Rattle.lb_sim.specs.States.{IsShown, IsShownBy, flag_at}
use Rattle.lb_sim.specs.declared.place.Holding.{Holding}
use Rattle.lb_sim.specs.declared.place.Place.{Place}

-- ## Operations on cells that are present alike

one_held : (f : Scalar → Scalar) (v : Scalar) (b : Bool) →
    one_cell f (held v b) ≡ held (f v) b
one_held f v true = refl
one_held f v false = refl

two_held : (f : Scalar → Scalar → Scalar) (v w : Scalar) (b : Bool) →
    two_cells f (held v b) (held w b) ≡ held (f v w) b
two_held f v w true = refl
two_held f v w false = refl

chosen_held : (c v w : Scalar) (b : Bool) →
    chosen_cell (held c b) (held v b) (held w b) ≡ held (chosen c v w) b
chosen_held c v w true = refl
chosen_held c v w false = refl

newest_held : (m v : Scalar) (b : Bool) → newest m (held v b) ≡ cond b v m
newest_held m v true = refl
newest_held m v false = refl

sample_held : (v : Scalar) (a b : Bool) → sample (a && b) (held v a) ≡ held v (a && b)
sample_held v true true = refl
sample_held v true false = refl
sample_held v false b = refl

held_by : (m : Bool) (x y : Scalar) (b : Bool) →
    held (cond m y x) b ≡ cond m (held y b) (held x b)
held_by true x y b = refl
held_by false x y b = refl

first_or_then :
    (row : Row) (given : List Scalar) (k : FlatClock) (m : Bool) (a b : ℕ) →
    now given row k (FirstThen m a b) ≡ cond m (cell row b) (cell row a)
first_or_then row given k true a b = refl
first_or_then row given k false a b = refl

-- ## Elements

module _ (s : Lane) (places : List Place) where
  abbrev row : Row
  row = row_at s places

  -- an element shows its scalar where it is present
  pub cell_is : (e : ℕ) → e < length places →
      cell row e ≡ held (scalar_at s (holding_of places e)) (present_at s places e)
  cell_is e lt = get_or-map (cell_at s) places e no_place None lt

  module _ (given : List Scalar) (inputs : ℕ) (K : ℕ → FlatClock) where
    -- the element of an equation is one of the places, and is present on its clock
    pub record IsPresent (e : ℕ) : Type 0 where
      pub is_element : e < length places
      pub on_clock : present_at s places e ≡ is_now row (K e)

    -- an element shows its scalar where its clock ticks
    shows_now : (e : ℕ) → IsPresent e →
        cell row e ≡ held (scalar_at s (holding_of places e)) (is_now row (K e))
    shows_now e h =
        cell_is e h.is_element
        ∙ ap (held (scalar_at s (holding_of places e))) h.on_clock

    -- an operand shows its scalar where the clock of the equation ticks
    shows_on : (a : ℕ) (k : FlatClock) → IsPresent a → K a ≡ k →
        cell row a ≡ held (scalar_at s (holding_of places a)) (is_now row k)
    shows_on a k h e =
        shows_now a h ∙ ap (λ c. held (scalar_at s (holding_of places a)) (is_now row c)) e

    -- the element shows the result of the operation on the row
    gives :
        (kept : Holding) (k : FlatClock) (o : Operation) (v : Scalar) →
        OperandsFit inputs K k o → Every IsPresent (reads o) →
        IsShown given s places kept o v →
        now given row k (with_memory s kept o) ≡ held v (is_now row k)
    gives kept k (Input j) v fit there e =
        e ∙ sym (ap (λ c. held v (is_now row c)) fit.0)
    gives kept k (Constant w) v fit there e = sym (ap (λ x. held x (is_now row k)) e)
    gives kept k (Copy a) v fit there e =
        shows_on a k there.0 fit ∙ sym (ap (λ x. held x (is_now row k)) e)
    gives kept k (ApplyUnary op a) v fit there e =
        ap (one_cell (one_scalar op)) (shows_on a k there.0 fit)
        ∙ one_held (one_scalar op) _ (is_now row k)
        ∙ sym (ap (λ x. held x (is_now row k)) e)
    gives kept k (ApplyBinary op a b) v fit there e =
        ap₂ (two_cells (two_scalars op)) (shows_on a k there.0 fit.0) (shows_on b k there.1.0 fit.1)
        ∙ two_held (two_scalars op) _ _ (is_now row k)
        ∙ sym (ap (λ x. held x (is_now row k)) e)
    gives kept k (Choose c a b) v fit there e =
        ap (λ x. chosen_cell x (cell row a) (cell row b)) (shows_on c k there.0 fit.0)
        ∙ ap₂ (chosen_cell (held (scalar_at s (holding_of places c)) (is_now row k)))
        (shows_on a k there.1.0 fit.1) (shows_on b k there.1.1.0 fit.2)
        ∙ chosen_held _ _ _ (is_now row k)
        ∙ sym (ap (λ x. held x (is_now row k)) e)
    gives kept k (FirstThen started a b) v fit there e =
        let m = flag_at s kept in
        first_or_then row given k m a b
        ∙ ap₂ (cond m) (shows_on b k there.1.0 fit.1) (shows_on a k there.0 fit.0)
        ∙ sym (held_by m (scalar_at s (holding_of places a)) (scalar_at s (holding_of places b))
        (is_now row k))
        ∙ sym (ap (λ x. held x (is_now row k)) e)
    gives kept k (Previous w a) v fit there e = sym (ap (λ x. held x (is_now row k)) e)
    gives kept k (Latest w a) v fit there e =
        let m = scalar_at s kept in
        let b = present_at s places a in
        ap (λ x. held (newest m x) (is_now row k)) (cell_is a there.0.is_element)
        ∙ ap (λ x. held x (is_now row k)) (newest_held m (scalar_at s (holding_of places a)) b)
        ∙ sym (ap (λ x. held x (is_now row k)) e)
    gives kept k (Sample a) v fit there e =
        let i = fit.0 in
        let sign = fit.1 in
        let x = is_now row (K a) in
        let y = shows sign (cell row i) in
        let on : is_now row k ≡ (x && y) = ap (is_now row) fit.2 in
        ap₂ sample on (shows_now a there.0)
        ∙ sample_held (scalar_at s (holding_of places a)) x y
        ∙ sym (ap (held (scalar_at s (holding_of places a))) on)
        ∙ sym (ap (λ z. held z (is_now row k)) e)

    -- an equation holds of the row that the lane shows
    pub holds :
        (kept : List Holding) (q : FlatEquation) → ClockFits inputs K q → IsPresent q.element →
        Every IsPresent (reads q.operation) →
        IsShown given s places (kept_at kept q.element) q.operation
        (scalar_at s (holding_of places q.element)) →
        HoldsNow given row (equation_in s kept q)
    holds kept q fit here there e =
        shows_on q.element q.clock here fit.own
        ∙ sym (gives (kept_at kept q.element) q.clock q.operation
        (scalar_at s (holding_of places q.element)) fit.operands there e)

-- ## All elements

module _ (given : List Scalar) (s : Lane) (places : List Place) (kept : List Holding) (inputs : ℕ)
    (K : ℕ → FlatClock) where
  abbrev Here : ℕ → Type 0
  Here e = IsPresent s places given inputs K e

  here : (q : FlatEquation) → ClockFits inputs K q → q.element < length places →
      IsShownBy given s places kept q → Here q.element
  here q fit lt h = record {
    is_element = lt;
    on_clock = h.present ∙ sym (ap (is_now (row_at s places)) fit.own);
  }

  all_done : (done is : List ℕ) → ((i : ℕ) → In i done → Here i) → Every (λ i. In i done) is →
      Every Here is
  all_done done [] h r = tt
  all_done done (i ∷ is) h r = (h i r.0, all_done done is h r.1)

  reads_part : (done : List ℕ) (is js : List ℕ) → Every (λ i. In i done) (is ++ js) →
      Every (λ i. In i done) is
  reads_part done [] js r = tt
  reads_part done (i ∷ is) js r = (r.0, reads_part done is js r.1)

  one_more : (e : ℕ) (done : List ℕ) → Here e → ((i : ℕ) → In i done → Here i) → (i : ℕ) →
      In i (e ∷ done) → Here i
  one_more e done x h i (inl p) = subst Here p x
  one_more e done x h i (inr r) = h i r

  all_hold :
      (done : List ℕ) (Q : List FlatEquation) → ((i : ℕ) → In i done → Here i) →
      Ready (length places) done Q → Every (ClockFits inputs K) Q →
      Every (IsShownBy given s places kept) Q →
      Every (HoldsNow given (row_at s places)) (map (equation_in s kept) Q)
  all_hold done [] h ready fits shown = tt
  all_hold done (q ∷ Q) h ready fits shown =
      let x = here q fits.0 ready.0.is_element shown.0 in
      let there =
      all_done done (reads q.operation) h
      (reads_part done (reads q.operation) (clock_reads q.clock) ready.0.reads_done) in (
        holds s places given inputs K kept q fits.0 x there shown.0.scalar,
        all_hold (q.element ∷ done) Q (one_more q.element done x h) ready.1 fits.1 shown.1,
      )

  -- the row of the lane is the row of the run
  pub row_shown :
      (size : ℕ) (Q : List FlatEquation) → length places ≡ size → Ready size [] Q →
      Ready size [] (map (equation_in s kept) Q) → Every (ClockFits inputs K) Q →
      Every (IsShownBy given s places kept) Q →
      row_at s places ≡ row_of size (map (equation_in s kept) Q) given
  row_shown size Q long ready ready' fits shown =
      row_is given size (map (equation_in s kept) Q) (row_at s places) ready'
      (length-map places (cell_at s) ∙ long)
      (all_hold [] Q (λ i r. absurd r) (subst (λ n. Ready n [] Q) (sym long) ready) fits shown)
