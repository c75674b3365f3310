-- The loop over equations in order: each gets its place, and the equations before it still show
-- their elements.
use Rattle.std.proofs.Common.{◌≡◌, ◌≢◌, ℕ, ◌+◌, ◌<◌, ◌≤◌, List, [], ◌∷◌, ◌++◌, length, get_or, set}
use Rattle.std.proofs.Common.{take}
use Rattle.std.proofs.Common.{drop, refl, sym, ap, ◌∙◌, subst, inl, inr, add-one, length-set}
use Rattle.std.proofs.Common.{take_all, take-suc}
use Rattle.std.proofs.Math.ListN.{drop_of_length-le}
use Rattle.std.proofs.Math.Seq.{drop-cons}
use Rattle.lb_syntax.specs.Lists.{Every, In}
use Rattle.lb_check.specs.Scalars.{Scalar}
use Rattle.lb_flat.specs.Flat.{FlatEquation}
use Rattle.lb_flat.specs.Run.{IsNext, Ready, is_now, reads, clock_reads, equation_reads}
use Rattle.lb_flat.proofs.lists.Lists.{Every-append, Every-first, Every-second}
use Rattle.lb_machine.specs.Correct.{IsGrown}
use Rattle.lb_machine.specs.Listed.{listed}
use Rattle.lb_machine.specs.Meaning.{Lane, HasRun}
use Rattle.lb_machine.specs.declared.code.Code.{Code}
use Rattle.lb_sim.specs.Compiled.{given_at}
use Rattle.lb_sim.specs.Showing.{scalar_at, row_at}
use Rattle.lb_sim.specs.States.{kept_at, IsShown, IsShownBy}
use Rattle.lb_sim.specs.declared.place.Holding.{Holding}
use Rattle.lb_sim.specs.declared.place.Place.{Place}
use Rattle.lb_sim.specs.declared.place.Value.{Value}
use Rattle.lb_sim.proofs.Emitting.{stays_shown, set_shown, apart_from}

-- an equation that has its place: the elements that it reads and gives are done, and it shows its
-- element, if it is wanted
pub record IsEmitted (wanted : FlatEquation → Type 0) (given : List Scalar) (s : Lane)
    (places : List Place) (kept : List Holding) (done : List ℕ) (q : FlatEquation) : Type 0 where
  pub gives : In q.element done
  pub reads : Every (λ i. In i done) (equation_reads q)
  pub shown : wanted q → IsShownBy given s places kept q

module _ (wanted : FlatEquation → Type 0) (given : List Scalar) (s : Lane) (places : List Place)
    (kept : List Holding) (done : List ℕ) (e : ℕ) (p : Place) (new : In e done → ⊥) where
  more_done : (is : List ℕ) → Every (λ i. In i done) is → Every (λ i. In i (e ∷ done)) is
  more_done [] h = tt
  more_done (i ∷ is) h = (inr h.0, more_done is h.1)

  -- an emitted equation stays emitted when another element gets its place
  pub stays_emitted : (q : FlatEquation) → IsEmitted wanted given s places kept done q →
      IsEmitted wanted given s (set places e p) kept (e ∷ done) q
  stays_emitted q h =
      let apart = apart_from e done (equation_reads q) new h.reads in
      record {
        gives = inr h.gives;
        reads = more_done (equation_reads q) h.reads;
        shown = λ w.
            stays_shown given s places e p kept q
            (λ same. new (subst (λ k. In k done) same h.gives))
            (Every-first (λ i. i ≢ e) (reads q.operation) (clock_reads q.clock) apart)
            (Every-second (λ i. i ≢ e) (reads q.operation) (clock_reads q.clock) apart)
            (h.shown w);
      }

  pub all_stay : (Q : List FlatEquation) →
      Every (IsEmitted wanted given s places kept done) Q →
      Every (IsEmitted wanted given s (set places e p) kept (e ∷ done)) Q
  all_stay [] h = tt
  all_stay (q ∷ Q) h = (stays_emitted q h.0, all_stay Q h.1)

  -- an equation is emitted when its element gets its place
  pub newly_emitted :
      (size : ℕ) (q : FlatEquation) → q.element ≡ e → e < length places → IsNext size done q →
      (wanted q →
      (s.bits p.present.0 ≡ is_now (row_at s places) q.clock)
      × IsShown given s places (kept_at kept q.element) q.operation (scalar_at s p.holding)) →
      IsEmitted wanted given s (set places e p) kept (e ∷ done) q
  newly_emitted size q is lt next law =
      let apart = apart_from e done (equation_reads q) new next.reads_done in
      record {
        gives = inl (sym is);
        reads = more_done (equation_reads q) next.reads_done;
        shown = λ w.
            set_shown given s places e p kept q is lt
            (Every-first (λ i. i ≢ e) (reads q.operation) (clock_reads q.clock) apart)
            (Every-second (λ i. i ≢ e) (reads q.operation) (clock_reads q.clock) apart)
            (law w).0 (law w).1;
      }

-- ## The loop

-- the first `i` equations have their places
pub record IsCompiling (wanted : Lane → FlatEquation → Type 0) (size : ℕ) (Q : List FlatEquation)
    (code : Code) (inputs : List Value) (places : List Place) (kept : List Holding)
    (done : List ℕ) (i : ℕ) : Type 0 where
  pub ready : Ready size done (drop i Q)
  pub as_long : length places ≡ size
  pub emitted :
      (s : Lane) → HasRun (listed code.instructions) s →
      Every (IsEmitted (wanted s) (given_at s inputs) s places kept done) (take i Q)

module _ (wanted : Lane → FlatEquation → Type 0) (size : ℕ) (Q : List FlatEquation) (code : Code)
    (inputs : List Value) (places : List Place) (kept : List Holding) (done : List ℕ) (i : ℕ)
    (h : IsCompiling wanted size Q code inputs places kept done i) where
  module _ (d q : FlatEquation) (here : get_or Q i d ≡ q) (lt : i < length Q) where
    cut : drop i Q ≡ q ∷ drop (i + 1) Q
    cut =
        let first : drop i Q ≡ get_or Q i d ∷ drop (i + 1) Q = rw (add-one, drop-cons Q i d) in
        first ∙ ap (λ x. x ∷ drop (i + 1) Q) here

    parts : IsNext size done q × Ready size (q.element ∷ done) (drop (i + 1) Q)
    parts = subst (Ready size done) cut h.ready

    -- the next equation can be computed
    pub next_is : IsNext size done q
    next_is = parts.0

    front : take (i + 1) Q ≡ take i Q ++ q ∷ []
    front =
        ap (λ n. take n Q) (add-one i) ∙ take-suc Q i d lt ∙ ap (λ x. take i Q ++ x ∷ []) here

    -- the element of the next equation is one of the places
    pub next_element : q.element < length places
    next_element = subst (λ n. q.element < n) (sym h.as_long) parts.0.is_element

    pub goes_on :
        (code' : Code) (p : Place) → IsGrown code code' →
        ((s : Lane) → HasRun (listed code'.instructions) s → wanted s q →
        (s.bits p.present.0 ≡ is_now (row_at s places) q.clock)
        × IsShown (given_at s inputs) s places (kept_at kept q.element) q.operation
        (scalar_at s p.holding)) →
        IsCompiling wanted size Q code' inputs (set places q.element p) kept (q.element ∷ done)
        (i + 1)
    goes_on code' p grown law = record {
      ready = parts.1;
      as_long = length-set places q.element p ∙ h.as_long;
      emitted = λ s r.
          let given = given_at s inputs in
          let law_s = wanted s in
          subst
          (Every (IsEmitted law_s given s (set places q.element p) kept (q.element ∷ done)))
          (sym front)
          (Every-append
          (IsEmitted law_s given s (set places q.element p) kept (q.element ∷ done))
          (take i Q) (q ∷ [])
          (all_stay law_s given s places kept done q.element p parts.0.is_new (take i Q)
          (h.emitted s (grown.runs s r))) (
            newly_emitted law_s given s places kept done q.element p parts.0.is_new size q refl
                next_element parts.0 (law s r),
            tt,
          ));
    }

  all_shown :
      (law : FlatEquation → Type 0) (given : List Scalar) (s : Lane) (P : List FlatEquation) →
      Every (IsEmitted law given s places kept done) P → Every law P →
      Every (IsShownBy given s places kept) P
  all_shown law given s [] x w = tt
  all_shown law given s (p ∷ P) x w = (x.0.shown w.0, all_shown law given s P x.1 w.1)

  -- at the end each wanted equation shows its element
  pub ends :
      length Q ≤ i → (s : Lane) → HasRun (listed code.instructions) s → Every (wanted s) Q →
      Every (IsShownBy (given_at s inputs) s places kept) Q
  ends le s r w =
      all_shown (wanted s) (given_at s inputs) s Q
      (subst (Every (IsEmitted (wanted s) (given_at s inputs) s places kept done))
      (take_all i Q le) (h.emitted s r)) w

  -- at the end all elements are done
  pub all_done : length Q ≤ i → (e : ℕ) → e < size → In e done
  all_done le e lt =
      subst (Ready size done) (drop_of_length-le Q le) h.ready e lt
