-- One instant of one lane: from the state after a trace to the state and the verdict after the
-- trace and the lane's row of inputs.
use Rattle.std.proofs.Common.{◌≡◌, ◌<◌, ℕ, Bool, true, false, List, [], ◌∷◌, ◌++◌, map, length, ℤ}
use Rattle.std.proofs.Common.{refl, sym, ap, ◌∙◌, subst, inl, inr}
use Rattle.lb_syntax.specs.Lists.{Every, In}
use Rattle.lb_check.specs.Scalars.{Scalar}
use Rattle.lb_check.specs.Solutions.{Inputs}
use Rattle.lb_check.specs.Verdicts.{is_bad, or_later}
use Rattle.lb_check.specs.declared.verdict.Verdict.TheVariants.{Passed}
use Rattle.lb_flat.specs.TemporaryKinds.{kind_among}
use Rattle.lb_flat.specs.Fitting.{IsFitting}
use Rattle.lb_flat.specs.Flat.{FlatClock, FlatEquation, Operation, Input, Constant, Copy}
use Rattle.lb_flat.specs.Flat.{ApplyUnary}
use Rattle.lb_flat.specs.Flat.{ApplyBinary, Choose, FirstThen, Previous, Latest, Sample}
use Rattle.lb_flat.specs.Judging.{FlatProgram, some_in, named_elements, row_judged, flat_verdict}
use Rattle.lb_flat.specs.Run.{Row, Ready, reads, keeps, clock_reads, row_of, run}
use Rattle.lb_machine.specs.Listed.{listed}
use Rattle.lb_machine.specs.Meaning.{Lane, HasRun}
use Rattle.lb_machine.specs.declared.code.Code.{Code}
use Rattle.lb_machine.specs.declared.instruction.PlaneId.{PlaneId}
use Rattle.lb_machine.specs.declared.instruction.WordId.{WordId}
use Rattle.lb_sim.specs.Compiled.{IsCompiled, HasConstantWords, given_at}
use Rattle.lb_sim.specs.Showing.{row_at}
use Rattle.lb_sim.specs.States.{equation_in, IsStateAfter, IsCarriedOver}
use Rattle.lb_sim.specs.Watching.{lane_judged, verdict_by}
use Rattle.lb_sim.specs.declared.place.Holding.{Holding}
use Rattle.lb_sim.specs.declared.place.Place.{Place}
use Rattle.lb_sim.specs.declared.place.Value.{Value}
use Rattle.lb_sim.specs.declared.place.Watched.{Watched}
use Rattle.lb_sim.proofs.Committing.{IsKeptIn, all_moved}
use Rattle.lb_sim.proofs.Deciding.{decides}
use Rattle.lb_sim.proofs.RowsAt.{row_shown}
use Rattle.lb_sim.proofs.Standing.{ready_after, state_moved, verdict_moved}

-- no fault counts at an instant that passes
quiet : (t : ℕ) (a b c d : Bool) → verdict_by t a b c d ≡ Passed → a ≡ false
quiet t true b c d e = absurd (cc)
quiet t false b c d e = refl

-- the operands of memories are elements
kept_here :
    (places : List Place) (done : List ℕ) (q : FlatEquation) →
    Every (λ i. i < length places) (reads q.operation) →
    Every (λ i. i < length places) (keeps q.operation) → IsKeptIn places q.operation
kept_here places done q r k = by q.operation r k
  where
    by : (o : Operation) → Every (λ i. i < length places) (reads o) →
        Every (λ i. i < length places) (keeps o) → IsKeptIn places o
    by (Input j) r k = tt
    by (Constant v) r k = tt
    by (Copy a) r k = tt
    by (ApplyUnary op a) r k = tt
    by (ApplyBinary op a b) r k = tt
    by (Choose c a b) r k = tt
    by (FirstThen started a b) r k = r.0
    by (Previous v a) r k = k.0
    by (Latest v a) r k = r.0
    by (Sample a) r k = tt

module _ (places : List Place) where
  -- elements that are done are below the number of places
  reads_below :
      (done is js : List ℕ) → ((i : ℕ) → In i done → i < length places) →
      Every (λ i. In i done) (is ++ js) → Every (λ i. i < length places) is
  reads_below done [] js h r = tt
  reads_below done (i ∷ is) js h r = (h i r.0, reads_below done is js h r.1)

  all_kept :
      (done : List ℕ) (Q : List FlatEquation) → ((i : ℕ) → In i done → i < length places) →
      Ready (length places) done Q → Every (λ q. IsKeptIn places q.operation) Q
  all_kept done [] h ready = tt
  all_kept done (q ∷ Q) h ready = (
    kept_here places done q
        (reads_below done (reads q.operation) (clock_reads q.clock) h ready.0.reads_done)
        ready.0.keeps_element,
    all_kept (q.element ∷ done) Q more ready.1,
  )
    where
      more : (i : ℕ) → In i (q.element ∷ done) → i < length places
      more i (inl e) = subst (λ k. k < length places) e ready.0.is_element
      more i (inr r) = h i r

module _ (f : FlatProgram) (code : Code) (inputs : List Value) (places : List Place)
    (kept : List Holding) (watched : Watched) (start_words : List ℤ)
    (constant_word memory_plane memory_word : ℕ)
    (plane_sources : List PlaneId) (word_sources : List WordId) (Suited : Lane → Type 0)
    (compiled : IsCompiled f code inputs places kept watched start_words constant_word
    memory_plane memory_word plane_sources word_sources Suited)
    (ready : Ready f.size [] f.equations) (K : ℕ → FlatClock)
    (fits : IsFitting f.inputs K (kind_among f.kinds) f.equations) (s : Lane)
    (has_run : HasRun (listed code.instructions) s)
    (constants : HasConstantWords constant_word memory_word start_words s) (suits : Suited s)
    (X : Inputs) (state : IsStateAfter f kept s X) where
  abbrev given : List Scalar
  given = given_at s inputs

  abbrev row : Row
  row = row_at s places

  -- the row that the lane shows is the next row of the run of its trace
  pub row_is : row ≡ row_of f.size (map (equation_in s kept) f.equations) given
  row_is =
      row_shown given s places kept (length f.inputs) K f.size f.equations compiled.as_long ready
      (subst (Ready f.size []) state
      (ready_after f.size (run f.size f.equations X) f.equations ready)) fits.clocks
      (compiled.shown K fits s has_run constants suits)

  -- the verdict of the lane at the instant is the verdict by its row
  pub decided : (t : ℕ) → lane_judged watched t s ≡ row_judged f t row
  decided t = decides code f places watched t s compiled.watches has_run

  -- the verdict after the instant
  pub verdict_after :
      flat_verdict f (X ++ given ∷ [])
      ≡ or_later (flat_verdict f X) (lane_judged watched (length X) s)
  verdict_after =
      verdict_moved f kept s X given row state row_is
      ∙ ap (or_later (flat_verdict f X)) (sym (decided (length X)))

  -- the memories after an instant that passes
  pub state_after :
      (t : ℕ) (s' : Lane) →
      IsCarriedOver memory_plane memory_word plane_sources word_sources s s' →
      lane_judged watched t s ≡ Passed → IsStateAfter f kept s' (X ++ given ∷ [])
  state_after t s' carried passed =
      let none : some_in is_bad row (named_elements f) ≡ false =
      quiet t _ _ _ _ (sym (decided t) ∙ passed) in
      state_moved f kept s X given row state row_is s'
      (all_moved s s' places kept f.equations
      (all_kept places [] f.equations (λ i r. absurd r)
      (subst (λ n. Ready n [] f.equations) (sym compiled.as_long) ready))
      (compiled.moved K fits s s' has_run constants suits carried none))
