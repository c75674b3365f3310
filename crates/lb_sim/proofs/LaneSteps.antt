-- One instant of a lane that stands for a trace: a live lane stands for the trace and its row of
-- inputs, any other lane for the trace as before.
use Rattle.std.proofs.Common.{◌≡◌, ◌+◌, ℕ, zero, suc, Bool, true, false, not, ◌&&◌, List, []}
use Rattle.std.proofs.Common.{◌∷◌, ◌++◌, map, length, All, refl, sym, ap, ap₂, ◌∙◌}
use Rattle.std.proofs.Common.{subst, inl, arith, ℤ}
use Rattle.std.proofs.lemmas.Bool.{true≢false}
use Rattle.lb_check.specs.Scalars.{Scalar, Integer, Boolean}
use Rattle.lb_check.specs.Solutions.{Inputs}
use Rattle.lb_check.specs.Verdicts.{or_later}
use Rattle.lb_check.specs.declared.verdict.Verdict.{Verdict}
use Rattle.lb_check.specs.declared.verdict.Verdict.TheVariants.{Passed, Fault, Undefined, Assertion}
use Rattle.lb_check.specs.declared.verdict.Verdict.TheVariants.{False}
use Rattle.lb_flat.specs.Fitting.{IsFitting}
use Rattle.lb_flat.specs.Flat.{FlatClock, FlatEquation}
use Rattle.lb_flat.specs.TemporaryKinds.{kind_among}
use Rattle.lb_flat.specs.Judging.{FlatProgram, flat_verdict, rows_judged, row_judged}
use Rattle.lb_flat.specs.MemoryPlaces.{after_rows}
use Rattle.lb_flat.specs.Run.{Ready, row_of, run}
use Rattle.lb_machine.specs.Listed.{listed}
use Rattle.lb_machine.specs.Meaning.{Lane, HasRun}
use Rattle.lb_machine.specs.declared.code.Code.{Code}
use Rattle.lb_machine.specs.declared.instruction.PlaneId.{PlaneId}
use Rattle.lb_machine.specs.declared.instruction.WordId.{WordId}
use Rattle.lb_sim.specs.Compiled.{IsCompiled, IsHome, IsHomeValue, HasConstantWords, given_at}
use Rattle.lb_sim.specs.LaneStates.{HoldSame, StandsAt, is_passed, settled}
use Rattle.lb_sim.specs.Showing.{shown, value_at, scalar_at}
use Rattle.lb_sim.specs.States.{no_holding, kept_at, with_memory, equation_in, IsStateAfter}
use Rattle.lb_sim.specs.States.{IsCarriedOver, flag_of}
use Rattle.lb_sim.specs.Watching.{lane_judged}
use Rattle.lb_sim.specs.declared.place.Holding.{Holding}
use Rattle.lb_sim.specs.declared.place.Place.{Place}
use Rattle.lb_sim.specs.declared.place.Value.{Value}
use Rattle.lb_sim.specs.declared.place.Value.TheVariants.{Truth, Negated, Number}
use Rattle.lb_sim.specs.declared.place.Watched.{Watched}
use Rattle.lb_flat.specs.Flat.{Operation, Input, Constant, Copy, ApplyUnary, ApplyBinary, Choose}
use Rattle.lb_flat.specs.Flat.{FirstThen, Previous, Latest, Sample}
use Rattle.lb_sim.proofs.Instants.{verdict_after, state_after}
use Rattle.lb_sim.proofs.RunMemories.{run_appended}
use Rattle.lb_sim.proofs.Standing.{judged_one}

-- ## The memories are as they were before the code ran

module _ (code : Code) (mp mw : ℕ) (s s' : Lane) (same : HoldSame code mp mw s s') where
  value_same : (v : Value) → IsHomeValue code mp mw v → value_at s' v ≡ value_at s v
  value_same (Truth p) h = ap Boolean (same.planes p.0 h)
  value_same (Negated p) h = ap (λ b. Boolean (not b)) (same.planes p.0 h)
  value_same (Number w) h = ap Integer (same.words w.0 h)

  -- a memory shows the same scalar in both lanes
  pub scalar_same : (h : Holding) → IsHome code mp mw h → scalar_at s' h ≡ scalar_at s h
  scalar_same h home =
      ap₂ (λ b n. shown b n (value_at s' h.value)) (same.planes h.bad.0 home.bad)
      (same.planes h.nil.0 home.nil)
      ∙ ap (shown (s.bits h.bad.0) (s.bits h.nil.0)) (value_same h.value home.value)

  memory_same : (h : Holding) (o : Operation) → scalar_at s' h ≡ scalar_at s h →
      with_memory s' h o ≡ with_memory s h o
  memory_same h (Input j) e = refl
  memory_same h (Constant v) e = refl
  memory_same h (Copy a) e = refl
  memory_same h (ApplyUnary op a) e = refl
  memory_same h (ApplyBinary op a b) e = refl
  memory_same h (Choose c a b) e = refl
  memory_same h (FirstThen started a b) e = ap (λ v. FirstThen (flag_of v) a b) e
  memory_same h (Previous v a) e = ap (λ m. Previous m a) e
  memory_same h (Latest v a) e = ap (λ m. Latest m a) e
  memory_same h (Sample a) e = refl

  no_home : IsHome code mp mw no_holding
  no_home = record { value = inl refl; nil = inl refl; bad = inl refl }

  -- each element has a holding among memories, which is that of nothing where the table has none
  home_at : (kept : List Holding) → All (IsHome code mp mw) kept → (e : ℕ) →
      IsHome code mp mw (kept_at kept e)
  home_at [] homes e = no_home
  home_at (h ∷ kept) homes zero = homes 0 no_holding (omega arith)
  home_at (h ∷ kept) homes (suc e) = home_at kept (λ i d lt. homes (suc i) d (omega (arith, lt))) e

  equations_same : (kept : List Holding) → All (IsHome code mp mw) kept → (Q : List FlatEquation) →
      map (equation_in s' kept) Q ≡ map (equation_in s kept) Q
  equations_same kept homes [] = refl
  equations_same kept homes (q ∷ Q) =
      ap₂ (λ (o : Operation) (qs : List FlatEquation).
      record { element = q.element; clock = q.clock; operation = o } ∷ qs)
      (memory_same (kept_at kept q.element) q.operation
      (scalar_same (kept_at kept q.element) (home_at kept homes q.element)))
      (equations_same kept homes Q)

  -- the state after a trace is the same in both lanes
  pub state_same : (f : FlatProgram) (kept : List Holding) → All (IsHome code mp mw) kept →
      (X : Inputs) → IsStateAfter f kept s X → IsStateAfter f kept s' X
  state_same f kept homes X state = state ∙ sym (equations_same kept homes f.equations)

-- ## Verdicts

passed_is : (v : Verdict) → is_passed v ≡ true → v ≡ Passed
passed_is Passed e = refl
passed_is (Fault t) e = absurd (true≢false (sym e))
passed_is (Undefined t) e = absurd (true≢false (sym e))
passed_is (Assertion t) e = absurd (true≢false (sym e))
passed_is (False t) e = absurd (true≢false (sym e))

or_later_found : (u v : Verdict) → is_passed u ≡ false → or_later u v ≡ u
or_later_found Passed v e = absurd (true≢false e)
or_later_found (Fault t) v e = refl
or_later_found (Undefined t) v e = refl
or_later_found (Assertion t) v e = refl
or_later_found (False t) v e = refl

-- a verdict other than `Passed` stays
pub found_stays : (f : FlatProgram) (X : Inputs) (given : List Scalar) →
    is_passed (flat_verdict f X) ≡ false → flat_verdict f (X ++ given ∷ []) ≡ flat_verdict f X
found_stays f X given found =
    let rows = run f.size f.equations X in
    let row = row_of f.size (after_rows f.equations rows) given in
    ap (rows_judged f 0) (run_appended f.size X (given ∷ []) f.equations)
    ∙ judged_one f 0 (length rows) rows row (omega arith)
    ∙ or_later_found (rows_judged f 0 rows) (row_judged f (length rows) row) found

-- a lane without a verdict gets the verdict of the instant
settled_now : (j v : Verdict) → v ≡ Passed → settled true j v ≡ j
settled_now Passed v e = e
settled_now (Fault t) v e = refl
settled_now (Undefined t) v e = refl
settled_now (Assertion t) v e = refl
settled_now (False t) v e = refl

-- ## An instant of a lane

-- a lane that is not live stands for the trace it stood for
pub stays :
    (f : FlatProgram) (kept : List Holding) (s s' : Lane) (v v' : Verdict) (active active' : Bool)
    (steps steps' : ℕ) (X : Inputs) → StandsAt f kept s v active steps X → v' ≡ v →
    active' ≡ false → StandsAt f kept s' v' active' steps' X
stays f kept s s' v v' active active' steps steps' X h same off = record {
  verdict_is = same ∙ h.verdict_is;
  as_long = λ on. absurd (true≢false (sym on ∙ off));
  state = λ on. absurd (true≢false (sym on ∙ off));
}

module _ (f : FlatProgram) (code : Code) (inputs : List Value) (places : List Place)
    (kept : List Holding) (watched : Watched) (start_words : List ℤ)
    (constant_word memory_plane memory_word : ℕ)
    (plane_sources : List PlaneId) (word_sources : List WordId) (Suited : Lane → Type 0)
    (compiled : IsCompiled f code inputs places kept watched start_words constant_word
    memory_plane memory_word plane_sources word_sources Suited)
    (ready : Ready f.size [] f.equations) (K : ℕ → FlatClock)
    (fits : IsFitting f.inputs K (kind_among f.kinds) f.equations) (before s after : Lane)
    (constants : HasConstantWords constant_word memory_word start_words s)
    (same : HoldSame code memory_plane memory_word before s)
    (carried : IsCarriedOver memory_plane memory_word plane_sources word_sources s after)
    (X : Inputs) (steps : ℕ) (v v' : Verdict)
    (v_is : v' ≡ settled (is_passed v) (lane_judged watched steps s) v)
    (has_run : is_passed v ≡ true → HasRun (listed code.instructions) s)
    (suits : is_passed v ≡ true → Suited s) where
  abbrev judged : Verdict
  judged = lane_judged watched steps s

  abbrev Next : Bool → Type 0
  Next active = StandsAt f kept after v' active (steps + 1) (X ++ given_at s inputs ∷ [])

  -- a lane that has a verdict keeps it
  found : v ≡ flat_verdict f X → is_passed v ≡ false → (active' : Bool) → active' ≡ false →
      Next active'
  found is e active' off = record {
    verdict_is =
        v_is
        ∙ ap (λ b. settled b judged v) e
        ∙ is
        ∙ sym (found_stays f X (given_at s inputs) (ap is_passed (sym is) ∙ e));
    as_long = λ on. absurd (true≢false (sym on ∙ off));
    state = λ on. absurd (true≢false (sym on ∙ off));
  }

  one_longer : (r : List Scalar) (X : Inputs) (n : ℕ) → length X ≡ n →
      length (X ++ r ∷ []) ≡ n + 1
  one_longer r [] n e = omega (arith, e)
  one_longer r (x ∷ X) zero e = absurd (omega (arith, e))
  one_longer r (x ∷ X) (suc n) e =
      omega (arith, one_longer r X n (omega (arith, e)))

  -- a lane that has passed so far gets the verdict of the instant
  goes : StandsAt f kept before v true steps X → is_passed v ≡ true → (active' : Bool) →
      active' ≡ is_passed judged → Next active'
  goes h e active' is =
      let none : v ≡ Passed = passed_is v e in
      let long : length X ≡ steps = h.as_long refl in
      let state : IsStateAfter f kept s X =
      state_same code memory_plane memory_word before s same f kept compiled.homes X
      (h.state refl) in
      record {
        verdict_is =
            v_is
            ∙ ap (λ b. settled b judged v) e
            ∙ settled_now judged v none
            ∙ sym (ap (λ n. lane_judged watched n s) long)
            ∙ ap (λ u. or_later u (lane_judged watched (length X) s))
            (sym none ∙ h.verdict_is)
            ∙ sym (verdict_after f code inputs places kept watched start_words constant_word
            memory_plane memory_word plane_sources word_sources Suited compiled ready K fits s
            (has_run e) constants (suits e) X state);
        as_long = λ on. one_longer (given_at s inputs) X steps long;
        state = λ on.
            state_after f code inputs places kept watched start_words constant_word memory_plane
            memory_word plane_sources word_sources Suited compiled ready K fits s (has_run e)
            constants (suits e) X state steps after carried
            (passed_is judged (sym is ∙ on));
      }

  -- a live lane stands for the trace and the row that it was given
  pub moves :
      (active active' : Bool) → active ≡ is_passed v →
      active' ≡ (is_passed v && is_passed judged) → StandsAt f kept before v active steps X →
      Next active'
  moves active active' was is h = by (is_passed v) refl
    where
      by : (b : Bool) → is_passed v ≡ b →
          StandsAt f kept after v' active' (steps + 1) (X ++ given_at s inputs ∷ [])
      by true e =
          goes (subst (λ a. StandsAt f kept before v a steps X) (was ∙ e) h) e active'
          (is ∙ ap (λ b. b && is_passed judged) e)
      by false e = found h.verdict_is e active' (is ∙ ap (λ b. b && is_passed judged) e)
