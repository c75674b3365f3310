-- Lanes whose verdicts are kept, and lanes that take waiting members, one after the other.
use Rattle.std.proofs.Common.{◌≡◌, ◌≢◌, ℕ, ◌+◌, ◌<◌, ◌≤◌, ◌==◌, ◌||◌, Bool, true, false}
use Rattle.std.proofs.Common.{List, length, get_or, set, length-set, refl, sym, ap, ◌∙◌}
use Rattle.std.proofs.Common.{subst, arith, ◌⊎◌, inl, inr}
use Rattle.std.proofs.lemmas.Bool.{true≢false, cases_eq, cases_lt}
use Rattle.std.proofs.lemmas.List.{get_or-set_same, get_or-set_other}
use Rattle.std.specs.Prelude.{if◌then◌else◌}
use Rattle.lb_check.specs.declared.verdict.Verdict.{Verdict}
use Rattle.lb_flat.specs.Correct.{IsVerdictOf}
use Rattle.lb_flat.specs.Judging.{FlatProgram}
use Rattle.lb_traces.specs.Traces.{Recording}
use Rattle.lb_lanes.specs.Planes.{on}
use Rattle.lb_lanes.specs.declared.planes.Plane.{Plane}
use Rattle.lb_lanes.proofs.OnPlanes.{on-zero}
use Rattle.lb_sim.proofs.LaneBits.{no_number, same_number}
use Rattle.lb_sim.specs.Correct.{HasVerdict, IsRestart}
use Rattle.lb_sim.specs.InputRows.{begin_of}
use Rattle.lb_sim.specs.Queues.{IsInLane, IsTakenBy, HasTaken, AreTaken}
use Rattle.lb_sim.specs.declared.batch_run.BatchRun.{BatchRun}

-- `IsTakenBy` holds when the place and the trace of a lane are set
pub taken_by :
    (members places traces : List ℕ) (lane place : ℕ) → lane < length places →
    lane < length traces →
    IsTakenBy members places (set places lane place) traces
    (set traces lane (get_or members place 0)) lane place
taken_by members places traces lane place p t = record {
  places_room = length-set places lane place;
  traces_room = length-set traces lane (get_or members place 0);
  place_is = get_or-set_same places lane place 0 p;
  trace_is = get_or-set_same traces lane (get_or members place 0) 0 t;
  other_places = λ i ne. get_or-set_other places lane i place 0 ne;
  other_traces = λ i ne. get_or-set_other traces lane i (get_or members place 0) 0 ne;
}

module _ (members : List ℕ) (n settled : ℕ) (most : n ≤ 64) (places traces : List ℕ)
    (rest : ℕ) where
  -- the lanes below `lane` have had their turns
  pub record TakenSoFar (places' traces' : List ℕ) (taken rest' lane : ℕ) : Type 0 where
    pub places_room : length places' ≡ length places
    pub traces_room : length traces' ≡ length traces
    pub not_below : n ≤ rest'
    pub not_above : rest' ≤ rest
    pub own_place :
        (i : ℕ) → i < 64 → on taken i ≡ false → get_or places' i 0 ≡ get_or places i 0
    pub own_trace :
        (i : ℕ) → i < 64 → on taken i ≡ false → get_or traces' i 0 ≡ get_or traces i 0
    pub left :
        (i : ℕ) → i < lane → i < 64 → on settled i ≡ true → on taken i ≡ false → rest' ≡ n
    pub ahead : (i : ℕ) → lane ≤ i → i < 64 → on taken i ≡ false
    pub takes :
        (i : ℕ) → i < 64 → on taken i ≡ true →
        HasTaken members n settled places' traces' rest rest' i
    pub each : (k : ℕ) → rest' ≤ k → k < rest → IsInLane places' taken n k

  pub none_taken : n ≤ rest → TakenSoFar places traces 0 rest 0
  none_taken le = record {
    places_room = refl;
    traces_room = refl;
    not_below = le;
    not_above = omega arith;
    own_place = λ i l e. refl;
    own_trace = λ i l e. refl;
    left = λ i l. absurd (omega (arith, l));
    ahead = λ i l m. on-zero i;
    takes = λ i l e. absurd (true≢false (sym e ∙ on-zero i));
    each = λ k l m. absurd (omega (arith, l, m));
  }

  module _ (p t : List ℕ) (taken left lane : ℕ) (h : TakenSoFar p t taken left lane) where
    -- lanes that are not settled take no member
    pub taken_on :
        (next : ℕ) → lane ≤ next →
        ((i : ℕ) → lane ≤ i → i < next → on settled i ≡ false) → TakenSoFar p t taken left next
    taken_on next le off = record {
      places_room = h.places_room;
      traces_room = h.traces_room;
      not_below = h.not_below;
      not_above = h.not_above;
      own_place = h.own_place;
      own_trace = h.own_trace;
      left = λ i l b s e. by i l b s e (cases_lt i lane);
      ahead = λ i l. h.ahead i (omega (arith, l, le));
      takes = h.takes;
      each = h.each;
    }
      where
        by : (i : ℕ) → i < next → i < 64 → on settled i ≡ true → on taken i ≡ false →
            (i < lane) ⊎ (lane ≤ i) → left ≡ n
        by i l b s e (inl below) = h.left i below b s e
        by i l b s e (inr above) = absurd (true≢false (sym s ∙ off i above l))

    -- a settled lane takes the last member that waits
    module _ (p' t' : List ℕ) (taken' left' : ℕ) (few : lane < 64) (inside : lane < n)
        (some : n < left)
        (less : left' + 1 ≡ left) (idle : on settled lane ≡ true)
        (taken_is : (i : ℕ) → i < 64 → on taken' i ≡ ((i == lane) || on taken i))
        (step : IsTakenBy members p p' t t' lane left') where
      here : on taken' lane ≡ true
      here = taken_is lane few ∙ ap (λ b. b || on taken lane) (same_number lane)

      other : (i : ℕ) → i < 64 → i ≢ lane → on taken' i ≡ on taken i
      other i l ne = taken_is i l ∙ ap (λ b. b || on taken i) (no_number i lane ne)

      -- a lane that has not taken a member is not `lane`
      off_other : (i : ℕ) → on taken' i ≡ false → i ≢ lane
      off_other i e same =
          true≢false (sym (ap (on taken') same ∙ here) ∙ e)

      off_before : (i : ℕ) → i < 64 → on taken' i ≡ false → on taken i ≡ false
      off_before i l e = sym (other i l (off_other i e)) ∙ e

      takes_now :
          (i : ℕ) → i < 64 → on taken' i ≡ true → (i ≡ lane) ⊎ (i ≢ lane) →
          HasTaken members n settled p' t' rest left' i
      takes_now i l e (inl same) =
          subst (HasTaken members n settled p' t' rest left') (sym same)
          (let is = step.place_is in
          let above = h.not_above in
          record {
            inside = inside;
            idle = idle;
            after = omega (arith, is);
            before = omega (arith, is, less, above);
            trace_is = step.trace_is ∙ ap (λ k. get_or members k 0) (sym is);
          })
      takes_now i l e (inr ne) =
          let before = h.takes i l (sym (other i l ne) ∙ e) in
          let same = step.other_places i ne in
          let after = before.after in
          let below = before.before in
          record {
            inside = before.inside;
            idle = before.idle;
            after = omega (arith, same, after, less);
            before = omega (arith, same, below);
            trace_is =
                step.other_traces i ne ∙ before.trace_is
                ∙ ap (λ k. get_or members k 0) (sym same);
          }

      each_now : (k : ℕ) → left' ≤ k → k < rest → (k ≡ left') ⊎ (k ≢ left') →
          IsInLane p' taken' n k
      each_now k l m (inl same) = record {
        lane = lane;
        below = inside;
        pends = here;
        place = step.place_is ∙ sym same;
      }
      each_now k l m (inr ne) =
          let there = h.each k (omega (arith, l, ne, less)) m in
          let below = there.below in
          let apart : there.lane ≢ lane =
          λ same.
          true≢false
          (sym there.pends ∙ ap (on taken) same ∙ h.ahead lane (omega arith) few) in
          record {
            lane = there.lane;
            below = below;
            pends = other there.lane (omega (arith, below, most)) apart ∙ there.pends;
            place = step.other_places there.lane apart ∙ there.place;
          }

      pub taken_more : TakenSoFar p' t' taken' left' (lane + 1)
      taken_more = record {
        places_room = step.places_room ∙ h.places_room;
        traces_room = step.traces_room ∙ h.traces_room;
        not_below = omega (arith, some, less);
        not_above = let above = h.not_above in omega (arith, above, less);
        own_place = λ i l e.
            step.other_places i (off_other i e) ∙ h.own_place i l (off_before i l e);
        own_trace = λ i l e.
            step.other_traces i (off_other i e) ∙ h.own_trace i l (off_before i l e);
        left = λ i l b s e.
            let ne = off_other i e in
            absurd
            (let none = h.left i (omega (arith, l, ne)) b s (off_before i b e) in
            omega (arith, none, some));
        ahead = λ i l b.
            other i b (λ same. absurd (omega (arith, l, same))) ∙ h.ahead i (omega (arith, l)) b;
        takes = λ i l e. takes_now i l e (cases_eq i lane);
        each = λ k l m. each_now k l m (cases_eq k left');
      }

  -- `TakenSoFar` for lists and numbers that are equal to these
  pub taken_as :
      (p t p0 t0 : List ℕ) (taken left k0 l0 lane : ℕ) → p0 ≡ p → t0 ≡ t → k0 ≡ taken →
      l0 ≡ left → TakenSoFar p t taken left lane → TakenSoFar p0 t0 k0 l0 lane
  taken_as p t p0 t0 taken left k0 l0 lane a b d e h =
      let h1 = subst (λ x. TakenSoFar x t taken left lane) (sym a) h in
      let h2 = subst (λ x. TakenSoFar p0 x taken left lane) (sym b) h1 in
      let h3 = subst (λ x. TakenSoFar p0 t0 x left lane) (sym d) h2 in
      subst (λ x. TakenSoFar p0 t0 k0 x lane) (sym e) h3

  -- the members are taken when all lanes have had their turns, or no member waits
  pub all_taken :
      (p t : List ℕ) (taken left lane : ℕ) → (n ≤ lane) ⊎ (left ≤ n) →
      TakenSoFar p t taken left lane →
      AreTaken members n settled places p traces t rest taken left
  all_taken p t taken left lane end h = record {
    places_room = h.places_room;
    traces_room = h.traces_room;
    not_below = h.not_below;
    not_above = h.not_above;
    own_place = h.own_place;
    own_trace = h.own_trace;
    left = λ i l s e. by i l s e end;
    takes = h.takes;
    each = h.each;
  }
    where
      by : (i : ℕ) → i < n → on settled i ≡ true → on taken i ≡ false →
          (n ≤ lane) ⊎ (left ≤ n) → left ≡ n
      by i l s e (inl all) = h.left i (omega (arith, l, all)) (omega (arith, l, most)) s e
      by i l s e (inr none) = let least = h.not_below in omega (arith, none, least)

-- where no member waits, none is taken
pub nothing_taken :
    (members : List ℕ) (n settled : ℕ) (places traces : List ℕ) (rest : ℕ) → rest ≡ n →
    AreTaken members n settled places places traces traces rest 0 rest
nothing_taken members n settled places traces rest none = record {
  places_room = refl;
  traces_room = refl;
  not_below = omega (arith, none);
  not_above = omega arith;
  own_place = λ i l e. refl;
  own_trace = λ i l e. refl;
  left = λ i l s e. none;
  takes = λ i l e. absurd (true≢false (sym e ∙ on-zero i));
  each = λ k l m. absurd (omega (arith, l, m));
}

-- where no member is taken, no lane begins again
pub no_restart : (run : BatchRun) (lanes : Plane) → lanes.0 ≡ 0 → IsRestart run run lanes
no_restart run lanes none = record {
  empty = λ i l e. absurd (true≢false (sym e ∙ off i));
  others = λ i X l e h. h;
  verdicts = λ i l e. refl;
  active = λ i l. sym (ap (λ b. on run.active.0 i || b) (off i) ∙ or_false (on run.active.0 i));
  begins = λ i l. sym (ap (λ b. if b then run.steps else begin_of run.begins.items i) (off i));
  steps = refl;
  program = refl;
}
  where
    off : (i : ℕ) → on lanes.0 i ≡ false
    off i = ap (λ n. on n i) none ∙ on-zero i

    or_false : (b : Bool) → (b || false) ≡ b
    or_false true = refl
    or_false false = refl

-- ## Verdicts that are kept

-- one more right verdict is kept
pub kept_more :
    (f : FlatProgram) (r : Recording) (members : List ℕ) (has has' : ℕ → Verdict → Type 0)
    (place : ℕ) (v : Verdict) → IsVerdictOf f r (get_or members place 0) v → has' place v →
    ((k : ℕ) (w : Verdict) → k ≢ place → has k w → has' k w) → (k : ℕ) →
    HasVerdict f r members has k → HasVerdict f r members has' k
kept_more f r members has has' place v right now others k h = by (cases_eq k place)
  where
    by : (k ≡ place) ⊎ (k ≢ place) → HasVerdict f r members has' k
    by (inl same) =
        subst (HasVerdict f r members has') (sym same)
        (record { verdict = v; held = now; right = right })
    by (inr ne) = record {
      verdict = h.verdict;
      held = others k h.verdict ne h.held;
      right = h.right;
    }
