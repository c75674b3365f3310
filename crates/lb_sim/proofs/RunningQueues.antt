-- Lanes that run the members of a queue: the member of each lane, and its progress.
use Rattle.std.proofs.Common.{◌≡◌, ℕ, zero, suc, ◌+◌, ◌-◌, ◌<◌, ◌≤◌, ◌&&◌, ◌||◌, Bool, true}
use Rattle.std.proofs.Common.{false, not, List, length, get_or, refl, sym, ap, ap₂, ◌∙◌}
use Rattle.std.proofs.Common.{subst, arith, ◌⊎◌, inl, inr, ◌^◌}
use Rattle.std.proofs.lemmas.Bool.{true≢false, and_parts, cases_lt, lt-ltb, ltb-true}
use Rattle.std.proofs.lemmas.List.{get_or_default, take_all}
use Rattle.std.proofs.lemmas.List.Sums.{sum_by_more}
use Rattle.std.specs.List.{All, sum_by}
use Rattle.std.specs.Prelude.{nat_lt, if◌then◌else◌}
use Rattle.lb_check.specs.declared.verdict.Verdict.{Verdict}
use Rattle.lb_flat.specs.Correct.{IsVerdictOf}
use Rattle.lb_flat.specs.Flat.{FlatClock}
use Rattle.lb_flat.specs.Inputs.{inputs_of}
use Rattle.lb_flat.specs.Judging.{flat_verdict}
use Rattle.lb_flat.specs.Programs.{program_of}
use Rattle.lb_traces.specs.Traces.{Recording, IsRecording}
use Rattle.lb_flat.proofs.ordering.Ordering.{ready_of}
use Rattle.lb_lanes.specs.Planes.{IsPlaneOf, on}
use Rattle.lb_lanes.specs.declared.planes.Plane.{Plane}
use Rattle.lb_lanes.proofs.OnPlanes.{on-zero, SetBit}
use Rattle.lb_sim.specs.BatchLanes.{length_in, end_in, AreRunning, IsAt}
use Rattle.lb_sim.specs.BatchRuns.{steps_in, verdict_at}
use Rattle.lb_sim.specs.Correct.{HasVerdict, IsFresh, IsRestart}
use Rattle.lb_sim.specs.InputRows.{begin_of}
use Rattle.lb_sim.specs.Progress.{AreRunTo, Fits, GoOn, IsRunTo, right_verdict}
use Rattle.lb_sim.specs.Queues.{goes_on, instants_to, length_of, IsInLane, AreTaken, HasBegun}
use Rattle.lb_sim.specs.Queues.{AreKept}
use Rattle.lb_sim.specs.declared.batch_run.BatchRun.{BatchRun}
use Rattle.lb_sim.specs.declared.program.LaneProgram.{LaneProgram}
use Rattle.lb_sim.proofs.BatchVerdicts.{verdict_of}
use Rattle.lb_sim.proofs.Batches.{verdict_at_rest}
use Rattle.lb_sim.proofs.RunningBatches.{as_long, lane_begins, running_is, verdict_so_far}

-- ## The instants of the first members

module _ (r : Recording) (members : List ℕ) where
  pub next_instants :
      (k : ℕ) → k < length members →
      instants_to r members (k + 1) ≡ instants_to r members k + length_of r (get_or members k 0)
  next_instants k l = sum_by_more (length_of r) members k 0 l

  pub more_instants :
      (j k : ℕ) → j ≤ k → k ≤ length members → instants_to r members j ≤ instants_to r members k
  more_instants j zero le l =
      let e : j ≡ 0 = omega (arith, le) in
      subst (λ n. instants_to r members j ≤ instants_to r members n) e (omega arith)
  more_instants j (suc k) le l = by (more_instants j k) (cases_lt j (suc k))
    where
      by : (j ≤ k → k ≤ length members → instants_to r members j ≤ instants_to r members k) →
          (j < suc k) ⊎ (suc k ≤ j) → instants_to r members j ≤ instants_to r members (suc k)
      by further (inr ge) =
          let e : j ≡ suc k = omega (arith, le, ge) in
          subst (λ n. instants_to r members j ≤ instants_to r members n) e (omega arith)
      by further (inl lt) =
          let before = further (omega (arith, lt)) (omega (arith, l)) in
          let next = next_instants k (omega (arith, l)) in
          let same : k + 1 ≡ suc k = omega arith in
          subst (λ n. instants_to r members j ≤ instants_to r members n) same
          (omega (arith, before, next))

both_true : (a b : Bool) → a ≡ true → b ≡ true → (a && b) ≡ true
both_true true true e f = refl
both_true true false e f = absurd (true≢false (sym f))
both_true false b e f = absurd (true≢false (sym e))

or_false : (b : Bool) → (b || false) ≡ b
or_false true = refl
or_false false = refl

or_true : (b : Bool) → (b || true) ≡ true
or_true true = refl
or_true false = refl

-- a pending lane that is not settled goes on
settled_not : (pending goes : Bool) → (pending && not goes) ≡ false → pending ≡ true → goes ≡ true
settled_not true true e f = refl
settled_not true false e f = absurd (true≢false e)
settled_not false goes e f = absurd (true≢false (sym f))

pub settled_both : (pending goes : Bool) → (pending && not goes) ≡ true →
    (pending ≡ true) × (goes ≡ false)
settled_both true true e = absurd (true≢false (sym e))
settled_both true false e = (refl, refl)
settled_both false goes e = absurd (true≢false (sym e))

-- a lane that is pending still was pending before, or has taken a member
still_pending : (before settled taken : Bool) → ((before && not settled) || taken) ≡ true →
    taken ≡ false → (before ≡ true) × (settled ≡ false)
still_pending true true true e f = absurd (true≢false f)
still_pending true true false e f = absurd (true≢false (sym e))
still_pending true false taken e f = (refl, refl)
still_pending false settled true e f = absurd (true≢false f)
still_pending false settled false e f = absurd (true≢false (sym e))

none_pending : (before settled taken : Bool) → ((before && not settled) || taken) ≡ false →
    taken ≡ false
none_pending true true taken e = e
none_pending true false taken e = absurd (true≢false e)
none_pending false settled taken e = e

module _ (p : LaneProgram) (r : Recording) (members : List ℕ) (n : ℕ) (few : n ≤ 64)
    (enough : n ≤ length members) (inside : All (λ k. k < length r.traces) members) where
  abbrev total : ℕ
  total = sum_by (length_of r) members

  abbrev to : ℕ → ℕ
  to = instants_to r members

  -- ## Before the first instant

  pub all_begin :
      (run : BatchRun) (traces places : List ℕ) (has : ℕ → Verdict → Type 0) →
      run.active.0 < 2 ^ 64 → 0 < n → run.program.now ≡ p → IsFresh run n → length places ≡ 64 →
      length traces ≡ 64 →
      ((i : ℕ) → i < 64 → get_or places i 0 ≡ i) → All (λ k. k < length r.traces) traces →
      ((i : ℕ) → i < n → get_or traces i 0 ≡ get_or members i 0) →
      AreRunTo p r members n run traces places run.active.0 (length members) has
  all_begin run traces places has fits some program_is fresh places_room traces_room places_are
      traces_within traces_are = record {
        program_is = program_is;
        places_room = places_room;
        traces_room = traces_room;
        rest_least = enough;
        rest_most = omega arith;
        traces_within = traces_within;
        places_within = λ i l.
            let is = places_are i (omega (arith, l, few)) in omega (arith, is, l, enough);
        traces_are = λ i l.
            traces_are i l
            ∙ ap (λ k. get_or members k 0) (sym (places_are i (omega (arith, l, few))));
        each = λ K fits i l.
            lane_begins p run (inputs_of r (get_or traces i 0)) i (steps_in run i)
            (omega (arith, fresh.none)) (fresh.empty i l) (active i l);
        kept = λ k l begun. inr (first_lane k l begun);
        fits = fits;
        ended = λ none.
            absurd
            (true≢false
            (sym (active 0 some) ∙ ap (λ m. on m 0) none ∙ on-zero 0));
        active_first = λ i l e. ltb-true i n (sym (fresh.all i l) ∙ e);
        pending_first = λ i l e. ltb-true i n (sym (fresh.all i l) ∙ e);
        steps_within = omega (arith, fresh.none, whole);
        ends_within = λ i l.
            let begun = run.begun i (omega (arith, l, few)) in
            let long = ap (length_of r) (traces_are i l) in
            let within = first_within i l in
            omega (arith, begun, fresh.none, long, within, whole);
      }
    where
      active : (i : ℕ) → i < n → on run.active.0 i ≡ true
      active i l = fresh.all i (omega (arith, l, few)) ∙ lt-ltb i n l

      whole : to (length members) ≡ total
      whole = ap (sum_by (length_of r)) (take_all (length members) members (omega arith))

      first_within : (i : ℕ) → i < n → length_of r (get_or members i 0) ≤ to n
      first_within i l =
          let next = next_instants r members i (omega (arith, l, enough)) in
          let more = more_instants r members (i + 1) n (omega (arith, l)) enough in
          omega (arith, next, more)

      first_lane : (k : ℕ) → k < length members → HasBegun n (length members) k →
          IsInLane places run.active.0 n k
      first_lane k l (inl m) = record {
        lane = k;
        below = m;
        pends = active k m;
        place = places_are k (omega (arith, m, few));
      }
      first_lane k l (inr m) = absurd (omega (arith, l, m))

  -- ## A lane whose trace does not go on

  pub right_at_rest :
      (run : BatchRun) (traces places : List ℕ) (i : ℕ) → run.program.now ≡ p →
      get_or traces i 0 ≡ get_or members (get_or places i 0) 0 →
      IsRunTo p run (inputs_of r (get_or traces i 0)) i (steps_in run i) →
      (on run.active.0 i && nat_lt (steps_in run i) (length_in r traces i)) ≡ false →
      verdict_at run i ≡ right_verdict p r members (get_or places i 0)
  right_at_rest run traces places i program_is trace_is here off =
      let X = inputs_of r (get_or traces i 0) in
      verdict_at_rest (program_of p.program.now) X (verdict_at run i) (on run.active.0 i) here.n
      (steps_in run i) (verdict_so_far p run X i (steps_in run i) program_is here) here.here
      (ap (λ m. on run.active.0 i && nat_lt (steps_in run i) m) (as_long r traces i) ∙ off)
      ∙ ap (λ k. flat_verdict (program_of p.program.now) (inputs_of r k)) trace_is

  -- the verdict of a lane whose trace does not go on is the right one
  pub settled_right :
      (run : BatchRun) (traces places : List ℕ) (pending rest : ℕ)
      (has : ℕ → Verdict → Type 0) → AreRunTo p r members n run traces places pending rest has →
      IsRecording r → (i : ℕ) → i < n → goes_on run r traces i ≡ false →
      IsVerdictOf (program_of p.program.now) r (get_or members (get_or places i 0) 0)
      (verdict_at run i)
  settled_right run traces places pending rest has h lawful i l off =
      verdict_of (program_of p.program.now) r (get_or members (get_or places i 0) 0)
      (verdict_at run i) (ready_of p.program.now.size (program_of p.program.now).equations
      p.in_order) lawful (inside (get_or places i 0) 0 (h.places_within i l))
      (λ K fits.
      right_at_rest run traces places i h.program_is (h.traces_are i l) (h.each K fits i l) off)

  -- the settled lanes are the pending lanes that do not go on
  pub lanes_settled :
      (run : BatchRun) (traces places : List ℕ) (pending rest : ℕ)
      (has : ℕ → Verdict → Type 0) → AreRunTo p r members n run traces places pending rest has →
      (plane until settled : ℕ) →
      AreRunning r traces run.begins.items run.steps plane until →
      IsPlaneOf (λ i. on pending i && not (on run.active.0 i && on plane i)) settled →
      (i : ℕ) → i < 64 → on settled i ≡ (on pending i && not (goes_on run r traces i))
  lanes_settled run traces places pending rest has h plane until settled runs is i l =
      is i l
      ∙ ap (λ b. on pending i && not (on run.active.0 i && b))
      (running_is r traces run.begins.items run.steps plane until (omega (arith, h.traces_room))
      run.begun runs i (omega (arith, l, h.traces_room)))

  -- where no lane is settled, each pending lane goes on
  pub none_settled :
      (run : BatchRun) (traces : List ℕ) (pending settled before rest : ℕ) →
      ((i : ℕ) → i < 64 → on settled i ≡ (on pending i && not (goes_on run r traces i))) →
      settled ≡ 0 → GoOn r run traces pending n before rest
  none_settled run traces pending settled before rest is none i l e =
      let l64 : i < 64 = omega (arith, l, few) in
      inr
      (settled_not (on pending i) (goes_on run r traces i)
      (sym (is i l64) ∙ ap (λ m. on m i) none ∙ on-zero i) e)

  -- ## Lanes take members that wait

  module _ (old new : BatchRun) (traces traces' places places' : List ℕ)
      (pending pending' settled rest rest' : ℕ) (has has' : ℕ → Verdict → Type 0)
      (lanes : Plane) (h : AreRunTo p r members n old traces places pending rest has)
      (taken :
      AreTaken members n settled places places' traces traces' rest lanes.0 rest')
      (again : IsRestart old new lanes)
      (settled_is :
      (i : ℕ) → i < 64 → on settled i ≡ (on pending i && not (goes_on old r traces i)))
      (some_settled : SetBit settled 64)
      (pending_is :
      (i : ℕ) → i < 64 → on pending' i ≡ ((on pending i && not (on settled i)) || on lanes.0 i))
      (fits : pending' < 2 ^ 64)
      (stays :
      (k : ℕ) → HasVerdict (program_of p.program.now) r members has k →
      HasVerdict (program_of p.program.now) r members has' k)
      (keeps :
      (i : ℕ) → i < n → on settled i ≡ true →
      HasVerdict (program_of p.program.now) r members has' (get_or places i 0)) where
    lane : (i : ℕ) → i < n → i < 64
    lane i l = omega (arith, l, few)

    begin_kept : (i : ℕ) → i < 64 → on lanes.0 i ≡ false →
        begin_of new.begins.items i ≡ begin_of old.begins.items i
    begin_kept i l e =
        again.begins i l ∙ ap (λ b. if b then old.steps else begin_of old.begins.items i) e

    begin_now : (i : ℕ) → i < 64 → on lanes.0 i ≡ true → begin_of new.begins.items i ≡ old.steps
    begin_now i l e =
        again.begins i l ∙ ap (λ b. if b then old.steps else begin_of old.begins.items i) e

    active_kept : (i : ℕ) → i < 64 → on lanes.0 i ≡ false →
        on new.active.0 i ≡ on old.active.0 i
    active_kept i l e =
        again.active i l ∙ ap (λ b. on old.active.0 i || b) e ∙ or_false (on old.active.0 i)

    active_now : (i : ℕ) → i < 64 → on lanes.0 i ≡ true → on new.active.0 i ≡ true
    active_now i l e =
        again.active i l ∙ ap (λ b. on old.active.0 i || b) e ∙ or_true (on old.active.0 i)

    steps_kept : (i : ℕ) → i < 64 → on lanes.0 i ≡ false → steps_in new i ≡ steps_in old i
    steps_kept i l e =
        ap (λ m. m - begin_of new.begins.items i) again.steps
        ∙ ap (λ b. old.steps - b) (begin_kept i l e)

    fewer : to rest' ≤ to rest
    fewer = more_instants r members rest' rest taken.not_above h.rest_most

    -- a lane that takes no member goes on if it did before
    pub goes_kept : (i : ℕ) → i < n → on lanes.0 i ≡ false →
        goes_on new r traces' i ≡ goes_on old r traces i
    goes_kept i l e =
        ap₂ (λ a m. a && nat_lt m (length_in r traces' i)) (active_kept i (lane i l) e)
        (steps_kept i (lane i l) e)
        ∙ ap (λ k. on old.active.0 i && nat_lt (steps_in old i) (length_of r k))
        (taken.own_trace i (lane i l) e)

    place_within : (i : ℕ) → i < n → (b : Bool) → on lanes.0 i ≡ b →
        get_or places' i 0 < length members
    place_within i l false e =
        let same = taken.own_place i (lane i l) e in
        let before = h.places_within i l in
        omega (arith, same, before)
    place_within i l true e =
        let below = (taken.takes i (lane i l) e).before in
        let most = h.rest_most in
        omega (arith, below, most)

    trace_is : (i : ℕ) → i < n → (b : Bool) → on lanes.0 i ≡ b →
        get_or traces' i 0 ≡ get_or members (get_or places' i 0) 0
    trace_is i l false e =
        taken.own_trace i (lane i l) e
        ∙ h.traces_are i l
        ∙ ap (λ k. get_or members k 0) (sym (taken.own_place i (lane i l) e))
    trace_is i l true e = (taken.takes i (lane i l) e).trace_is

    trace_within : (i : ℕ) → i < 64 → (b : Bool) → on lanes.0 i ≡ b →
        get_or traces' i 0 < length r.traces
    trace_within i l false e =
        subst (λ k. k < length r.traces) (sym (taken.own_trace i l e))
        (h.traces_within i 0 (omega (arith, l, h.traces_room)))
    trace_within i l true e =
        let has = taken.takes i l e in
        let below = has.before in
        let most = h.rest_most in
        subst (λ k. k < length r.traces) (sym has.trace_is)
        (inside (get_or places' i 0) 0 (omega (arith, below, most)))

    each_after : (K : ℕ → FlatClock) → Fits p K → (i : ℕ) → i < n → (b : Bool) →
        on lanes.0 i ≡ b → IsRunTo p new (inputs_of r (get_or traces' i 0)) i (steps_in new i)
    each_after K fits i l false e =
        let before = h.each K fits i l in
        let l64 = lane i l in
        subst (λ k. IsRunTo p new (inputs_of r k) i (steps_in new i))
        (sym (taken.own_trace i l64 e))
        (subst (IsRunTo p new (inputs_of r (get_or traces i 0)) i) (sym (steps_kept i l64 e))
        (record {
          n = before.n;
          trace = before.trace;
          alike = before.alike;
          stands = again.others i before.trace l64 e before.stands;
          here =
              subst
              (λ v.
              IsAt v (on new.active.0 i) (length (inputs_of r (get_or traces i 0))) before.n
              (steps_in old i))
              (sym (again.verdicts i l64 e))
              (subst
              (λ a.
              IsAt (verdict_at old i) a (length (inputs_of r (get_or traces i 0))) before.n
              (steps_in old i))
              (sym (active_kept i l64 e)) before.here);
        }))
    each_after K fits i l true e =
        let now = begin_now i (lane i l) e in
        lane_begins p new (inputs_of r (get_or traces' i 0)) i (steps_in new i)
        (omega (arith, now, again.steps)) (again.empty i (lane i l) e) (active_now i (lane i l) e)

    -- a trace ends within the instants of the members that have begun
    end_within : (i : ℕ) → i < n → (b : Bool) → on lanes.0 i ≡ b →
        end_in r traces' new.begins.items i + to rest' ≤ total + to n
    end_within i l false e =
        let begin = begin_kept i (lane i l) e in
        let long = ap (length_of r) (taken.own_trace i (lane i l) e) in
        let before = h.ends_within i l in
        omega (arith, begin, long, before, fewer)
    end_within i l true e =
        let has = taken.takes i (lane i l) e in
        let k = get_or places' i 0 in
        let begin = begin_now i (lane i l) e in
        let long = ap (length_of r) has.trace_is in
        let below = has.before in
        let most = h.rest_most in
        let steps = h.steps_within in
        let next = next_instants r members k (omega (arith, below, most)) in
        let least = more_instants r members rest' k has.after (omega (arith, below, most)) in
        let further = more_instants r members (k + 1) rest (omega (arith, below)) most in
        omega (arith, begin, long, steps, next, least, further)

    -- a lane that takes no member is not among those that begin
    idle_none : (i : ℕ) → i < 64 → on settled i ≡ false → on lanes.0 i ≡ false
    idle_none i l off = by (on lanes.0 i) refl
      where
        by : (b : Bool) → on lanes.0 i ≡ b → on lanes.0 i ≡ false
        by false e = e
        by true e = absurd (true≢false (sym (taken.takes i l e).idle ∙ off))

    -- the verdict of a lane is kept, or the lane is still pending
    in_lane :
        (k : ℕ) (there : IsInLane places pending n k) (b : Bool) → on settled there.lane ≡ b →
        HasVerdict (program_of p.program.now) r members has' k ⊎ IsInLane places' pending' n k
    in_lane k there true e =
        inl
        (subst (HasVerdict (program_of p.program.now) r members has') there.place
        (keeps there.lane there.below e))
    in_lane k there false e =
        let l64 = lane there.lane there.below in
        let none = idle_none there.lane l64 e in
        inr
        (record {
          lane = there.lane;
          below = there.below;
          pends =
              pending_is there.lane l64
              ∙ ap₂ (λ a b. (a && not b) || on lanes.0 there.lane) there.pends e
              ∙ refl;
          place = taken.own_place there.lane l64 none ∙ there.place;
        })

    kept_from :
        (k : ℕ) →
        HasVerdict (program_of p.program.now) r members has k ⊎ IsInLane places pending n k →
        HasVerdict (program_of p.program.now) r members has' k ⊎ IsInLane places' pending' n k
    kept_from k (inl had) = inl (stays k had)
    kept_from k (inr there) = in_lane k there (on settled there.lane) refl

    now_in_lane : (k : ℕ) → IsInLane places' lanes.0 n k → IsInLane places' pending' n k
    now_in_lane k there = record {
      lane = there.lane;
      below = there.below;
      pends =
          pending_is there.lane (lane there.lane there.below)
          ∙ ap (λ b. (on pending there.lane && not (on settled there.lane)) || b) there.pends
          ∙ or_true (on pending there.lane && not (on settled there.lane));
      place = there.place;
    }

    kept_after : AreKept (program_of p.program.now) r members has' places' pending' n rest'
    kept_after k l (inl m) = kept_from k (h.kept k l (inl m))
    kept_after k l (inr m) = by (cases_lt k rest)
      where
        by : (k < rest) ⊎ (rest ≤ k) →
            HasVerdict (program_of p.program.now) r members has' k
            ⊎ IsInLane places' pending' n k
        by (inl below) = inr (now_in_lane k (taken.each k m below))
        by (inr above) = kept_from k (h.kept k l (inr above))

    first_of : (i : ℕ) → i < 64 → on new.active.0 i ≡ true → (b : Bool) → on lanes.0 i ≡ b → i < n
    first_of i l e true is = (taken.takes i l is).inside
    first_of i l e false is = h.active_first i l (sym (active_kept i l is) ∙ e)

    pending_of :
        (i : ℕ) → i < 64 → on pending' i ≡ true → (b : Bool) → on lanes.0 i ≡ b → i < n
    pending_of i l e true is = (taken.takes i l is).inside
    pending_of i l e false is =
        h.pending_first i l
        (still_pending (on pending i) (on settled i) (on lanes.0 i) (sym (pending_is i l) ∙ e)
        is).0

    -- where no lane is pending any more, no member waits
    ended_after : pending' ≡ 0 → rest' ≡ n
    ended_after none =
        let i = some_settled.place in
        let l64 = some_settled.within in
        let was =
        settled_both (on pending i) (goes_on old r traces i)
        (sym (settled_is i l64) ∙ some_settled.is_set) in
        taken.left i (h.pending_first i l64 was.0) some_settled.is_set
        (none_pending (on pending i) (on settled i) (on lanes.0 i)
        (sym (pending_is i l64) ∙ ap (λ m. on m i) none ∙ on-zero i))

    pub all_go_on : GoOn r new traces' pending' n rest rest'
    all_go_on i l e = by (on lanes.0 i) refl
      where
        by : (b : Bool) → on lanes.0 i ≡ b →
            (rest' < rest) ⊎ (goes_on new r traces' i ≡ true)
        by true is =
            let has_taken = taken.takes i (lane i l) is in
            let after = has_taken.after in
            let before = has_taken.before in
            inl (omega (arith, after, before))
        by false is =
            let was =
            still_pending (on pending i) (on settled i) (on lanes.0 i)
            (sym (pending_is i (lane i l)) ∙ e) is in
            inr
            (goes_kept i l is
            ∙ settled_not (on pending i) (goes_on old r traces i)
            (sym (settled_is i (lane i l)) ∙ was.1) was.0)

    pub all_taken_on : AreRunTo p r members n new traces' places' pending' rest' has'
    all_taken_on = record {
      program_is = again.program ∙ h.program_is;
      places_room = taken.places_room ∙ h.places_room;
      traces_room = taken.traces_room ∙ h.traces_room;
      rest_least = taken.not_below;
      rest_most =
          let above = taken.not_above in
          let most = h.rest_most in
          omega (arith, above, most);
      traces_within = λ k d l.
          subst (λ v. v < length r.traces) (get_or_default traces' k 0 d l)
          (trace_within k (omega (arith, l, taken.traces_room, h.traces_room)) (on lanes.0 k)
          refl);
      places_within = λ i l. place_within i l (on lanes.0 i) refl;
      traces_are = λ i l. trace_is i l (on lanes.0 i) refl;
      each = λ K fits i l. each_after K fits i l (on lanes.0 i) refl;
      kept = kept_after;
      fits = fits;
      ended = ended_after;
      active_first = λ i l e. first_of i l e (on lanes.0 i) refl;
      pending_first = λ i l e. pending_of i l e (on lanes.0 i) refl;
      steps_within =
          let before = h.steps_within in omega (arith, before, fewer, again.steps);
      ends_within = λ i l. end_within i l (on lanes.0 i) refl;
    }

  -- ## The same lanes go on for a stretch

  module _ (old new : BatchRun) (traces places : List ℕ) (pending rest : ℕ)
      (has : ℕ → Verdict → Type 0) (plane until : ℕ)
      (h : AreRunTo p r members n old traces places pending rest has)
      (runs : AreRunning r traces old.begins.items old.steps plane until)
      (program_is : new.program.now ≡ old.program.now)
      (begins_are : new.begins.items ≡ old.begins.items)
      (within :
      (bound : ℕ) → old.steps ≤ bound →
      ((i : ℕ) → i < length traces → on old.active.0 i ≡ true →
      end_in r traces old.begins.items i ≤ bound) →
      new.steps ≤ bound)
      (fewer : (i : ℕ) → i < 64 → on new.active.0 i ≡ true → on old.active.0 i ≡ true)
      (come :
      (K : ℕ → FlatClock) → Fits old.program.now K → (i : ℕ) → i < length traces →
      IsRunTo old.program.now old (inputs_of r (get_or traces i 0)) i (steps_in old i) →
      IsRunTo old.program.now new (inputs_of r (get_or traces i 0)) i (steps_in new i)) where
    in_traces : (i : ℕ) → i < n → i < length traces
    in_traces i l = omega (arith, l, few, h.traces_room)

    begin_same : (i : ℕ) → begin_of new.begins.items i ≡ begin_of old.begins.items i
    begin_same i = ap (λ bs. begin_of bs i) begins_are

    come_for : (K : ℕ → FlatClock) → Fits p K → (i : ℕ) → i < n →
        IsRunTo p new (inputs_of r (get_or traces i 0)) i (steps_in new i)
    come_for K fits i l =
        subst
        (λ (q : LaneProgram).
        IsRunTo q new (inputs_of r (get_or traces i 0)) i (steps_in new i)) h.program_is
        (come K (subst (λ (q : LaneProgram). Fits q K) (sym h.program_is) fits) i (in_traces i l)
        (subst
        (λ (q : LaneProgram).
        IsRunTo q old (inputs_of r (get_or traces i 0)) i (steps_in old i)) (sym h.program_is)
        (h.each K fits i l)))

    steps_after : new.steps + to rest ≤ total + to n
    steps_after =
        let steps = h.steps_within in
        let le = within (total + to n - to rest) (omega (arith, steps))
        (λ i l e.
        let end = h.ends_within i (h.active_first i (omega (arith, l, h.traces_room)) e) in
        omega (arith, end)) in
        omega (arith, le, steps)

    pub all_ranged : AreRunTo p r members n new traces places pending rest has
    all_ranged = record {
      program_is = program_is ∙ h.program_is;
      places_room = h.places_room;
      traces_room = h.traces_room;
      rest_least = h.rest_least;
      rest_most = h.rest_most;
      traces_within = h.traces_within;
      places_within = h.places_within;
      traces_are = h.traces_are;
      each = come_for;
      kept = h.kept;
      fits = h.fits;
      ended = h.ended;
      active_first = λ i l e. h.active_first i l (fewer i l e);
      pending_first = h.pending_first;
      steps_within = steps_after;
      ends_within = λ i l.
          let same = begin_same i in
          let end = h.ends_within i l in
          omega (arith, same, end);
    }

    -- where no step was taken
    module _ (none : new.steps ≡ old.steps)
        (rests : (i : ℕ) → i < 64 → (on new.active.0 i && on plane i) ≡ false)
        (still : new.active ≡ old.active) where
      runs_own : (i : ℕ) → i < n →
          on plane i ≡ nat_lt (steps_in old i) (length_in r traces i)
      runs_own i l =
          running_is r traces old.begins.items old.steps plane until
          (omega (arith, h.traces_room)) old.begun runs i (in_traces i l)

      -- no lane goes on
      pub none_goes : (i : ℕ) → i < n → goes_on old r traces i ≡ true → ⊥
      none_goes i l goes =
          let both = and_parts (on old.active.0 i)
          (nat_lt (steps_in old i) (length_in r traces i)) goes in
          let active : on new.active.0 i ≡ true =
          ap (λ (a : Plane). on a.0 i) still ∙ both.0 in
          true≢false
          (sym (both_true (on new.active.0 i) (on plane i) active (runs_own i l ∙ both.1))
          ∙ rests i (omega (arith, l, few)))

  -- ## The end

  -- where no lane is pending, the right verdict of each member is kept
  pub all_judged :
      (run : BatchRun) (traces places : List ℕ) (pending rest : ℕ)
      (has : ℕ → Verdict → Type 0) → AreRunTo p r members n run traces places pending rest has →
      pending ≡ 0 → (k : ℕ) → k < length members →
      HasVerdict (program_of p.program.now) r members has k
  all_judged run traces places pending rest has h none k l = by (cases_lt k n)
    where
      from :
          HasVerdict (program_of p.program.now) r members has k ⊎ IsInLane places pending n k →
          HasVerdict (program_of p.program.now) r members has k
      from (inl had) = had
      from (inr there) =
          absurd
          (true≢false
          (sym there.pends ∙ ap (λ m. on m there.lane) none ∙ on-zero there.lane))

      by : (k < n) ⊎ (n ≤ k) → HasVerdict (program_of p.program.now) r members has k
      by (inl below) = from (h.kept k l (inl below))
      by (inr above) = let all = h.ended none in from (h.kept k l (inr (omega (arith, all, above))))

  -- no more steps are taken than all members have instants
  pub never_past :
      (run : BatchRun) (traces places : List ℕ) (pending rest : ℕ)
      (has : ℕ → Verdict → Type 0) → AreRunTo p r members n run traces places pending rest has →
      total + 1 ≤ run.steps → ⊥
  never_past run traces places pending rest has h past =
      let steps = h.steps_within in
      let least = more_instants r members n rest h.rest_least h.rest_most in
      absurd (omega (arith, steps, least, past))

  -- where a lane is pending and goes on, a step is taken
  pub steps_or_takes :
      (old new : BatchRun) (traces places : List ℕ) (pending before rest : ℕ)
      (has : ℕ → Verdict → Type 0) →
      AreRunTo p r members n old traces places pending rest has →
      GoOn r old traces pending n before rest → SetBit pending 64 →
      (new.steps ≡ old.steps → (i : ℕ) → i < n → goes_on old r traces i ≡ true → ⊥) →
      new.steps ≡ old.steps → rest < before
  steps_or_takes old new traces places pending before rest has h go_on some none same =
      by (go_on some.place first some.is_set)
    where
      first : some.place < n
      first = h.pending_first some.place some.within some.is_set

      by : (rest < before) ⊎ (goes_on old r traces some.place ≡ true) → rest < before
      by (inl less) = less
      by (inr goes) = absurd (none same some.place first goes)
