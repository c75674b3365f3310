-- Lanes that run as long as the same lanes go on, instant by instant: the progress of each.
use Rattle.std.proofs.Common.{◌≡◌, ◌≢◌, ℕ, ◌+◌, ◌-◌, ◌<◌, ◌≤◌, ◌&&◌, Bool, true, false, List, []}
use Rattle.std.proofs.Common.{◌∷◌, ◌++◌, ◌^◌}
use Rattle.std.proofs.Common.{length, get_or, take, refl, sym, ap, ◌∙◌, subst, arith, ◌⊎◌, inl, inr}
use Rattle.std.proofs.lemmas.Bool.{true≢false, cases_lt, lt-ltb, le-ltb, ltb-true}
use Rattle.std.proofs.lemmas.List.{length-map}
use Rattle.std.proofs.Math.Logic.{∥∥₁_elim}
use Rattle.std.proofs.Props.{props}
use Rattle.std.specs.Prelude.{nat_lt}
use Rattle.lb_check.specs.Scalars.{Scalar}
use Rattle.lb_check.specs.Solutions.{Inputs}
use Rattle.lb_check.specs.declared.verdict.Verdict.{Verdict}
use Rattle.lb_check.specs.declared.verdict.Verdict.TheVariants.{Passed}
use Rattle.lb_flat.specs.Flat.{FlatClock}
use Rattle.lb_flat.specs.Inputs.{inputs_of, scalars_in}
use Rattle.lb_flat.specs.Judging.{flat_verdict}
use Rattle.lb_flat.specs.Programs.{program_of}
use Rattle.lb_traces.specs.Traces.{Recording, trace_at}
use Rattle.lb_lanes.specs.Planes.{IsPlaneOf, on}
use Rattle.lb_lanes.specs.declared.planes.Plane.{Plane}
use Rattle.lb_lanes.proofs.OnPlanes.{on-zero, some_on}
use Rattle.lb_sim.specs.BatchLanes.{end_in, length_in, AreRunning}
use Rattle.lb_sim.specs.BatchRuns.{steps_in, verdict_at}
use Rattle.lb_sim.specs.Correct.{IsStep, Stands}
use Rattle.lb_sim.specs.InputRows.{HaveInstant, begin_of, instant_in, places_of}
use Rattle.lb_sim.specs.Inputs.{IsAhead}
use Rattle.lb_sim.specs.LaneStates.{is_passed}
use Rattle.lb_sim.specs.Loads.{AreAmong}
use Rattle.lb_sim.specs.Progress.{Fits, AreRowsAlike, AreTracesAlike, IsRunTo}
use Rattle.lb_sim.specs.declared.ahead.Loaded.{Loaded}
use Rattle.lb_sim.specs.declared.batch_run.BatchRun.{BatchRun}
use Rattle.lb_sim.specs.declared.inputs.Inputs.{Inputs as Inputs_room}
use Rattle.lb_sim.specs.declared.program.LaneProgram.{LaneProgram}
use Rattle.lb_sim.proofs.AlikeRuns.{verdict_alike}
use Rattle.lb_sim.proofs.Batches.{one_more, moves_on, at_next, at_end}

-- ## Traces that are alike where they are read

one_row_more : (p : LaneProgram) (X Y : Inputs) (given other : List Scalar) →
    AreTracesAlike p X Y → AreRowsAlike p given other →
    AreTracesAlike p (X ++ given ∷ []) (Y ++ other ∷ [])
one_row_more p [] [] given other h row = (row, tt)
one_row_more p [] (y ∷ Y) given other h row = absurd h
one_row_more p (x ∷ X) [] given other h row = absurd h
one_row_more p (x ∷ X) (y ∷ Y) given other h row = (h.0, one_row_more p X Y given other h.1 row)

-- two traces that are alike where they are read have one verdict
same_verdict : (p : LaneProgram) (X Y : Inputs) → AreTracesAlike p X Y →
    flat_verdict (program_of p.program.now) X ≡ flat_verdict (program_of p.program.now) Y
same_verdict p X Y h =
    ∥∥₁_elim p.read_law (hlevel props)
    (λ law.
    verdict_alike (program_of p.program.now) (places_of 2 1 p.program.now.inputs.items)
    p.read.numbers.items p.read.truths law X Y h)

-- ## One lane

passed_is : (v : Verdict) → v ≡ Passed → is_passed v ≡ true
passed_is v e = ap is_passed e

-- a lane is run to one instant more
pub lane_goes_on :
    (p : LaneProgram) (old new : BatchRun) (X : Inputs) (i t : ℕ) (lane running : Bool)
    (given : List Scalar) → IsRunTo p old X i t → lane ≡ (on old.active.0 i && running) →
    running ≡ nat_lt t (length X) →
    (lane ≡ true → AreRowsAlike p given (get_or X t [])) →
    ((Y : Inputs) → lane ≡ true → Stands old i Y → Stands new i (Y ++ given ∷ [])) →
    ((Y : Inputs) → lane ≡ false → Stands old i Y → Stands new i Y) →
    (verdict_at old i ≢ Passed → verdict_at new i ≡ verdict_at old i) →
    on new.active.0 i ≡ (lane && is_passed (verdict_at new i)) → IsRunTo p new X i (t + 1)
lane_goes_on p old new X i t lane running given h is runs row moves stays settled active_is =
    by lane refl
  where
    found : is_passed (verdict_at new i) ≡ false → verdict_at new i ≢ Passed
    found off e = true≢false (sym (passed_is (verdict_at new i) e) ∙ off)

    by : (b : Bool) → lane ≡ b → IsRunTo p new X i (t + 1)
    by true e =
        let both = moves_on (on old.active.0 i) running lane is e in
        let here : h.n ≡ t = h.here.now both.0 in
        let below : t < length X = ltb-true t (length X) (sym runs ∙ both.1) in
        record {
          n = t + 1;
          trace = h.trace ++ given ∷ [];
          alike =
              subst (AreTracesAlike p (h.trace ++ given ∷ [])) (one_more X h.n t here below)
              (one_row_more p h.trace (take h.n X) given (get_or X t []) h.alike (row e));
          stands = moves h.trace e h.stands;
          here =
              at_next (verdict_at new i) (on new.active.0 i) (is_passed (verdict_at new i))
              (length X) t below
              (active_is ∙ ap (λ b. b && is_passed (verdict_at new i)) e) found;
        }
    by false e = record {
      n = h.n;
      trace = h.trace;
      alike = h.alike;
      stands = stays h.trace e h.stands;
      here =
          at_end (verdict_at old i) (verdict_at new i) (on old.active.0 i) running lane
          (on new.active.0 i) (length X) h.n t h.here is e runs
          (active_is ∙ ap (λ b. b && is_passed (verdict_at new i)) e) settled;
    }

-- a lane before its first instant is run to instant 0
pub lane_begins : (p : LaneProgram) (run : BatchRun) (X : Inputs) (i t : ℕ) → t ≡ 0 →
    Stands run i [] → on run.active.0 i ≡ true → IsRunTo p run X i t
lane_begins p run X i t none stands active = record {
  n = 0;
  trace = [];
  alike = tt;
  stands = stands;
  here = record {
    within = omega arith;
    now = λ e. sym none;
    ended = λ e. absurd (true≢false (sym active ∙ e));
  };
}

-- the verdict of a lane is that of its trace so far
pub verdict_so_far :
    (p : LaneProgram) (run : BatchRun) (X : Inputs) (i t : ℕ) → run.program.now ≡ p →
    (h : IsRunTo p run X i t) →
    verdict_at run i ≡ flat_verdict (program_of p.program.now) (take h.n X)
verdict_so_far p run X i t is h =
    subst
    (λ (q : LaneProgram). verdict_at run i ≡ flat_verdict (program_of q.program.now) h.trace) is
    h.stands.verdict_is
    ∙ same_verdict p h.trace (take h.n X) h.alike

-- ## The lanes that take part

pub as_long : (r : Recording) (members : List ℕ) (i : ℕ) →
    length (inputs_of r (get_or members i 0)) ≡ length_in r members i
as_long r members i =
    length-map (trace_at r.traces (get_or members i 0)).1 (scalars_in r.signature)

-- a trace goes on at an instant of the batch exactly where it goes on at its own instant
own_instant : (t begin long : ℕ) → begin ≤ t → nat_lt t (begin + long) ≡ nat_lt (t - begin) long
own_instant t begin long le = by (cases_lt (t - begin) long)
  where
    by : (t - begin < long) ⊎ (long ≤ t - begin) →
        nat_lt t (begin + long) ≡ nat_lt (t - begin) long
    by (inl l) =
        lt-ltb t (begin + long) (omega (arith, l, le)) ∙ sym (lt-ltb (t - begin) long l)
    by (inr m) =
        le-ltb t (begin + long) (omega (arith, m, le)) ∙ sym (le-ltb (t - begin) long m)

module _ (r : Recording) (members begins : List ℕ) (t lanes until : ℕ)
    (few : length members ≤ 64) (begun : (i : ℕ) → i < 64 → begin_of begins i ≤ t)
    (runs : AreRunning r members begins t lanes until) where
  -- `lanes` has a lane exactly where its trace goes on
  pub running_is :
      (i : ℕ) → i < length members →
      on lanes i ≡ nat_lt (instant_in begins t i) (length_in r members i)
  running_is i l =
      runs.lanes.members_on i t l (omega arith) runs.later
      ∙ own_instant t (begin_of begins i) (length_in r members i)
      (begun i (omega (arith, l, few)))

  -- a lane takes part where it is active and its trace goes on
  pub have_instant :
      (active live : ℕ) → IsPlaneOf (λ i. on active i && on lanes i) live →
      HaveInstant r members begins t live
  have_instant active live is i l e = record {
    member = inside;
    begun = begun i l;
    there =
        ltb-true (instant_in begins t i) (length_in r members i)
        (sym (running_is i inside) ∙ running);
  }
    where
      running : on lanes i ≡ true
      running = (moves_on (on active i) (on lanes i) (on live i) (is i l) e).1

      by : (i < length members) ⊎ (length members ≤ i) → i < length members
      by (inl m) = m
      by (inr m) = absurd (true≢false (sym running ∙ runs.lanes.others_off i m l))

      inside : i < length members
      inside = by (cases_lt i (length members))

-- the same lanes are running at a later instant
pub running_later :
    (r : Recording) (members begins : List ℕ) (t lanes until s : ℕ) →
    AreRunning r members begins t lanes until → t ≤ s → s < until →
    AreRunning r members begins s lanes until
running_later r members begins t lanes until s runs ge lt = record {
  later = lt;
  lanes = record {
    members_on = λ i q l m. runs.lanes.members_on i q l (omega (arith, ge, m));
    others_off = runs.lanes.others_off;
  };
}

-- live lanes have each instant that follows, while the same lanes go on
pub have_instants :
    (r : Recording) (members begins : List ℕ) (t lanes until : ℕ) → length members ≤ 64 →
    ((i : ℕ) → i < 64 → begin_of begins i ≤ t) → AreRunning r members begins t lanes until →
    (active live : ℕ) → IsPlaneOf (λ i. on active i && on lanes i) live → (s : ℕ) → t ≤ s →
    s < until → HaveInstant r members begins s live
have_instants r members begins t lanes until few begun runs active live is s ge lt =
    have_instant r members begins s lanes until few
    (λ i l. let b = begun i l in omega (arith, b, ge))
    (running_later r members begins t lanes until s runs ge lt) active live is

-- ## All lanes, while the same ones go on

-- from run `old` to `run`, which is at instant `t`: each lane that was run to its steps in `old` is
-- run to its steps in `run`
pub record AreComeTo (p : LaneProgram) (old run : BatchRun) (r : Recording) (members : List ℕ)
    (t : ℕ) : Type 0 where
  pub program_is : run.program.now ≡ p
  pub begins_are : run.begins.items ≡ old.begins.items
  pub steps_are : run.steps ≡ t
  pub come :
      (K : ℕ → FlatClock) → Fits p K → (i : ℕ) → i < length members →
      IsRunTo p old (inputs_of r (get_or members i 0)) i (steps_in old i) →
      IsRunTo p run (inputs_of r (get_or members i 0)) i (steps_in run i)

pub none_come : (run : BatchRun) (r : Recording) (members : List ℕ) →
    AreComeTo run.program.now run run r members run.steps
none_come run r members = record {
  program_is = refl;
  begins_are = refl;
  steps_are = refl;
  come = λ K fits i l h. h;
}

-- the traces of all lanes have begun
pub all_begun : (p : LaneProgram) (old run : BatchRun) (r : Recording) (members : List ℕ)
    (t : ℕ) → AreComeTo p old run r members t → (i : ℕ) → i < 64 →
    begin_of old.begins.items i ≤ t
all_begun p old run r members t h i l =
    let begun = run.begun i l in
    let same = ap (λ bs. begin_of bs i) h.begins_are in
    omega (arith, begun, same, h.steps_are)

module _ (p : LaneProgram) (old run new : BatchRun) (r : Recording) (members : List ℕ)
    (t lanes until : ℕ) (live : Plane) (rows : ℕ → List Scalar) (few : length members ≤ 64)
    (h : AreComeTo p old run r members t)
    (runs : AreRunning r members old.begins.items t lanes until)
    (is : IsPlaneOf (λ i. on run.active.0 i && on lanes i) live.0)
    (row :
    (i : ℕ) → i < 64 → on live.0 i ≡ true →
    AreRowsAlike p (rows i)
    (get_or (inputs_of r (get_or members i 0)) (instant_in old.begins.items t i) []))
    (step : IsStep run new rows live) where
  begins_same : run.begins.items ≡ old.begins.items
  begins_same = h.begins_are

  -- the own instant of a lane is its number of steps
  own : (i : ℕ) → steps_in run i ≡ instant_in old.begins.items t i
  own i = ap (λ n. n - begin_of run.begins.items i) h.steps_are
      ∙ ap (λ bs. t - begin_of bs i) begins_same

  next : (i : ℕ) → i < 64 → steps_in run i + 1 ≡ steps_in new i
  next i l =
      let begun = run.begun i l in
      let same = ap (λ bs. begin_of bs i) step.begins in
      omega (arith, begun, same, step.steps)

  lane_comes : (K : ℕ → FlatClock) → Fits p K → (i : ℕ) → i < length members →
      IsRunTo p run (inputs_of r (get_or members i 0)) i (steps_in run i) →
      IsRunTo p new (inputs_of r (get_or members i 0)) i (steps_in new i)
  lane_comes K fits i l so_far =
      let lt : i < 64 = omega (arith, l, few) in
      let X = inputs_of r (get_or members i 0) in
      let fits_run = subst (λ (q : LaneProgram). Fits q K) (sym h.program_is) fits in
      subst (IsRunTo p new X i) (next i lt)
      (lane_goes_on p run new X i (steps_in run i) (on live.0 i) (on lanes i) (rows i) so_far
      (is i lt)
      (running_is r members old.begins.items t lanes until few
      (all_begun p old run r members t h) runs i l
      ∙ ap (λ n. nat_lt n (length_in r members i)) (sym (own i))
      ∙ ap (nat_lt (steps_in run i)) (sym (as_long r members i)))
      (λ e. subst (λ n. AreRowsAlike p (rows i) (get_or X n [])) (sym (own i)) (row i lt e))
      (λ Y. step.moves K fits_run i Y lt) (λ Y. step.stays i Y lt) (step.settled i lt)
      (step.active i lt))

  -- all lanes come one instant further
  pub all_come : AreComeTo p old new r members (t + 1)
  all_come = record {
    program_is = step.program ∙ h.program_is;
    begins_are = step.begins ∙ h.begins_are;
    steps_are = step.steps ∙ ap (λ n. n + 1) h.steps_are;
    come = λ K fits i l so_far. lane_comes K fits i l (h.come K fits i l so_far);
  }

-- a bound on the ends of the traces of all active lanes is at least `t + 1`, where some lane takes
-- part
pub one_within :
    (r : Recording) (members begins : List ℕ) (t lanes until : ℕ) →
    AreRunning r members begins t lanes until → (active live : ℕ) →
    IsPlaneOf (λ i. on active i && on lanes i) live → 0 < live → live < 2 ^ 64 → (bound : ℕ) →
    ((i : ℕ) → i < length members → i < 64 → on active i ≡ true →
    end_in r members begins i ≤ bound) → t + 1 ≤ bound
one_within r members begins t lanes until runs active live is some fits bound ends =
    let there = some_on live 64 fits fits some in
    let both =
    moves_on (on active there.place) (on lanes there.place) (on live there.place)
    (is there.place there.within) there.is_set in
    by there.place there.within both.0 both.1
  where
    by : (i : ℕ) → i < 64 → on active i ≡ true → on lanes i ≡ true → t + 1 ≤ bound
    by i l on_active e = inside (cases_lt i (length members))
      where
        inside : (i < length members) ⊎ (length members ≤ i) → t + 1 ≤ bound
        inside (inr m) = absurd (true≢false (sym e ∙ runs.lanes.others_off i m l))
        inside (inl m) =
            let goes = ltb-true t (end_in r members begins i)
            (sym (runs.lanes.members_on i t m (omega arith) runs.later) ∙ e) in
            let le = ends i m l on_active in
            omega (arith, goes, le)

-- where no lane takes part, no active lane goes on
pub none_there : (active lanes live : ℕ) → IsPlaneOf (λ i. on active i && on lanes i) live →
    live ≡ 0 → (i : ℕ) → i < 64 → (on active i && on lanes i) ≡ false
none_there active lanes live is off i l = sym (is i l) ∙ ap (λ n. on n i) off ∙ on-zero i

-- ## Instants that are loaded ahead

-- `IsAhead` holds for fewer lanes and a later instant
pub still_ahead :
    (r : Recording) (members begins places : List ℕ) (x : Inputs_room) (t t' live live' : ℕ)
    (loaded : Loaded) → t ≤ t' → AreAmong live' live →
    IsAhead r members begins places x t live loaded →
    IsAhead r members begins places x t' live' loaded
still_ahead r members begins places x t t' live live' loaded le among h = record {
  numbers_begun = let b = h.numbers_begun in omega (arith, b, le);
  numbers = h.numbers;
  numbers_there = λ lt i l e. h.numbers_there (omega (arith, lt, le)) i l (among i l e);
  truths_begun = let b = h.truths_begun in omega (arith, b, le);
  truths = h.truths;
  truths_there = λ lt i l e. h.truths_there (omega (arith, lt, le)) i l (among i l e);
}

pub none_ahead :
    (r : Recording) (members begins places : List ℕ) (x : Inputs_room) (t live : ℕ)
    (loaded : Loaded) → loaded.numbers.first + loaded.numbers.until ≡ 0 →
    loaded.truths.first + loaded.truths.until ≡ 0 →
    IsAhead r members begins places x t live loaded
none_ahead r members begins places x t live loaded e f = record {
  numbers_begun = omega (arith, e);
  numbers = record { cells = λ i d k l on_lane lt. absurd (omega (arith, lt, e)) };
  numbers_there = λ lt. absurd (omega (arith, lt, e));
  truths_begun = omega (arith, f);
  truths = record {
    room = λ d lt. absurd (omega (arith, lt, f));
    cells = λ i d g k l on_lane lt. absurd (omega (arith, lt, f));
  };
  truths_there = λ lt. absurd (omega (arith, lt, f));
}
