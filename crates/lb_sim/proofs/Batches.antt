-- The traces of a batch, each run to its end or to its verdict.
use Rattle.std.proofs.Common.{◌≡◌, ◌≢◌, ℕ, suc, ◌+◌, ◌<◌, ◌≤◌, ◌&&◌, Bool, true, false, List}
use Rattle.std.proofs.Common.{[], ◌∷◌, ◌++◌, length, get_or, take, drop, refl, sym, ap, ◌∙◌}
use Rattle.std.proofs.Common.{arith, ◌⊎◌, inl, inr}
use Rattle.std.proofs.lemmas.Bool.{true≢false, and_parts, ltb-false}
use Rattle.std.proofs.lemmas.List.{take_all, take_more, take-append-drop}
use Rattle.std.specs.Prelude.{nat_lt}
use Rattle.lb_check.specs.Solutions.{Inputs}
use Rattle.lb_check.specs.Verdicts.{or_later}
use Rattle.lb_check.specs.declared.verdict.Verdict.{Verdict}
use Rattle.lb_check.specs.declared.verdict.Verdict.TheVariants.{Passed, Fault, Undefined, Assertion}
use Rattle.lb_check.specs.declared.verdict.Verdict.TheVariants.{False}
use Rattle.lb_flat.specs.Judging.{FlatProgram, row_judged, rows_judged, flat_verdict}
use Rattle.lb_flat.specs.MemoryPlaces.{after_rows}
use Rattle.lb_flat.specs.Run.{Row, run}
use Rattle.lb_sim.proofs.RunMemories.{run_appended}
use Rattle.lb_sim.specs.BatchLanes.{IsAt}

-- ## A verdict other than `Passed` stays

judged_found : (f : FlatProgram) (t : ℕ) (rows more : List Row) → rows_judged f t rows ≢ Passed →
    rows_judged f t (rows ++ more) ≡ rows_judged f t rows
judged_found f t [] more found = absurd (found refl)
judged_found f t (row ∷ rows) more found =
    by (judged_found f (suc t) rows more) (row_judged f t row) refl
  where
    go_on : (u : Verdict) → u ≡ Passed → u ≡ row_judged f t row →
        rows_judged f (suc t) rows ≢ Passed
    go_on u is e same =
        found (ap (λ w. or_later w (rows_judged f (suc t) rows)) (sym e ∙ is) ∙ same)

    by : (rows_judged f (suc t) rows ≢ Passed →
        rows_judged f (suc t) (rows ++ more) ≡ rows_judged f (suc t) rows) →
        (u : Verdict) → u ≡ row_judged f t row →
        or_later (row_judged f t row) (rows_judged f (suc t) (rows ++ more))
        ≡ or_later (row_judged f t row) (rows_judged f (suc t) rows)
    by later Passed e = ap (or_later (row_judged f t row)) (later (go_on Passed refl e))
    by later (Fault s) e =
        ap (λ w. or_later w (rows_judged f (suc t) (rows ++ more))) (sym e)
        ∙ ap (λ w. or_later w (rows_judged f (suc t) rows)) e
    by later (Undefined s) e =
        ap (λ w. or_later w (rows_judged f (suc t) (rows ++ more))) (sym e)
        ∙ ap (λ w. or_later w (rows_judged f (suc t) rows)) e
    by later (Assertion s) e =
        ap (λ w. or_later w (rows_judged f (suc t) (rows ++ more))) (sym e)
        ∙ ap (λ w. or_later w (rows_judged f (suc t) rows)) e
    by later (False s) e =
        ap (λ w. or_later w (rows_judged f (suc t) (rows ++ more))) (sym e)
        ∙ ap (λ w. or_later w (rows_judged f (suc t) rows)) e

-- the verdict of the first `n` instants is that of the trace, where it is not `Passed`
pub verdict_found : (f : FlatProgram) (X : Inputs) (n : ℕ) → flat_verdict f (take n X) ≢ Passed →
    flat_verdict f X ≡ flat_verdict f (take n X)
verdict_found f X n found =
    let front = take n X in
    let rest = drop n X in
    let after = after_rows f.equations (run f.size f.equations front) in
    ap (flat_verdict f) (sym (take-append-drop n X))
    ∙ ap (rows_judged f 0) (run_appended f.size front rest f.equations)
    ∙ judged_found f 0 (run f.size f.equations front) (run f.size after rest) found

-- ## The progress of a trace

-- the first `n` instants of a trace with instant `n` are its first `n + 1` instants
pub one_more : (X : Inputs) (n t : ℕ) → n ≡ t → t < length X →
    take n X ++ get_or X t [] ∷ [] ≡ take (t + 1) X
one_more X n t e lt =
    ap (λ k. take k X ++ get_or X t [] ∷ []) e ∙ sym (take_more X t [] lt)

not_second : (a b : Bool) → a ≡ true → (a && b) ≡ false → b ≡ false
not_second true b is e = e
not_second false b is e = absurd (true≢false (sym is))

-- a live lane is active, and its trace goes on
pub moves_on : (active running live : Bool) → live ≡ (active && running) → live ≡ true →
    (active ≡ true) × (running ≡ true)
moves_on active running live is e = and_parts active running (sym is ∙ e)

-- `IsAt` after an instant, for a lane that had it
pub at_next : (v : Verdict) (active passed : Bool) (as_long t : ℕ) → t < as_long →
    active ≡ passed → (passed ≡ false → v ≢ Passed) → IsAt v active as_long (t + 1) (t + 1)
at_next v active passed as_long t lt is found = record {
  within = omega (arith, lt);
  now = λ e. refl;
  ended = λ e. inr (found (sym is ∙ e));
}

-- `IsAt` after an instant, for a lane that did not have it
pub at_end : (v v' : Verdict) (active running live active' : Bool) (as_long n t : ℕ) →
    IsAt v active as_long n t → live ≡ (active && running) → live ≡ false →
    running ≡ nat_lt t as_long → active' ≡ false → (v ≢ Passed → v' ≡ v) →
    IsAt v' active' as_long n (t + 1)
at_end v v' active running live active' as_long n t h is off runs rests same = record {
  within = h.within;
  now = λ e. absurd (true≢false (sym e ∙ rests));
  ended = λ e. by active refl;
}
  where
    decided : (v ≢ Passed) → v' ≢ Passed
    decided found e = found (sym (same found) ∙ e)

    past : nat_lt t as_long ≡ false → as_long ≤ t
    past e = grind arith

    by : (a : Bool) → active ≡ a → (n ≡ as_long) ⊎ (v' ≢ Passed)
    by true e =
        let here : n ≡ t = h.now e in
        let gone : as_long ≤ t =
        past (sym runs ∙ not_second active running e (sym is ∙ off)) in
        inl (omega (arith, here, gone, h.within))
    by false e = or_decided (h.ended e)
      where
        or_decided : (n ≡ as_long) ⊎ (v ≢ Passed) → (n ≡ as_long) ⊎ (v' ≢ Passed)
        or_decided (inl k) = inl k
        or_decided (inr found) = inr (decided found)

-- the verdict of a lane whose trace has ended, or has been decided
pub verdict_at_rest : (f : FlatProgram) (X : Inputs) (v : Verdict) (active : Bool) (n t : ℕ) →
    v ≡ flat_verdict f (take n X) → IsAt v active (length X) n t →
    (active && nat_lt t (length X)) ≡ false → v ≡ flat_verdict f X
verdict_at_rest f X v active n t is h rest = by active refl
  where
    whole : n ≡ length X → v ≡ flat_verdict f X
    whole e = is ∙ ap (flat_verdict f) (take_all n X (omega (arith, e)))

    or_found : (n ≡ length X) ⊎ (v ≢ Passed) → v ≡ flat_verdict f X
    or_found (inl e) = whole e
    or_found (inr found) = is ∙ sym (verdict_found f X n (λ e. found (is ∙ e)))

    by : (a : Bool) → active ≡ a → v ≡ flat_verdict f X
    by true e =
        let here : n ≡ t = h.now e in
        let past : length X ≤ t =
        ltb-false t (length X) (not_second active (nat_lt t (length X)) e rest) in
        whole (omega (arith, here, past, h.within))
    by false e = or_found (h.ended e)
