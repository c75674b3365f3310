-- A lane stands for the trace that it was given, in a run that moves lead to from a fresh run.
use Rattle.std.proofs.Common.{◌≡◌, ℕ, ◌<◌, ◌≤◌, ◌++◌, Bool, true, false, List, [], ◌∷◌, cond}
use Rattle.std.proofs.Common.{refl, ap, sym, subst, ◌∙◌, arith}
use Rattle.lb_static.specs.Instances.{Program}
use Rattle.lb_check.specs.Scalars.{Scalar}
use Rattle.lb_check.specs.Solutions.{Inputs}
use Rattle.lb_flat.specs.Flat.{FlatClock}
use Rattle.lb_flat.specs.FlatPrograms.{IsFlatOf}
use Rattle.lb_flat.specs.Flattening.{IsTrace}
use Rattle.lb_lanes.specs.Planes.{on}
use Rattle.lb_lanes.specs.declared.planes.Plane.{Plane}
use Rattle.lb_sim.specs.BatchRuns.{flat_of, lane_in, steps_in, verdict_at}
use Rattle.lb_sim.specs.Correct.{IsFresh, IsRestart, IsStep, Stands, StandsForTrace}
use Rattle.lb_sim.specs.Progress.{Fits}
use Rattle.lb_sim.specs.declared.batch_run.BatchRun.{BatchRun}
use Rattle.lb_sim.specs.declared.program.LaneProgram.{LaneProgram}
use Rattle.lb_sim.proofs.LanePrograms.{program_ready}
use Rattle.lb_sim.proofs.Promised.{stands_for}
use Rattle.lb_laws.specs.LaneRuns.{Move, Step, Restart, IsMove, ComesBy, trace_after, trace_by}
use Rattle.lb_laws.specs.LaneRuns.{trace_of}

-- ## The program stays

move_program : (r s : BatchRun) (m : Move) → IsMove r s m → s.program.now ≡ r.program.now
move_program r s (Step rows live) h = h.program
move_program r s (Restart lanes) h = h.program

program_stays : (ms : List Move) (r s : BatchRun) → ComesBy r ms s → s.program.now ≡ r.program.now
program_stays [] r s h = ap (λ (z : BatchRun). z.program.now) (sym h)
program_stays (m ∷ ms) r s h = program_stays ms h.0 s h.2 ∙ move_program r h.0 m h.1

-- ## A lane

stepped :
    (b : Bool) (r s : BatchRun) (rows : ℕ → List Scalar) (live : Plane) → IsStep r s rows live →
    (K : ℕ → FlatClock) → Fits r.program.now K → (i : ℕ) → i < 64 → (X : Inputs) → Stands r i X →
    on live.0 i ≡ b → Stands s i (cond b (X ++ rows i ∷ []) X)
stepped true r s rows live step K fits i below X stands e = step.moves K fits i X below e stands
stepped false r s rows live step K fits i below X stands e = step.stays i X below e stands

restarted :
    (b : Bool) (r s : BatchRun) (lanes : Plane) → IsRestart r s lanes → (i : ℕ) → i < 64 →
    (X : Inputs) → Stands r i X → on lanes.0 i ≡ b → Stands s i (cond b [] X)
restarted true r s lanes again i below X stands e = again.empty i below e
restarted false r s lanes again i below X stands e = again.others i X below e stands

moved :
    (r s : BatchRun) (m : Move) → IsMove r s m → (K : ℕ → FlatClock) → Fits r.program.now K →
    (i : ℕ) → i < 64 → (X : Inputs) → Stands r i X → Stands s i (trace_after i X m)
moved r s (Step rows live) h K fits i below X stands =
    stepped (on live.0 i) r s rows live h K fits i below X stands refl
moved r s (Restart lanes) h K fits i below X stands =
    restarted (on lanes.0 i) r s lanes h i below X stands refl

come_by :
    (ms : List Move) (r s : BatchRun) → ComesBy r ms s → (K : ℕ → FlatClock) →
    Fits r.program.now K → (i : ℕ) → i < 64 → (X : Inputs) → Stands r i X →
    Stands s i (trace_by i X ms)
come_by [] r s h K fits i below X stands = subst (λ (z : BatchRun). Stands z i X) h stands
come_by (m ∷ ms) r s h K fits i below X stands =
    let same = move_program r h.0 m h.1 in
    come_by ms h.0 s h.2 K (subst (λ (p : LaneProgram). Fits p K) (sym same) fits) i below
    (trace_after i X m) (moved r h.0 m h.1 K fits i below X stands)

-- ## In the program's own terms

pub stand_for_their_traces :
    (P : Program) (r s : BatchRun) (n : ℕ) → n ≤ 64 → IsFresh r n → (ms : List Move) →
    ComesBy r ms s → (flat : IsFlatOf P (flat_of s)) → (i : ℕ) → i < n →
    IsTrace P (trace_of i ms) → StandsForTrace P s flat i (trace_of i ms)
stand_for_their_traces P r s n few fresh ms comes flat i below trace =
    let p = s.program.now in
    let fits = subst (λ (q : LaneProgram). Fits q flat.fitting.0) (program_stays ms r s comes)
    flat.fitting.1 in
    let stands = come_by ms r s comes flat.fitting.0 fits i (omega arith) []
    (fresh.empty i below) in
    stands_for P (flat_of s) flat (program_ready p) p.kept.items (lane_in s i) (trace_of i ms) trace
    (verdict_at s i) (on s.active.0 i) (steps_in s i) stands.verdict_is stands.as_long stands.state
