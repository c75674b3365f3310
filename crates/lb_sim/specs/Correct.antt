-- The promise of masked lanes: each lane stands for a trace, whatever the others hold, and a batch
-- gives each of its members its own verdict.
-- This file says what data of the program mean; no definition of the language stands on it.
use Rattle.std.specs.Prelude.{◌≡◌, ◌≢◌, ◌<◌, ◌+◌, ◌++◌, ◌∷◌, ◌&&◌, ℕ, true, false, List, [], length}
use Rattle.std.specs.Prelude.{get_or, nat_lt, ◌||◌, if◌then◌else◌}
use Rattle.lb_static.specs.Instances.{Program}
use Rattle.lb_check.specs.Scalars.{Scalar}
use Rattle.lb_check.specs.Solutions.{Inputs}
use Rattle.lb_check.specs.declared.verdict.Verdict.{Verdict}
use Rattle.lb_check.specs.declared.verdict.Verdict.TheVariants.{Passed}
use Rattle.lb_flat.specs.Correct.{IsVerdictOf}
use Rattle.lb_flat.specs.Fitting.{IsFitting}
use Rattle.lb_flat.specs.Flat.{FlatClock}
use Rattle.lb_flat.specs.FlatPrograms.{IsFlatOf}
use Rattle.lb_flat.specs.TemporaryKinds.{kind_among}
use Rattle.lb_flat.specs.Judging.{FlatProgram}
use Rattle.lb_flat.specs.NumberedLayouts.{layout}
use Rattle.lb_traces.specs.Traces.{Recording}
use Rattle.lb_lanes.specs.Planes.{IsPlaneOf, on}
use Rattle.lb_lanes.specs.declared.planes.Plane.{Plane}
use Rattle.lb_sim.specs.BatchRuns.{flat_of, flag_in, lane_in, memory_at, steps_in, verdict_at}
use Rattle.lb_sim.specs.InputRows.{begin_of}
use Rattle.lb_sim.specs.LaneStates.{StandsAt, is_passed}
use Rattle.lb_sim.specs.Promise.{StandsFor}
use Rattle.lb_sim.specs.declared.batch_run.BatchRun.{BatchRun}

-- ## A lane

-- a lane stands for a trace of a flat program: its verdict is that of the trace, and while it is
-- active it has had all instants of the trace and holds the memories after it
abbrev pub Stands : BatchRun → ℕ → Inputs → Type 0
Stands run i X =
    StandsAt (flat_of run) run.program.now.kept.items (lane_in run i) (verdict_at run i)
    (on run.active.0 i) (steps_in run i) X

-- a lane stands for a trace of a program `P` that has this flat program: its verdict is the one of
-- the trace, and while it is active its memories are those of the one history that solves `P`
abbrev pub StandsForTrace :
    (P : Program) (run : BatchRun) → IsFlatOf P (flat_of run) → ℕ → Inputs → Type 0
StandsForTrace P run flat i X =
    StandsFor P (layout P) (kind_among (flat_of run).kinds) (flat_of run) flat.memories
    (verdict_at run i) (on run.active.0 i) (steps_in run i) (memory_at run i) (flag_in run i) X

-- ## A run

-- before the first instant the first n lanes are active, and each stands for the empty trace
pub record IsFresh (run : BatchRun) (n : ℕ) : Type 0 where
  pub empty : (i : ℕ) → i < n → Stands run i []
  pub all : IsPlaneOf (λ i. nat_lt i n) run.active.0
  pub none : run.steps ≡ 0

-- an instant, with a row of inputs for each live lane. A live lane stands for its trace with its
-- row added, where the equations have kinds and clocks; any other lane stands for the trace it
-- stood for. A verdict other than `Passed` stays, and the active lanes are the live lanes that have
-- passed so far
pub record IsStep (old new : BatchRun) (rows : ℕ → List Scalar) (live : Plane) : Type 0 where
  pub moves :
      (K : ℕ → FlatClock) →
      IsFitting (flat_of old).inputs K (kind_among (flat_of old).kinds) (flat_of old).equations →
      (i : ℕ) (X : Inputs) → i < 64 → on live.0 i ≡ true → Stands old i X →
      Stands new i (X ++ rows i ∷ [])
  pub stays :
      (i : ℕ) (X : Inputs) → i < 64 → on live.0 i ≡ false → Stands old i X → Stands new i X
  pub settled :
      (i : ℕ) → i < 64 → verdict_at old i ≢ Passed → verdict_at new i ≡ verdict_at old i
  pub active : IsPlaneOf (λ i. on live.0 i && is_passed (verdict_at new i)) new.active.0
  pub live_is : new.live ≡ live
  pub steps : new.steps ≡ old.steps + 1
  pub begins : new.begins.items ≡ old.begins.items
  pub program : new.program.now ≡ old.program.now

-- lanes begin with other traces: each of `lanes` stands for the empty trace and is active, and any
-- other lane stands for the trace it stood for
pub record IsRestart (old new : BatchRun) (lanes : Plane) : Type 0 where
  pub empty : (i : ℕ) → i < 64 → on lanes.0 i ≡ true → Stands new i []
  pub others :
      (i : ℕ) (X : Inputs) → i < 64 → on lanes.0 i ≡ false → Stands old i X → Stands new i X
  pub verdicts :
      (i : ℕ) → i < 64 → on lanes.0 i ≡ false → verdict_at new i ≡ verdict_at old i
  pub active : IsPlaneOf (λ i. on old.active.0 i || on lanes.0 i) new.active.0
  pub begins :
      (i : ℕ) → i < 64 →
      begin_of new.begins.items i
      ≡ (if on lanes.0 i then old.steps else begin_of old.begins.items i)
  pub steps : new.steps ≡ old.steps
  pub program : new.program.now ≡ old.program.now

-- ## A batch

-- each member of a batch has its own verdict, in the order of the members
abbrev pub HaveVerdicts : FlatProgram → Recording → List ℕ → List Verdict → Type 0
HaveVerdicts f r members verdicts =
    (i : ℕ) → i < length members →
    IsVerdictOf f r (get_or members i 0) (get_or verdicts i Passed)

-- ## A queue

-- a receiver takes the right verdict of each member, whatever that is
abbrev pub TakesVerdicts :
    FlatProgram → Recording → List ℕ → (takes : ℕ → Verdict → Type 0) → Type 0
TakesVerdicts f r members takes =
    (k : ℕ) (v : Verdict) → k < length members → IsVerdictOf f r (get_or members k 0) v →
    takes k v

-- a receiver has a verdict of the member at place `k`, and it is the right one
pub record HasVerdict (f : FlatProgram) (r : Recording) (members : List ℕ)
    (has : ℕ → Verdict → Type 0) (k : ℕ) : Type 0 where
  pub verdict : Verdict
  pub held : has k verdict
  pub right : IsVerdictOf f r (get_or members k 0) verdict
