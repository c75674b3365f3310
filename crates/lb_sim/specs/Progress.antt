-- The progress of a lane of a run in its trace.
-- Source: this project's rule. No lane occurs beside another.
use Rattle.std.specs.Prelude.{◌≡◌, ℕ, ◌+◌, ◌^◌, ◌<◌, ◌≤◌, ◌⊎◌, true, List, length, take}
use Rattle.std.specs.Prelude.{get_or}
use Rattle.std.specs.List.{All, sum_by}
use Rattle.lb_check.specs.Scalars.{Scalar}
use Rattle.lb_check.specs.Solutions.{Inputs}
use Rattle.lb_check.specs.declared.verdict.Verdict.{Verdict}
use Rattle.lb_flat.specs.Fitting.{IsFitting}
use Rattle.lb_flat.specs.Flat.{FlatClock}
use Rattle.lb_flat.specs.TemporaryKinds.{kind_among}
use Rattle.lb_flat.specs.Inputs.{inputs_of}
use Rattle.lb_flat.specs.Judging.{flat_verdict}
use Rattle.lb_flat.specs.Programs.{program_of}
use Rattle.lb_traces.specs.Traces.{Recording}
use Rattle.lb_lanes.specs.Planes.{on}
use Rattle.lb_sim.specs.BatchLanes.{end_in, IsAt}
use Rattle.lb_sim.specs.BatchRuns.{steps_in, verdict_at}
use Rattle.lb_sim.specs.Correct.{Stands}
use Rattle.lb_sim.specs.InputRows.{places_of}
use Rattle.lb_sim.specs.Queues.{goes_on, instants_to, length_of, AreKept}
use Rattle.lb_sim.specs.ReadInputs.{AreAlike, AreAllAlike}
use Rattle.lb_sim.specs.declared.batch_run.BatchRun.{BatchRun}
use Rattle.lb_sim.specs.declared.program.LaneProgram.{LaneProgram}

-- clocks `K` and the kinds of a program fit its equations
abbrev pub Fits : LaneProgram → (ℕ → FlatClock) → Type 0
Fits p K =
    IsFitting (program_of p.program.now).inputs K (kind_among (program_of p.program.now).kinds)
    (program_of p.program.now).equations

-- two rows, and two traces, are alike in the inputs that a lane program loads
abbrev pub AreRowsAlike : LaneProgram → List Scalar → List Scalar → Type 0
AreRowsAlike p given other =
    AreAlike (places_of 2 1 p.program.now.inputs.items) p.read.numbers.items p.read.truths given
    other

abbrev pub AreTracesAlike : LaneProgram → Inputs → Inputs → Type 0
AreTracesAlike p X Y =
    AreAllAlike (places_of 2 1 p.program.now.inputs.items) p.read.numbers.items p.read.truths X Y

-- the verdict of the member at place `k`, by the equations
abbrev pub right_verdict : LaneProgram → Recording → List ℕ → ℕ → Verdict
right_verdict p r members k =
    flat_verdict (program_of p.program.now) (inputs_of r (get_or members k 0))

-- lane `i` has been run to instant `n` of its trace `X`, and instant `t` is the next one: it stands
-- for a trace that is like the first `n` instants of `X`
pub record IsRunTo (p : LaneProgram) (run : BatchRun) (X : Inputs) (i t : ℕ) : Type 0 where
  pub n : ℕ
  pub trace : Inputs
  pub alike : AreTracesAlike p trace (take n X)
  pub stands : Stands run i trace
  pub here : IsAt (verdict_at run i) (on run.active.0 i) (length X) n t

-- a run over a queue. Each lane has a member and has been run to an instant of its trace. For each
-- member that has begun, the right verdict is kept or its lane is pending; no member waits when no
-- lane is pending. The steps taken, and the end of each trace, are at most the instants of the
-- members that have begun
pub record AreRunTo (p : LaneProgram) (r : Recording) (members : List ℕ) (n : ℕ) (run : BatchRun)
    (traces places : List ℕ) (pending rest : ℕ) (has : ℕ → Verdict → Type 0) : Type 0 where
  pub program_is : run.program.now ≡ p
  pub places_room : length places ≡ 64
  pub traces_room : length traces ≡ 64
  pub rest_least : n ≤ rest
  pub rest_most : rest ≤ length members
  pub traces_within : All (λ k. k < length r.traces) traces
  pub places_within : (i : ℕ) → i < n → get_or places i 0 < length members
  pub traces_are : (i : ℕ) → i < n → get_or traces i 0 ≡ get_or members (get_or places i 0) 0
  pub each :
      (K : ℕ → FlatClock) → Fits p K → (i : ℕ) → i < n →
      IsRunTo p run (inputs_of r (get_or traces i 0)) i (steps_in run i)
  pub kept : AreKept (program_of p.program.now) r members has places pending n rest
  pub fits : pending < 2 ^ 64
  pub ended : pending ≡ 0 → rest ≡ n
  pub active_first : (i : ℕ) → i < 64 → on run.active.0 i ≡ true → i < n
  pub pending_first : (i : ℕ) → i < 64 → on pending i ≡ true → i < n
  pub steps_within :
      run.steps + instants_to r members rest
      ≤ sum_by (length_of r) members + instants_to r members n
  pub ends_within :
      (i : ℕ) → i < n →
      end_in r traces run.begins.items i + instants_to r members rest
      ≤ sum_by (length_of r) members + instants_to r members n

-- each pending lane goes on, or the run has taken members since
abbrev pub GoOn :
    Recording → BatchRun → (traces : List ℕ) → (pending n before rest : ℕ) → Type 0
GoOn r run traces pending n before rest =
    (i : ℕ) → i < n → on pending i ≡ true → (rest < before) ⊎ (goes_on run r traces i ≡ true)
