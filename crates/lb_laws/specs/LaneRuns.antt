-- Runs of a batch by a list of moves, and the trace that the moves give to each lane.
-- This file says what data of the program mean; no definition of the language stands on it. A lane
-- occurs beside others only in that all are moved at once.
use Rattle.std.specs.Prelude.{◌≡◌, ℕ, ◌++◌, List, [], ◌∷◌, if◌then◌else◌}
use Rattle.lb_check.specs.Scalars.{Scalar}
use Rattle.lb_check.specs.Solutions.{Inputs}
use Rattle.lb_lanes.specs.Planes.{on}
use Rattle.lb_lanes.specs.declared.planes.Plane.{Plane}
use Rattle.lb_sim.specs.Correct.{IsRestart, IsStep}
use Rattle.lb_sim.specs.declared.batch_run.BatchRun.{BatchRun}

-- a move: an instant of some lanes, each with a row of inputs of its own; or some lanes begin with
-- another trace
pub data Move : Type 0 where
  Step : (rows : ℕ → List Scalar) → (live : Plane) → Move
  Restart : (lanes : Plane) → Move

-- a move leads from run `r` to run `s`, as the calls of a run promise it
abbrev pub IsMove : BatchRun → BatchRun → Move → Type 0
IsMove r s (Step rows live) = IsStep r s rows live
IsMove r s (Restart lanes) = IsRestart r s lanes

-- a list of moves leads from run `r` to run `s`
abbrev pub ComesBy : BatchRun → List Move → BatchRun → Type 0
ComesBy r [] s = r ≡ s
ComesBy r (m ∷ ms) s = (t : BatchRun) × IsMove r t m × ComesBy t ms s

-- the trace of lane `i` after a move: it gets one more row at each instant of the lane, and is
-- empty where the lane begins with another trace
abbrev pub trace_after : ℕ → Inputs → Move → Inputs
trace_after i X (Step rows live) = if on live.0 i then X ++ rows i ∷ [] else X
trace_after i X (Restart lanes) = if on lanes.0 i then [] else X

-- the trace of lane `i` after some moves
abbrev pub trace_by : ℕ → Inputs → List Move → Inputs
trace_by i X [] = X
trace_by i X (m ∷ ms) = trace_by i (trace_after i X m) ms

-- the trace that moves from the start give to lane `i`
abbrev pub trace_of : ℕ → List Move → Inputs
trace_of i ms = trace_by i [] ms
