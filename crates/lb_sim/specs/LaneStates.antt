-- A lane stands for a trace of a flat program: its verdict is that of the trace so far, and while
-- it is active it holds the memories after that trace.
-- Source: this project's rule. No lane occurs beside it.
use Rattle.std.specs.Prelude.{◌≡◌, ℕ, Bool, true, false, not, ◌&&◌, length, List, if◌then◌else◌}
use Rattle.lb_check.specs.Solutions.{Inputs}
use Rattle.lb_check.specs.declared.verdict.Verdict.{Verdict}
use Rattle.lb_check.specs.declared.verdict.Verdict.TheVariants.{Passed}
use Rattle.lb_flat.specs.Judging.{FlatProgram, flat_verdict}
use Rattle.lb_flat.specs.Programs.{program_of}
use Rattle.lb_check.specs.Scalars.{Scalar}
use Rattle.lb_machine.specs.Listed.{listed}
use Rattle.lb_machine.specs.Meaning.{Lane, HasConstants, HasRun}
use Rattle.lb_machine.specs.declared.code.Code.{Code}
use Rattle.lb_sim.specs.Codes.{IsCodeOf}
use Rattle.lb_sim.specs.Compiled.{IsHomeAt, HasConstantWords, given_at}
use Rattle.lb_sim.specs.States.{IsStateAfter}
use Rattle.lb_sim.specs.declared.place.Holding.{Holding}
use Rattle.lb_sim.specs.declared.program.LaneCode.{LaneCode}
use Rattle.lb_sim.specs.declared.program.LaneProgram.{LaneProgram}

abbrev pub is_passed : Verdict → Bool
is_passed Passed = true
is_passed v = false

-- after `steps` instants, a lane with a verdict stands for trace `X`
pub record StandsAt (f : FlatProgram) (kept : List Holding) (s : Lane) (verdict : Verdict)
    (active : Bool) (steps : ℕ) (X : Inputs) : Type 0 where
  pub verdict_is : verdict ≡ flat_verdict f X
  pub as_long : active ≡ true → length X ≡ steps
  pub state : active ≡ true → IsStateAfter f kept s X

-- the verdict of a lane after an instant that gives `judged`, where `going` says whether the lane
-- takes part in the instant
abbrev pub settled : Bool → Verdict → Verdict → Verdict
settled going judged verdict = if going && not (is_passed judged) then judged else verdict

-- two lanes agree at the places of memories
pub record HoldSame (code : Code) (memory_plane memory_word : ℕ) (s s' : Lane) : Type 0 where
  pub planes : (k : ℕ) → IsHomeAt memory_plane code.first_plane k → s'.bits k ≡ s.bits k
  pub words : (k : ℕ) → IsHomeAt memory_word code.first_word k → s'.ints k ≡ s.ints k

-- `c` is code of the program `p`
abbrev pub IsCodeIn : LaneProgram → LaneCode → Type 0
IsCodeIn p c =
    ∥ IsCodeOf (program_of p.program.now) p.inputs.items p.kept.items p.start_planes.items
    p.start_words.items p.constant_word p.memory_plane p.memory_word p.planes p.words c ∥₁

-- a lane has the row of inputs and, if it takes part in the instant, has run code of a program; its
-- memories and constants are those of the lane `before`
pub record IsComputed (p : LaneProgram) (c : LaneCode) (row : List Scalar) (going : Bool)
    (before s : Lane) : Type 0 where
  pub run : going ≡ true → HasRun (listed c.code.instructions) s
  pub constants : HasConstants s
  pub constant_words : HasConstantWords p.constant_word p.memory_word p.start_words.items s
  pub given : given_at s p.inputs.items ≡ row
  pub same : HoldSame c.code p.memory_plane p.memory_word before s
