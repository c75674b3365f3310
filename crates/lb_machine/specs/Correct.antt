-- The promises of code: a run in many lanes at once does the code in each of them; and each plane
-- or word that a building call returns holds what the call names, in every lane in which the code
-- is done.
-- This file says what data of the program mean. No definition relates two lanes.
use Rattle.std.specs.Prelude.{◌≡◌, ◌<◌, ◌≤◌, ◌+◌, ℕ, Bool, not, ◌||◌, Option, List}
use Rattle.std.specs.Prelude.{ℤ}
use Rattle.std.specs.List.{AllByRecursion}
use Rattle.lb_machine.specs.Listed.{listed}
use Rattle.lb_lanes.specs.Kernels.{kept, faulty}
use Rattle.lb_machine.specs.Meaning.{Lane, HasRun, IsDone, lane_at}
use Rattle.lb_machine.specs.declared.code.Code.{Code}
use Rattle.lb_machine.specs.declared.instruction.Instruction.{Instruction}
use Rattle.lb_machine.specs.declared.instruction.PlaneId.{PlaneId}
use Rattle.lb_machine.specs.declared.instruction.WordId.{WordId}

-- ## Code that is run

-- in each of the first `n` lanes of planes and words each instruction has been done
abbrev pub AreDoneInLanes : ℕ → List Instruction → List ℕ → List (List ℤ) → Type 0
AreDoneInLanes n code planes words =
    (lane : ℕ) → lane < n → AllByRecursion (IsDone (lane_at planes words lane)) code

-- ## Code that is put together

-- code `after` has all instructions of code `before`, and maybe more
pub record IsGrown (before after : Code) : Type 0 where
  pub first_plane : after.first_plane ≡ before.first_plane
  pub first_word : after.first_word ≡ before.first_word
  pub planes : before.planes ≤ after.planes
  pub words : before.words ≤ after.words
  pub runs :
      (s : Lane) → HasRun (listed after.instructions) s → HasRun (listed before.instructions) s

-- there are numbers for `k` more planes and words together
abbrev pub HasRoom : Code → ℕ → Type 0
HasRoom code k = code.planes + code.words + k ≤ 4294967295

-- at most `k` planes and words together have been added
abbrev pub AddsAtMost : Code → Code → ℕ → Type 0
AddsAtMost before after k = after.planes + after.words ≤ before.planes + before.words + k

-- plane `p` of the code holds `value` in each lane in which the code has been run
pub record IsPlaneFor (code : Code) (value : Lane → Bool) (p : PlaneId) : Type 0 where
  pub within : p.0 < code.planes
  pub means : (s : Lane) → HasRun (listed code.instructions) s → s.bits p.0 ≡ value s

-- word `w` of the code holds `value` in each lane in which the code has been run
pub record IsWordFor (code : Code) (value : Lane → ℤ) (w : WordId) : Type 0 where
  pub within : w.0 < code.words
  pub means : (s : Lane) → HasRun (listed code.instructions) s → s.ints w.0 ≡ value s

-- word `w` holds `value`, the result of an operator, in the lanes where none of three planes is
-- true; plane `p` is true where `left` or `right` is true or the operator has a fault
pub record AreResultsFor (code : Code) (value : Lane → Option ℤ) (idle left right : PlaneId)
    (w : WordId) (p : PlaneId) : Type 0 where
  pub word_within : w.0 < code.words
  pub plane_within : p.0 < code.planes
  pub result :
      (s : Lane) → HasRun (listed code.instructions) s →
      s.ints w.0 ≡ kept (not (s.bits idle.0 || (s.bits left.0 || s.bits right.0))) (value s)
  pub faults :
      (s : Lane) → HasRun (listed code.instructions) s →
      s.bits p.0
      ≡ (s.bits left.0 || s.bits right.0
      || faulty (not (s.bits idle.0 || (s.bits left.0 || s.bits right.0))) (value s))
