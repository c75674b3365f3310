-- The verdicts and memories in the lanes of a run. Nothing of another lane occurs here.
-- This file says what data of the program mean.
use Rattle.std.specs.Prelude.{ℕ, Bool, get_or}
use Rattle.lb_check.specs.Scalars.{Scalar}
use Rattle.lb_check.specs.declared.verdict.Verdict.{Verdict}
use Rattle.lb_check.specs.declared.verdict.Verdict.TheVariants.{Passed}
use Rattle.lb_flat.specs.Judging.{FlatProgram}
use Rattle.lb_flat.specs.Programs.{program_of}
use Rattle.lb_machine.specs.Meaning.{Lane, lane_at}
use Rattle.lb_sim.specs.InputRows.{instant_in}
use Rattle.lb_sim.specs.Showing.{scalar_at}
use Rattle.lb_sim.specs.States.{flag_at, kept_at}
use Rattle.lb_sim.specs.declared.batch_run.BatchRun.{BatchRun}

-- the flat program of a run
abbrev pub flat_of : BatchRun → FlatProgram
flat_of run = program_of run.program.now.program.now

abbrev pub verdict_at : BatchRun → ℕ → Verdict
verdict_at run i = get_or run.verdicts.items i Passed

-- the number of steps that a lane has taken since its trace began
abbrev pub steps_in : BatchRun → ℕ → ℕ
steps_in run i = instant_in run.begins.items run.steps i

abbrev pub lane_in : BatchRun → ℕ → Lane
lane_in run i = lane_at run.planes.items run.words.items i

-- the scalar that a lane holds at the place of the memory of element `e`, and the flag there
abbrev pub memory_at : BatchRun → ℕ → ℕ → Scalar
memory_at run i e = scalar_at (lane_in run i) (kept_at run.program.now.kept.items e)

abbrev pub flag_in : BatchRun → ℕ → ℕ → Bool
flag_in run i e = flag_at (lane_in run i) (kept_at run.program.now.kept.items e)
