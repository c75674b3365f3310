-- The answer of a run of a plan: the verdict of each trace, by the definitions.
-- Source: this project's rule.
use Rattle.std.specs.Prelude.{◌≡◌, ℕ, ◌<◌, List, length, get_or}
use Rattle.lb_check.specs.declared.verdict.Verdict.{Verdict}
use Rattle.lb_check.specs.declared.verdict.Verdict.TheVariants.{Passed}
use Rattle.lb_flat.specs.Correct.{IsVerdictOf}
use Rattle.lb_flat.specs.Programs.{program_of}
use Rattle.lb_traces.specs.Traces.{Recording}
use Rattle.lb_flat.specs.declared.program.FlatProgram.{FlatProgram}

-- v is the verdict of trace k: in each program that the flat one stands for and whose signature the
-- traces have, by the one history that solves it on the trace
abbrev pub IsVerdict : FlatProgram → Recording → ℕ → Verdict → Type 0
IsVerdict p r k v = IsVerdictOf (program_of p) r k v

-- a verdict for each trace, in the traces' order
pub record AreVerdicts (p : FlatProgram) (r : Recording) (verdicts : List Verdict) : Type 0 where
  pub count : length verdicts ≡ length r.traces
  pub each : (k : ℕ) → k < length r.traces → IsVerdict p r k (get_or verdicts k Passed)
