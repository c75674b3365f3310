-- The verdict of the flat program on a recorded trace is that of each program with this flat
-- program.
use Rattle.std.proofs.Common.{◌≡◌, ℕ, ◌<◌, [], length}
use Rattle.lb_check.specs.declared.verdict.Verdict.{Verdict}
use Rattle.lb_flat.specs.Fitting.{IsFitting}
use Rattle.lb_flat.specs.Flat.{FlatClock}
use Rattle.lb_flat.specs.TemporaryKinds.{kind_among}
use Rattle.lb_flat.specs.Inputs.{inputs_of}
use Rattle.lb_flat.specs.Judging.{FlatProgram, flat_verdict}
use Rattle.lb_flat.specs.Run.{Ready}
use Rattle.lb_traces.specs.Traces.{Recording, IsRecording}
use Rattle.lb_flat.proofs.runs.RecordedInputs.{trace_given}
use Rattle.lb_flat.proofs.solutions.StandingRuns.{right_where_fitting, standing_determined}
use Rattle.lb_flat.proofs.solutions.StandingRuns.{standing_recorded}
use Rattle.lb_flat.specs.Correct.{IsVerdictOf}

pub verdict_of :
    (f : FlatProgram) (r : Recording) (k : ℕ) (v : Verdict) → Ready f.size [] f.equations →
    IsRecording r → k < length r.traces →
    ((K : ℕ → FlatClock) → IsFitting f.inputs K (kind_among f.kinds) f.equations →
    v ≡ flat_verdict f (inputs_of r k)) →
    IsVerdictOf f r k v
verdict_of f r k v ready lawful below is = record {
  only_verdict = λ P flat same.
      standing_recorded P f flat ready r k same lawful below v
      (is flat.fitting.0 flat.fitting.1);
  has_one_history = λ P flat same.
      let determined = standing_determined P f flat ready in
      determined.one (inputs_of r k) (trace_given P r k same lawful below);
  is_right = λ stands kinds. right_where_fitting f r k v is stands;
}
