-- The verdicts that a run gives for equations are those of the program that they stand for.
use Rattle.std.proofs.Common.{◌≡◌, List}
use Rattle.lb_static.specs.Instances.{Program}
use Rattle.lb_static.specs.DataTypes.{signature}
use Rattle.lb_check.specs.declared.verdict.Verdict.{Verdict}
use Rattle.lb_flat.specs.FlatPrograms.{IsFlatOf}
use Rattle.lb_flat.specs.Programs.{program_of}
use Rattle.lb_traces.specs.Traces.{Recording}
use Rattle.lb_flat.specs.declared.program.FlatProgram.{FlatProgram}
use Rattle.lb_pool.specs.Correct as run
use Rattle.lb_report.specs.Bench.{AreVerdicts}

pub are_verdicts :
    (P : Program) (p : FlatProgram) (r : Recording) (verdicts : List Verdict) →
    IsFlatOf P (program_of p) → signature P ≡ r.signature → run.AreVerdicts p r verdicts →
    AreVerdicts P r verdicts
are_verdicts P p r verdicts flat same found = record {
  count = found.count;
  each = λ k below.
      let verdict = found.each k below in
      record {
        is_only_verdict = verdict.only_verdict P flat same;
        has_one_history = verdict.has_one_history P flat same;
      };
}
