-- The verdict of the flat program is that of the program.
use Rattle.lb_flat.proofs.Words.{[], inputs_of, program_of, Ready}
use Rattle.lb_flat.{specs.declared.prepared.Prepared.Prepared, proofs.ordering.Ordering.ready_of}
use Rattle.lb_flat.proofs.runs.RecordedInputs.{trace_given}
use Rattle.lb_flat.proofs.solutions.StandingRuns.{standing_determined, standing_recorded}
use Rattle.lb_flat.proofs.trace_run.eval_prepared.Goals as goal

ready : (p : Prepared) → Ready p.program.now.size [] (program_of p.program.now).equations
ready p = ready_of p.program.now.size (program_of p.program.now).equations p.in_order

pub returns-clause-verdict : goal.returns-clause-verdict
returns-clause-verdict c =
    let p = c.args.prepared.now in
    record {
      only_verdict = λ P flat same.
          standing_recorded P (program_of p.program.now) flat (ready p) c.args.recorded.now.set.now
          c.args.k same c.signature.ensures.lawful c.requires.trace c.evaluate.result
          c.evaluate.ensures.verdict;
      has_one_history = λ P flat same.
          let determined = standing_determined P (program_of p.program.now) flat (ready p) in
          determined.one (inputs_of c.args.recorded.now.set.now c.args.k)
          (trace_given P c.args.recorded.now.set.now c.args.k same c.signature.ensures.lawful
          c.requires.trace);
      is_right = λ stands kinds. c.evaluate.ensures.verdict;
    }
