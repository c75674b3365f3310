use Rattle.std.proofs.Common.{◌∙◌, List, ℕ, subst, sym}
use Rattle.clap.specs.Words.{Text}
use Rattle.lb_report.specs.Judging.{IsAcceptedSource, IsRefusedSource}
use Rattle.lb_command.specs.Judging.IsRefused.{judged, memory}
use Rattle.lb_command.proofs.Inputs.{is_not_read}
use Rattle.lb_command.proofs.judging.judge_texts.Goals as goal

pub returns-in_ok-value-in-Ok-clause-ok : goal.returns-in_ok-value-in-Ok-clause-ok
returns-in_ok-value-in-Ok-clause-ok c =
    let Is : Text → Type 0 = λ source.
    IsAcceptedSource source c.args.task.now.options c.in-Ok.inputs in
    record {
      inputs = c.in-Ok.inputs;
      accepted = subst Is c.parts.ensures.source c.in-Ok.ensures.ok;
      told = c.in_ok-value-in-Ok.ensures;
    }

pub returns-in-Err-clause-err : goal.returns-in-Err-clause-err
returns-in-Err-clause-err c =
    let Is : Text → Type 0 = λ source.
    IsRefusedSource source c.args.task.now.options c.in-Err.error in
    judged c.in-Err.error (subst Is c.parts.ensures.source c.in-Err.ensures.err) c.of_texts.ensures.told

pub returns-in-Err-clause-not_read : goal.returns-in-Err-clause-not_read
returns-in-Err-clause-not_read c =
    λ number. is_not_read c.in-Err.error (sym c.of_texts.ensures.told.number ∙ number)
