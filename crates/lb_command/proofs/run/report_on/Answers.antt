use Rattle.std.proofs.Common.{◌∙◌, sym}
use Rattle.lb_command.specs.Outcomes.IsRefusedOn.{judged}
use Rattle.lb_command.proofs.Inputs.{is_not_read}
use Rattle.lb_command.proofs.run.report_on.Goals as goal

pub returns-in-Ok-clause-outcome : goal.returns-in-Ok-clause-outcome
returns-in-Ok-clause-outcome g c = record {
  source = c.parts.result.0.now;
  traces = c.parts.result.1.now;
  texts = record { first = c.parts.ensures.source; second = c.parts.ensures.traces };
  reported = c.in-Ok.ensures.report;
}

pub returns-in-Err-clause-outcome : goal.returns-in-Err-clause-outcome
returns-in-Err-clause-outcome g c =
    judged c.parts.result.0.now c.parts.result.1.now
    (record { first = c.parts.ensures.source; second = c.parts.ensures.traces }) c.in-Err.cause
    c.in-Err.ensures c.of_texts.ensures.told

pub returns-in-Err-clause-not_read : goal.returns-in-Err-clause-not_read
returns-in-Err-clause-not_read g c =
    λ number. is_not_read c.in-Err.cause (sym c.of_texts.ensures.told.number ∙ number)
