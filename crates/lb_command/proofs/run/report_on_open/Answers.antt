use Rattle.std.proofs.lemmas.Result.{IfOk-weaker}
use Rattle.std.proofs.Common.{map}
use Rattle.std.specs.Prelude.{string_bytes}
use Rattle.lb_command.proofs.Feeding.{nothing_said, range_outcome}
use Rattle.lb_command.proofs.Outcomes.{outcome_on}
use Rattle.lb_command.proofs.run.report_on_open.Goals as goal

pub returns-then-asks_to_explain-clause-outcome : goal.returns-then-asks_to_explain-clause-outcome
returns-then-asks_to_explain-clause-outcome g c =
    outcome_on _ (λ source traces. Unit {0}) c.args.task.now.options c.report_on.result
    (λ source traces are. tt) c.report_on.ensures.outcome

pub returns-in-Some-clause-outcome : goal.returns-in-Some-clause-outcome
returns-in-Some-clause-outcome g c =
    let found = c.in-Some.ensures in
    range_outcome (λ _ _. Unit {0}) c.as_slice.result.now found.traces c.args.task.now.options
    c.in-Some.found c.reported.result tt found.answer c.reported.ensures.outcome

pub returns-in-Some-clause-warned : goal.returns-in-Some-clause-warned
returns-in-Some-clause-warned g c =
    IfOk-weaker c.reported.result _ _
    (λ told none. nothing_said (map string_bytes c.args.words.now) c.args.task.now.options
    told.warnings.items none) c.reported.ensures.warned

pub returns-in-None-clause-outcome : goal.returns-in-None-clause-outcome
returns-in-None-clause-outcome g c =
    outcome_on _ (λ source traces. Unit {0}) c.args.task.now.options c.report_on_feed.result
    (λ source traces are. tt) c.report_on_feed.ensures.outcome

pub returns-in-None-clause-warned : goal.returns-in-None-clause-warned
returns-in-None-clause-warned g c =
    IfOk-weaker c.report_on_feed.result _ _
    (λ told none. nothing_said (map string_bytes c.args.words.now) c.args.task.now.options
    told.warnings.items none) c.report_on_feed.ensures.warned
