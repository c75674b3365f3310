use Rattle.lb_command.specs.Outcomes.{HasPath}
use Rattle.lb_command.proofs.Judgements.{outcome_of}
use Rattle.lb_command.proofs.Outcomes.{all_read}
use Rattle.lb_command.proofs.judging.judge_source.Goals as goal

pub returns-clause-outcome : goal.returns-clause-outcome
returns-clause-outcome g c =
    outcome_of _ _ _ c.judge_texts.result c.in_ok-texts.ensures.ok c.judge_texts.ensures.ok
    c.judge_texts.ensures.err

pub returns-clause-read : goal.returns-clause-read
returns-clause-read g c =
    all_read (HasPath c.args.task.now) _ c.judge_texts.result c.in_ok-texts.ensures.read
    c.judge_texts.ensures.not_read
