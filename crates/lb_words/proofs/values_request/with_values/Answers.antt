use Rattle.std.proofs.Common.{◌∙◌, ap}
use Rattle.std.proofs.lemmas.Result.{IfOk-weaker}
use Rattle.lb_words.specs.ValuesWords.{with_choice, with_instances}
use Rattle.lb_words.proofs.values_request.with_values.Goals as goal

pub returns : goal.returns
returns c =
    let both = c.in_ok-command-2.ensures ∙ ap with_choice c.in_ok-command.ensures in
    IfOk-weaker c.with_instances.result _ _ (λ new is. is ∙ ap with_instances both)
    c.with_instances.ensures
