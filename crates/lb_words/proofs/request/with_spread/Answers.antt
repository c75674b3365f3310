use Rattle.std.proofs.Common.{◌∙◌, ap}
use Rattle.std.proofs.lemmas.Result.{IfOk-weaker}
use Rattle.lb_words.specs.Words.{with_switches}
use Rattle.lb_words.proofs.request.with_spread.Goals as goal

pub returns : goal.returns
returns c =
    IfOk-weaker c.with_switches.result _ _
    (λ new is. is ∙ ap with_switches c.in_ok-command.ensures) c.with_switches.ensures
