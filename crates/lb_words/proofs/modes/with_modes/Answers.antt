use Rattle.std.proofs.Common.{◌∙◌, ap}
use Rattle.std.proofs.lemmas.Result.{IfOk-weaker}
use Rattle.lb_words.specs.Words.{with_judging, with_version}
use Rattle.lb_words.proofs.modes.with_modes.Goals as goal

pub returns : goal.returns
returns c =
    let both = c.in_ok-command-2.ensures ∙ ap with_judging c.in_ok-command.ensures in
    IfOk-weaker c.with_version.result _ _ (λ new is. is ∙ ap with_version both)
    c.with_version.ensures
