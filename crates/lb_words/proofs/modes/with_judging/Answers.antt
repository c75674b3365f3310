use Rattle.std.proofs.Common.{◌∙◌, ap, ap₂}
use Rattle.std.proofs.lemmas.Result.{IfOk-weaker}
use Rattle.clap.specs.Words.{AddsArg, app_of, with_rule}
use Rattle.lb_words.proofs.modes.with_judging.Goals as goal

pub returns : goal.returns
returns c =
    let first =
    c.in_ok-command.ensures.shape c.switch_argument.ensures.global in
    let made = first ∙ ap (with_rule (app_of c.args.command)) c.switch_argument.ensures.rule in
    IfOk-weaker c.arg-2.result (AddsArg c.in_ok-command.command c.switch_argument-2.result) _
    (λ new adds. adds.shape c.switch_argument-2.ensures.global
    ∙ ap₂ with_rule made c.switch_argument-2.ensures.rule)
    c.arg-2.ensures
