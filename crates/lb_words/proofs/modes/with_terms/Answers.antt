use Rattle.std.proofs.Common.{◌∙◌, ap, ap₂}
use Rattle.std.proofs.lemmas.Result.{IfOk-weaker}
use Rattle.clap.specs.Words.{AddsArg, app_of, with_rule}
use Rattle.lb_words.proofs.modes.with_terms.Goals as goal

pub returns : goal.returns
returns c =
    let strict = c.in_ok-command.ensures.shape c.switch_argument.ensures.global
    ∙ ap (with_rule (app_of c.args.command)) c.switch_argument.ensures.rule in
    IfOk-weaker c.arg-2.result (AddsArg c.in_ok-command.command c.named_argument.result) _
    (λ new adds. adds.shape c.named_argument.ensures.global
    ∙ ap₂ with_rule strict c.named_argument.ensures.rule)
    c.arg-2.ensures
