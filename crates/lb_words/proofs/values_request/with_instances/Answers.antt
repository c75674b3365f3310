use Rattle.std.proofs.Common.{◌∙◌, ap}
use Rattle.std.proofs.lemmas.Result.{IfOk-weaker}
use Rattle.clap.specs.Words.{AddsArg, app_of, with_rule}
use Rattle.lb_words.proofs.values_request.with_instances.Goals as goal

pub returns : goal.returns
returns c =
    IfOk-weaker c.arg.result (AddsArg c.args.command c.switch_argument.result) _
    (λ new adds. adds.shape c.switch_argument.ensures.global
    ∙ ap (with_rule (app_of c.args.command)) c.switch_argument.ensures.rule)
    c.arg.ensures
