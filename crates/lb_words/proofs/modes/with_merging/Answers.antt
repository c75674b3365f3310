use Rattle.std.proofs.Common.{◌∙◌, ap}
use Rattle.std.proofs.lemmas.Result.{IfOk-weaker}
use Rattle.clap.specs.Words.{AddsArg, app_of, with_rule}
use Rattle.lb_words.proofs.modes.with_merging.Goals as goal

pub returns : goal.returns
returns c =
    IfOk-weaker c.arg.result (AddsArg c.args.command c.several_argument.result) _
    (λ new adds. adds.shape c.several_argument.ensures.global
    ∙ ap (with_rule (app_of c.args.command)) c.several_argument.ensures.rule)
    c.arg.ensures
