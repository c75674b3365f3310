use Rattle.std.proofs.Common.{◌≡◌, ◌∙◌, ap, codes}
use Rattle.std.proofs.lemmas.Result.{IfOk-weaker}
use Rattle.clap.specs.Words.{app_of, new_app}
use Rattle.clap.specs.Simple.{app_of_fields}
use Rattle.lb_words.specs.ValuesWords.{with_values}
use Rattle.lb_words.specs.Words.{command_line, with_inputs, with_merging, with_modes, with_nodes}
use Rattle.lb_words.specs.Words.{with_parts, with_spread, with_terms}
use Rattle.lb_words.proofs.request.command_line.Goals as goal

pub returns : goal.returns
unfolding command_line
returns c =
    let made : app_of c.about.result ≡ new_app (codes "lbench") =
    ap app_of_fields c.about.ensures ∙ c.new.ensures.app in
    let both : app_of c.in_ok-command-2.command
    ≡ with_spread (with_nodes (new_app (codes "lbench"))) =
    c.in_ok-command-2.ensures
    ∙ ap with_spread (c.in_ok-command.ensures ∙ ap with_nodes made) in
    let more : app_of c.in_ok-command-3.command
    ≡ with_values (with_spread (with_nodes (new_app (codes "lbench")))) =
    c.in_ok-command-3.ensures ∙ ap with_values both in
    let all : app_of c.in_ok-command-4.command
    ≡ with_modes (with_values (with_spread (with_nodes (new_app (codes "lbench"))))) =
    c.in_ok-command-4.ensures ∙ ap with_modes more in
    let terms = c.in_ok-command-5.ensures ∙ ap with_terms all in
    let parts = c.in_ok-command-6.ensures ∙ ap with_parts terms in
    let merging = c.in_ok-command-7.ensures ∙ ap with_merging parts in
    IfOk-weaker c.with_inputs.result _ _ (λ new is. is ∙ ap with_inputs merging)
    c.with_inputs.ensures
