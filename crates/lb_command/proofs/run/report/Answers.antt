use Rattle.std.proofs.Common.{map, subst}
use Rattle.std.proofs.lemmas.Result.{IfOk-weaker}
use Rattle.std.specs.Prelude.{string_bytes}
use Rattle.clap.specs.Words.{Text}
use Rattle.lb_command.specs.Outcomes.{AreIn, AreTexts, HasPath, IsInput, IsLoaded}
use Rattle.lb_command.specs.Outcomes.AreTexts.{of_input}
use Rattle.lb_command.specs.Outcomes.IsRefusedOn.{unread}
use Rattle.lb_command.specs.Streams.{input}
use Rattle.lb_command.proofs.Feeding.{nothing_said}
use Rattle.lb_command.proofs.Outcomes.{all_read, are_texts, file_read, outcome_on, read_more}
use Rattle.lb_command.proofs.run.report.Goals as goal

pub returns-in-Some-clause-outcome : goal.returns-in-Some-clause-outcome
returns-in-Some-clause-outcome g c =
    let task = c.args.task.now in
    let known = g.F.Feed.coming c.args.reader.now in
    let Are : Text → Text → Type 0 = λ source traces. IsInput known traces in
    let is = c.in-Some.ensures in
    outcome_on Are (AreTexts task known) task.options c.report_on_feed.result
    (λ source traces all. of_input c.in-Some.path is.0 is.1 all) c.report_on_feed.ensures.outcome

pub returns-in-Some-clause-read : goal.returns-in-Some-clause-read
returns-in-Some-clause-read g c =
    let reader = c.args.reader.now in
    let after = c.report_on_feed.new.feed in
    let i =
    input (g.F.Feed.coming reader) (g.F.Feed.given reader) (g.F.Feed.given after)
    (g.F.Feed.failures reader) (g.F.Feed.failures after) in
    read_more ⊥ (HasPath c.args.task.now) i c.report_on_feed.result (λ none. absurd none)
    c.report_on_feed.ensures.read

pub returns-in-Some-clause-warned : goal.returns-in-Some-clause-warned
returns-in-Some-clause-warned g c =
    IfOk-weaker c.report_on_feed.result _ _
    (λ told none. nothing_said (map string_bytes c.args.words.now) c.args.task.now.options
    told.warnings.items none) c.report_on_feed.ensures.warned

pub returns-in-Texts-clause-outcome : goal.returns-in-Texts-clause-outcome
returns-in-Texts-clause-outcome g c =
    let known = g.F.Feed.coming c.args.reader.now in
    let is = subst (IsLoaded c.args.task.now known) c.in-Texts.is c.in-Ok.ensures.ok in
    outcome_on (AreIn c.in-Texts.texts) (AreTexts c.args.task.now known) c.args.task.now.options
    c.report_on.result
    (λ source traces are. are_texts c.args.task.now known c.in-Texts.texts source traces is are)
    c.report_on.ensures.outcome

pub returns-in-Texts-clause-read : goal.returns-in-Texts-clause-read
returns-in-Texts-clause-read g c =
    all_read (HasPath c.args.task.now) _ c.report_on.result c.in-Ok.ensures.read
    c.report_on.ensures.not_read

pub returns-in-Open-clause-outcome : goal.returns-in-Open-clause-outcome
returns-in-Open-clause-outcome g c =
    let known = g.F.Feed.coming c.args.reader.now in
    let is = subst (IsLoaded c.args.task.now known) c.in-Open.is c.in-Ok.ensures.ok in
    let Are : Text → Text → Type 0 = λ source traces. Unit {0} in
    outcome_on Are (AreTexts c.args.task.now known) c.args.task.now.options
    c.report_on_open.result (λ source traces are. is.1 source traces)
    c.report_on_open.ensures.outcome

pub returns-in-Open-clause-read : goal.returns-in-Open-clause-read
returns-in-Open-clause-read g c =
    let known = g.F.Feed.coming c.args.reader.now in
    let is = subst (IsLoaded c.args.task.now known) c.in-Open.is c.in-Ok.ensures.ok in
    file_read (HasPath c.args.task.now) _ c.report_on_open.result is.0 c.in-Ok.ensures.read

pub returns-in-Err-clause-outcome : goal.returns-in-Err-clause-outcome
returns-in-Err-clause-outcome g c = unread c.in-Err.ensures.err
