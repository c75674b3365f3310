use Rattle.std.proofs.Common.{map, refl, subst}
use Rattle.std.specs.Prelude.{string_bytes}
use Rattle.lb_output.proofs.SinkBytes.{takes_nothing}
use Rattle.lb_words.specs.Words.{AsksForHelp, AsksForVersion, IsAsked, IsRequest}
use Rattle.lb_words.specs.declared.request.Request.{Request}
use Rattle.lb_command.specs.Correct.IsRun.{asked, refused, told}
use Rattle.lb_command.specs.declared.answer.Answer.TheVariants.{Help, Version}
use Rattle.lb_command.proofs.Outcomes.{words_refused}
use Rattle.lb_command.proofs.run.run_command.Goals as goal

pub run_task-requires-clause-worker : goal.run_task-requires-clause-worker
run_task-requires-clause-worker g c κs within =
    let words = map string_bytes c.args.words.now in
    let Is : Request → Type 0 = IsRequest words in
    let given : IsAsked words c.in-Run.task = subst Is c.in-Run.is c.in-Ok.ensures.ok in
    given.given.worker

pub returns-in-Help : goal.returns-in-Help
returns-in-Help g c =
    let words = map string_bytes c.args.words.now in
    let Is : Request → Type 0 = IsRequest words in
    let asks : AsksForHelp words = subst Is c.in-Help.is c.in-Ok.ensures.ok in
    told (Help c.in-Help.text) asks (refl, refl) c.deliver.ensures

pub returns-in-Version : goal.returns-in-Version
returns-in-Version g c =
    let words = map string_bytes c.args.words.now in
    let Is : Request → Type 0 = IsRequest words in
    let asks : AsksForVersion words = subst Is c.in-Version.is c.in-Ok.ensures.ok in
    told Version asks (refl, refl) c.deliver-in-Version.ensures

pub returns-in-Run : goal.returns-in-Run
returns-in-Run g c =
    let words = map string_bytes c.args.words.now in
    let Is : Request → Type 0 = IsRequest words in
    let given : IsAsked words c.in-Run.task = subst Is c.in-Run.is c.in-Ok.ensures.ok in
    asked c.in-Run.task given c.run_task.ensures

pub returns-in-Err : goal.returns-in-Err
returns-in-Err g c =
    let refusal = c.from.result in
    refused refusal (words_refused _ c.in-Err.cause refusal c.from.ensures c.in-Err.ensures.err)
    (refl, refl) c.tell.ensures.status
    (record { kept = takes_nothing _; never_failed = refl }) c.tell.ensures.told
