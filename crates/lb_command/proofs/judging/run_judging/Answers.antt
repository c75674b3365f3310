use Rattle.std.proofs.Common.{List, ℕ, map, refl, subst, sym}
use Rattle.std.specs.Prelude.{string_bytes}
use Rattle.lb_output.proofs.SinkBytes.{takes_nothing}
use Rattle.lb_command.specs.Judging.IsJudgingRun.{answered, refused}
use Rattle.lb_command.specs.Warnings.{AreWarnings}
use Rattle.lb_command.specs.declared.answer.Answer.TheVariants.{OfSource}
use Rattle.lb_command.proofs.judging.run_judging.Goals as goal

pub returns-in-Ok : goal.returns-in-Ok
returns-in-Ok g c =
    let Are : List ℕ → Type 0 =
    AreWarnings (map string_bytes c.args.words.now) c.args.task.now.options in
    answered (OfSource c.in-Ok.found.value) c.as_slice.result.now c.in-Ok.ensures.outcome
    c.in-Ok.ensures.read (subst Are (sym c.as_slice.ensures.value) c.in-Ok.ensures.warned)
    c.deliver.ensures

pub returns-in-Err : goal.returns-in-Err
returns-in-Err g c =
    refused c.in-Err.refusal c.in-Err.ensures.outcome c.in-Err.ensures.read
    c.tell.ensures.status (record { kept = takes_nothing _; never_failed = refl })
    c.tell.ensures.told
