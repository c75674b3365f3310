use Rattle.std.proofs.Common.{List, ℕ, map, refl, subst}
use Rattle.std.specs.Prelude.{string_bytes}
use Rattle.lb_command.specs.Correct.IsWholeRun.{answered, refused}
use Rattle.lb_command.specs.Outcomes.{IsDelivered}
use Rattle.lb_command.specs.Streams.{change}
use Rattle.lb_command.specs.declared.answer.Answer.TheVariants.{OfTraces}
use Rattle.lb_output.proofs.SinkBytes.{takes_nothing}
use Rattle.lb_command.proofs.run.run_measured.Goals as goal

pub returns-in-Ok : goal.returns-in-Ok
returns-in-Ok g c =
    let args = c.args in
    let new = c.deliver.new in
    let Is : List ℕ → Type 0 = λ warnings.
    IsDelivered (map string_bytes args.words.now) (OfTraces c.in-Ok.told.value) warnings
    c.deliver.result
    (change (g.W.Sink.taken args.writer.now) (g.W.Sink.taken new.writer)
    (g.W.Sink.failures args.writer.now) (g.W.Sink.failures new.writer))
    (change (g.E.Sink.taken args.errors.now) (g.E.Sink.taken new.errors)
    (g.E.Sink.failures args.errors.now) (g.E.Sink.failures new.errors)) in
    answered c.in-Ok.told c.in-Ok.ensures.outcome c.in-Ok.ensures.read
    (subst Is c.as_slice.ensures.value c.deliver.ensures)

pub returns-in-Err : goal.returns-in-Err
returns-in-Err g c =
    refused c.in-Err.refusal c.in-Err.ensures.outcome c.in-Err.ensures.read
    c.tell.ensures.status (record { kept = takes_nothing _; never_failed = refl })
    c.tell.ensures.told
