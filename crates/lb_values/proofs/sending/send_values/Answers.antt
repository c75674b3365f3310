use Rattle.std.proofs.Common.{◌≡◌, ◌∙◌, Ok, ap, false}
use Rattle.lb_show.specs.Shows.{csv_rest, is_csv}
use Rattle.lb_values.proofs.Parts.{finished, sent_on, stopped}
use Rattle.lb_values.proofs.sending.send_values.Goals as goal

pub parts-preserved : goal.parts-preserved
parts-preserved g c =
    let before = c.parts.invariant in
    let sent = c.in-Ok-true.ensures in
    record {
      sent = sent_on _ _ _ _ _ _ _ _ before.kept before.sent sent.sent;
      kept = sent.kept ∙ before.kept;
      failures = sent.failures ∙ before.failures;
    }

pub returns-in-Ok-false : goal.returns-in-Ok-false
returns-in-Ok-false g c =
    let before = c.parts.invariant in
    let sent = c.in-Ok-false.ensures in
    let none : c.in-Ok-false.field-0 ≡ false = c.in-Ok-false.field-0-test in
    finished (is_csv c.args.show.now) (g.S.Sink.taken c.args.sink.now)
    (g.S.Sink.taken c.send_part.new.sink) (g.S.Sink.taken c.finish.new.sink)
    (csv_rest c.args.show.now) (csv_rest c.send_part.new.show)
    (g.S.Sink.failures c.args.sink.now) (g.S.Sink.failures c.send_part.new.sink)
    (g.S.Sink.failures c.finish.new.sink) c.finish.result
    (sent_on _ _ _ _ _ _ _ _ before.kept before.sent sent.sent)
    (λ is. sent.all (ap Ok none) (before.kept ∙ is)) c.finish.ensures.kept
    (sent.failures ∙ before.failures) c.finish.ensures.ok c.finish.ensures.cause

pub returns-in-Err : goal.returns-in-Err
returns-in-Err g c =
    let before = c.parts.invariant in
    let sent = c.in-Err.ensures in
    stopped (is_csv c.args.show.now) (g.S.Sink.taken c.args.sink.now)
    (g.S.Sink.taken c.send_part.new.sink) (csv_rest c.args.show.now) sent.stopped.0
    (g.S.Sink.failures c.args.sink.now) (g.S.Sink.failures c.parts.sink)
    (g.S.Sink.failures c.send_part.new.sink) c.in-Err.cause
    (sent_on _ _ _ _ _ _ _ _ before.kept before.sent sent.stopped.1) before.failures
    sent.cause
