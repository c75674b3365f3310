-- A text is a feed that tells its bytes; one that is too long is refused before it is read.
use Rattle.std.proofs.Common.{◌<◌, Err, Ok, arith, length}
use Rattle.lb_refusal.specs.declared.error.BenchError.TheVariants.{Memory}
use Rattle.lb_report.proofs.Answering.{answered}
use Rattle.lb_report.proofs.TextAnswering.{text_answered}
use Rattle.lb_report.proofs.answer.bench.Goals as goal

pub returns-then-traces-gt-MOST_BYTES : goal.returns-then-traces-gt-MOST_BYTES
returns-then-traces-gt-MOST_BYTES g c =
    let long : 1073741824 < length c.args.traces.now = omega arith in
    answered c.args.source.now c.args.traces.now c.args.options.now (Err c.refusal_of_long.result)
    tt (c.refusal_of_long.ensures c.args.traces.now long)

pub returns-in-Ok : goal.returns-in-Ok
returns-in-Ok g c =
    text_answered c.args.source.now c.args.traces.now c.args.options.now _ _ (Ok c.in-Ok.report)
    c.new-feed.ensures.coming c.in-Ok.ensures

pub returns-in-Err-Refused : goal.returns-in-Err-Refused
returns-in-Err-Refused g c =
    let found = rw c.in-Err-Refused.field-0-is at c.in-Err-Refused.ensures in
    text_answered c.args.source.now c.args.traces.now c.args.options.now _ _
    (Err c.in-Err-Refused.cause) c.new-feed.ensures.coming found

pub returns-in-Err-Load : goal.returns-in-Err-Load
returns-in-Err-Load g c =
    answered c.args.source.now c.args.traces.now c.args.options.now (Err Memory) tt tt
