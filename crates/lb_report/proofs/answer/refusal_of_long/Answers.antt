-- Where the source is accepted, the trace text is too long.
use Rattle.std.proofs.Common.{sym, subst}
use Rattle.lb_report.specs.Bench.{IsRefused}
use Rattle.lb_report.proofs.TextAnswering.{refused_long}
use Rattle.lb_report.proofs.answer.refusal_of_long.Goals as goal

pub returns-in-Ok : goal.returns-in-Ok
returns-in-Ok c = λ traces long.
    subst (IsRefused c.args.source.now traces c.args.options.now) (sym c.too_long.ensures)
    (refused_long c.args.source.now traces c.args.options.now _ c.in-Ok.ensures.ok long)

pub returns-in-Err : goal.returns-in-Err
returns-in-Err c = λ traces long. c.in-Err.ensures.err traces
