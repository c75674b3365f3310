-- A source is accepted, or refused whatever the traces are.
use Rattle.std.proofs.Common.{Err}
use Rattle.lb_report.proofs.Answering.{answered}
use Rattle.lb_report.proofs.judging.judge.Goals as goal

pub returns-in-Ok-clause-ok : goal.returns-in-Ok-clause-ok
returns-in-Ok-clause-ok c =
    let h = c.in-Ok.ensures.ok in
    record { tree = h.tree; spelled = h.spelled; holds = (h.holds.accepted, h.holds.inputs) }

pub returns-in-Err-clause-err : goal.returns-in-Err-clause-err
returns-in-Err-clause-err c = λ traces.
    answered c.args.source.now traces c.args.options.now (Err c.in-Err.error) tt
    (c.in-Err.ensures.err traces)
