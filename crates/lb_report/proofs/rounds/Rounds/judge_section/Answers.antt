-- All pieces of a section; where they are not judged it is set aside.
use Rattle.std.proofs.Common.{[], refl}
use Rattle.lb_trace.specs.declared.error.TraceError.TheVariants.{Memory}
use Rattle.lb_feed.proofs.Passing.{passes_on}
use Rattle.lb_report.specs.Sections.{IsSetAside}
use Rattle.lb_report.specs.declared.rounds.Halt.TheVariants.{Refused}
use Rattle.lb_report.proofs.rounds.Rounds.judge_section.Goals as goal

pub returns-in_err-begin-clause-err : goal.returns-in_err-begin-clause-err
returns-in_err-begin-clause-err g c =
    passes_on c.from_residual.result (Refused (Memory c.in_err-begin.field-0.0)) IsSetAside
    c.from_residual.ensures.1 refl

pub returns-in-Ok-clause-ok : goal.returns-in-Ok-clause-ok
returns-in-Ok-clause-ok g c = c.in-Ok.ensures.ok [] (c.in_ok-begin.ensures.part c.args.table.now)

pub returns-in-Err-Halted-Refused-clause-err : goal.returns-in-Err-Halted-Refused-clause-err
returns-in-Err-Halted-Refused-clause-err g c =
    let part = c.in_ok-begin.ensures.part c.args.table.now in
    let reading =
    rw c.in-Err-Halted-Refused.field-0-is at (c.in-Err-Halted-Refused.ensures.err [] part) in
    (rw c.in-Err-Halted-Refused.field-0-0-is at reading).halt
