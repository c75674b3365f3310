-- Nothing is judged, and no round is read.
use Rattle.std.proofs.Common.{[]}
use Rattle.std.proofs.lemmas.Result.{IfOk-weaker}
use Rattle.lb_trace.specs.declared.table.ColumnTable.{ColumnTable}
use Rattle.lb_report.specs.JudgedParts.{IsPartRead}
use Rattle.lb_report.proofs.PartReads.{judged_none}
use Rattle.lb_report.proofs.rounds.Rounds.begin.Goals as goal

pub begin_with-requires : goal.begin_with-requires
begin_with-requires c =
    (c.in_ok-new.ensures c.args.self.now.runner.program.now.program.now).names.is

pub returns-clause-part : goal.returns-clause-part
returns-clause-part c =
    let p = c.args.self.now.runner.program.now.program.now in
    let elements = c.args.self.now.signature.now in
    IfOk-weaker c.begin_with.result _
    (λ state. (table : ColumnTable) → IsPartRead p elements table [] state)
    (λ state given table. given table []
    (judged_none p elements table c.in_ok-new.field-0 (c.in_ok-new.ensures p)))
    c.begin_with.ensures.part
