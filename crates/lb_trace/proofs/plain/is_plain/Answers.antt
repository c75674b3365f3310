use Rattle.lb_trace.proofs.PlainRecords.{plain_tested}
use Rattle.lb_trace.proofs.plain.is_plain.Goals as goal

pub returns-clause-records : goal.returns-clause-records
returns-clause-records c =
    plain_tested c.loop-b.has_quote c.args.text.now c.loop-b.b-index c.loop-b.invariant
    c.loop-b-test.false
