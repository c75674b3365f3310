-- The traces that are read in parts are those that the text spells; else one worker reads it.
use Rattle.std.proofs.Common.{arith}
use Rattle.lb_trace.proofs.Readings.{is_reading}
use Rattle.lb_trace.proofs.SpreadReadings.{cut_records}
use Rattle.lb_trace.proofs.read.read_traces_by.Goals as goal

pub returns-in-Some : goal.returns-in-Some
returns-in-Some g c =
    is_reading _ _ _ c.in-Some.ensures.signature
    (c.in-Some.ensures.spelled c.args.text.now (omega arith)
    (cut_records _ _ _ _
    c.strip_bom.ensures c.in-Ok.ensures.records c.in-Ok.ensures.quotes c.deref.ensures.value))
