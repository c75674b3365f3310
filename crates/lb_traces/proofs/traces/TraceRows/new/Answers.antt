use Rattle.std.proofs.Common.{rules}
use Rattle.lb_traces.proofs.traces.TraceRows.new.Goals as goal

pub returns : goal.returns
returns c = search rules
