use Rattle.std.proofs.Common.{rules}
use Rattle.lb_traces.proofs.traces.TraceRows.push.Goals as goal

pub returns-clause-ok : goal.returns-clause-ok
returns-clause-ok c = search rules
