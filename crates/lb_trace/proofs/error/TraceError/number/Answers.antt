use Rattle.std.proofs.Common.{rules}
use Rattle.lb_trace.proofs.error.TraceError.number.Goals as goal

pub returns-in-Header : goal.returns-in-Header
returns-in-Header c = search rules
