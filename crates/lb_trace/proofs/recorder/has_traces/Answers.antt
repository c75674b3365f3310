-- The set counts its traces.
use Rattle.std.proofs.Common.{nat_lt, ap}
use Rattle.lb_trace.proofs.recorder.has_traces.Goals as goal

pub returns : goal.returns
returns c = ap (λ n. nat_lt n 1000000) c.len.ensures.count
