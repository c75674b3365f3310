-- There are as many traces as names.
use Rattle.std.proofs.Common.{arith}
use Rattle.lb_traces.proofs.Storing.{count_of}
use Rattle.lb_traces.proofs.traces.TraceSet.len.Goals as goal

pub returns-clause-count : goal.returns-clause-count
returns-clause-count c =
    omega (
      arith,
      c.len.ensures.count,
      count_of _ _ _ _ _
          c.self.view_is,
    )
