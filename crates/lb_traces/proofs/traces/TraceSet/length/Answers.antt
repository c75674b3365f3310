-- The two places around a trace part its rows from the others.
use Rattle.std.proofs.Common.{arith, length}
use Rattle.lb_traces.specs.Traces.{trace_at}
use Rattle.lb_traces.proofs.Storing.{count_of, parts, PartsTrace}
use Rattle.lb_traces.proofs.traces.TraceSet.length.Goals as goal

pub index-requires : goal.index-requires
index-requires c =
    omega (arith, c.requires, c.self.invariant.parts.rows.paired, count_of _ _ _ _ _ c.self.view_is)

pub index-requires-2 : goal.index-requires-2
index-requires-2 c =
    omega (arith, c.requires, c.self.invariant.parts.rows.paired, count_of _ _ _ _ _ c.self.view_is)

parted : (c : goal.After-row_known-2-1) → PartsTrace
    (length (trace_at c.args.self.now.traces c.args.k).1) c.index-2.result.now c.index.result.now
parted c = parts _ _ _ _ _ _ _ _
    c.self.view_is c.self.invariant.parts c.requires c.index-2.ensures c.index.ensures

pub overflow_sub-result : goal.overflow_sub-result
overflow_sub-result c = omega (arith, (parted c).rises)

pub returns-clause-instants : goal.returns-clause-instants
returns-clause-instants c = (parted c).count

pub returns-clause-started : goal.returns-clause-started
returns-clause-started c = omega (arith, (parted c).rises)

pub returns-clause-limit : goal.returns-clause-limit
returns-clause-limit c = (parted c).limit
