-- The rows of the last trace are those of the trace at the last place.
use Rattle.std.proofs.Common.{◌≡◌, arith, ◌-◌, length, ap}
use Rattle.lb_traces.specs.Traces.{last_rows, trace_at}
use Rattle.lb_trace.proofs.Lasts.{last_rows_at}
use Rattle.lb_trace.proofs.joined.has_room_for.Goals as goal

pub returns-clause-instants : goal.returns-clause-instants
returns-clause-instants c within =
    let last : length (last_rows c.args.set.now.traces)
    ≡ length (trace_at c.args.set.now.traces (c.len-2.result - 1)).1 =
    ap length (last_rows_at c.args.set.now.traces (c.len-2.result - 1) c.requires.started
    (omega (arith, c.len-2.ensures.count))) in
    omega (arith, last, c.length.ensures.instants, c.if-instants-gt1000000.false)
