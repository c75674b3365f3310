use Rattle.std.proofs.Common.{◌≡◌, ◌+◌, ◌-◌, ◌≤◌, ◌++◌, [], get_or, length, take, vec_len}
use Rattle.std.proofs.Common.{vec_capacity}
use Rattle.lb_traces.specs.Traces.{trace_at}
use Rattle.lb_traces.proofs.traces.TraceSet.copy_row.Given as goal

abbrev pub invariant-loop-column : goal.invariant-loop-column
invariant-loop-column l = record {
  copied : l.row.items
      ≡ l.fn.row.items ++ take l.column (get_or (trace_at l.self.traces l.k).1 l.t []);
  room : vec_len l.row + (length l.self.signature - l.column) ≤ vec_capacity l.row;
}
