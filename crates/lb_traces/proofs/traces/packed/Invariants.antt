use Rattle.std.proofs.Common.{◌-◌, ◌≤◌}
use Rattle.lb_traces.proofs.PackedRows.{Packing}
use Rattle.lb_traces.proofs.traces.packed.Given as goal

abbrev pub invariant-loop-i : goal.invariant-loop-i
invariant-loop-i l = record {
  packed : Packing l.row l.columns l.first l.word l.i;
  within : l.i ≤ l.count;
}

abbrev pub decreases-loop-i : goal.decreases-loop-i
decreases-loop-i l = l.count - l.i
