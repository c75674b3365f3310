use Rattle.std.proofs.Common.{◌++◌, take}
use Rattle.lb_traces.specs.Traces.{Traces}
use Rattle.lb_trace.specs.Rolls.{IsRoll, IsRollOf}
use Rattle.lb_trace.proofs.roll.Roll.append.Given as goal

-- the roll has the traces of `self`, and behind them the first `k` traces of the set
abbrev pub invariant-loop-k : goal.invariant-loop-k
invariant-loop-k l = record {
  roll : IsRoll l.roll;
  taken : (traces : Traces) → IsRollOf l.set.signature l.fn.self traces
      → IsRollOf l.set.signature l.roll (traces ++ take l.k l.set.traces);
}
