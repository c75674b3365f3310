use Rattle.lb_trace.specs.Rolls.{IsRoll}
use Rattle.lb_trace.proofs.RollJoins.{HasTakenRoll}
use Rattle.lb_trace.proofs.roll.Roll.append_roll.Given as goal

-- the roll has the traces of `self`, and behind them the first `k` traces of the other roll
abbrev pub invariant-loop-k : goal.invariant-loop-k
invariant-loop-k l = record {
  roll : IsRoll l.roll;
  taken : HasTakenRoll l.fn.self l.other l.k l.roll;
}
