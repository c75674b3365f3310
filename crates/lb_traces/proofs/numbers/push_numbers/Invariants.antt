use Rattle.std.proofs.Common.{◌≡◌, ◌+◌, ◌-◌, ◌≤◌, ◌++◌, length, take, vec_len, vec_capacity}
use Rattle.lb_traces.specs.Packed.{numbers_in}
use Rattle.lb_traces.proofs.numbers.push_numbers.Given as goal

abbrev pub invariant-loop-w : goal.invariant-loop-w
invariant-loop-w l = record {
  pushed : l.numbers.items ≡ l.fn.numbers.items ++ numbers_in l.row (take l.w l.columns);
  within : l.w ≤ length l.columns;
  room : vec_len l.numbers + (length l.columns - l.w) ≤ vec_capacity l.numbers;
}

abbrev pub decreases-loop-w : goal.decreases-loop-w
decreases-loop-w l = length l.columns - l.w
