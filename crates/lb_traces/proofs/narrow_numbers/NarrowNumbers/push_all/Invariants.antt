use Rattle.std.proofs.Common.{◌≡◌, ◌+◌, ◌-◌, ◌≤◌, ◌++◌, length, take}
use Rattle.lb_traces.proofs.narrow_numbers.NarrowNumbers.push_all.Given as goal

abbrev pub invariant-loop-done : goal.invariant-loop-done
invariant-loop-done l = record {
  pushed : l.self.items ≡ l.fn.self.items ++ take l.done l.numbers;
  within : l.done ≤ length l.numbers;
  room : l.fn.self.room ≤ l.self.room + l.done;
}

abbrev pub decreases-loop-done : goal.decreases-loop-done
decreases-loop-done l = length l.numbers - l.done
