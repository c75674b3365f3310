use Rattle.std.proofs.Common.{◌≡◌, ◌+◌, ◌≤◌, ◌++◌, take}
use Rattle.lb_traces.proofs.narrow_numbers.NarrowNumbers.push_chunk.Given as goal

abbrev pub invariant-loop-number : goal.invariant-loop-number
invariant-loop-number l = record {
  pushed : l.self.items ≡ l.fn.self.items ++ take l.number-index l.numbers;
  room : l.fn.self.room ≤ l.self.room + l.number-index;
}
