use Rattle.std.proofs.Common.{◌≡◌, ◌+◌, ◌-◌, ◌≤◌, ◌++◌, take, drop, vec_len, vec_capacity}
use Rattle.lb_traces.proofs.numbers.Numbers.extend_each.Given as goal

abbrev pub invariant-loop-i : goal.invariant-loop-i
invariant-loop-i l = record {
  pushed :
      l.self-inside.packed.items ++ l.self-inside.tail.items
      ≡ l.fn.self.items ++ take (l.i - l.start) (drop l.start l.from.items);
  room : vec_len l.self-inside.tail + (l.end - l.i) ≤ vec_capacity l.self-inside.tail;
}
