use Rattle.std.proofs.Common.{◌≡◌, ◌+◌, ◌++◌, length, take}
use Rattle.lb_trace.specs.HeldLines.{AreParts, front_row}
use Rattle.lb_trace.proofs.held_rows.last_parts.Given as goal

abbrev pub invariant-loop-k : goal.invariant-loop-k
invariant-loop-k l = record {
  parts : AreParts l.columns l.numbers (l.front.i + l.k) l.at l.truths l.bits;
  row : front_row l.columns l.numbers (l.front.i + l.k) l.at l.truths l.bits
      ≡ front_row l.columns l.fn.numbers l.front.i l.front.at l.front.truths l.front.bits
      ++ take l.k l.values;
  long : length l.numbers ≡ length l.columns;
}
