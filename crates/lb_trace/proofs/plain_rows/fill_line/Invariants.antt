use Rattle.std.proofs.Common.{◌≡◌, ◌≤◌, ◌-◌, drop, length, take}
use Rattle.lb_trace.specs.Lines.{after_line, record_of}
use Rattle.lb_trace.specs.PlainRows.{onto, plain_row}
use Rattle.lb_trace.proofs.plain_rows.fill_line.Given as goal

abbrev pub invariant-loop-i : goal.invariant-loop-i
invariant-loop-i l = record {
  cells : plain_row l.columns (record_of l.text)
      ≡ onto (take l.i l.cells) (plain_row (drop l.i l.columns) (record_of l.rest));
  after : after_line l.text ≡ after_line l.rest;
  long : length l.cells ≡ length l.columns;
  within : l.i ≤ length l.columns;
}

abbrev pub decreases-loop-i : goal.decreases-loop-i
decreases-loop-i l = length l.columns - l.i
