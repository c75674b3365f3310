use Rattle.std.proofs.Common.{◌≡◌, ◌<◌, ◌≤◌, ◌^◌, take, true}
use Rattle.std.specs.Char.{is_ascii_digit}
use Rattle.std.specs.List.{list_all}
use Rattle.lb_trace.specs.Cells.{decimal}
use Rattle.lb_trace.proofs.fast_cells.small_number.Given as goal

abbrev pub invariant-loop-i : goal.invariant-loop-i
invariant-loop-i l = record {
  digits : list_all is_ascii_digit (take l.i l.text) ≡ true;
  value : l.n ≡ decimal (take l.i l.text);
  small : l.n < 10 ^ l.i;
  few : l.i ≤ 9;
}
