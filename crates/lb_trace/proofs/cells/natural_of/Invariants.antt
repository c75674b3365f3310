use Rattle.std.proofs.Common.{◌≡◌, ◌<◌, ◌^◌, take, true}
use Rattle.std.specs.Char.{is_ascii_digit}
use Rattle.std.specs.List.{list_all}
use Rattle.lb_trace.specs.Cells.{decimal}
use Rattle.lb_trace.proofs.cells.natural_of.Given as goal

abbrev pub invariant-loop-digit : goal.invariant-loop-digit
invariant-loop-digit l = record {
  digits : list_all is_ascii_digit (take l.digit-index l.digits) ≡ true;
  value : l.n ≡ decimal (take l.digit-index l.digits);
  small : l.n < 10 ^ l.digit-index;
}
