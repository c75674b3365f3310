use Rattle.std.proofs.Common.{◌≡◌, take, min, true}
use Rattle.std.specs.Char.{is_ascii_digit}
use Rattle.std.specs.List.{list_all}
use Rattle.lb_trace.specs.Cells.{decimal}
use Rattle.lb_trace.proofs.cells.many_digits.Given as goal

abbrev pub invariant-loop-digit : goal.invariant-loop-digit
invariant-loop-digit l = record {
  digits : list_all is_ascii_digit (take l.digit-index l.digits) ≡ true;
  value : l.n ≡ min (decimal (take l.digit-index l.digits)) 4294967296;
}
