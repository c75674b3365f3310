use Rattle.std.proofs.Common.{◌≡◌, false, take}
use Rattle.std.specs.List.{list_any}
use Rattle.lb_trace.specs.Plain.{ends_line}
use Rattle.lb_trace.proofs.front_line.line_len.Given as goal

abbrev pub invariant-loop-i : goal.invariant-loop-i
invariant-loop-i l = list_any ends_line (take l.i l.text) ≡ false
