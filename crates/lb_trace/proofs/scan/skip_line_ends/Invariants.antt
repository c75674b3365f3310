use Rattle.std.proofs.Common.{◌≡◌, drop}
use Rattle.lb_trace.specs.Plain.{plain_records}
use Rattle.lb_trace.proofs.scan.skip_line_ends.Given as goal

abbrev pub invariant-loop-i : goal.invariant-loop-i
invariant-loop-i l = plain_records l.text ≡ plain_records (drop l.i l.text)
