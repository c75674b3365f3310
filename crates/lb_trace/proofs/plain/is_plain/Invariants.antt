use Rattle.std.proofs.Common.{◌≡◌, take}
use Rattle.lb_trace.specs.Plain.{has_quote}
use Rattle.lb_trace.proofs.plain.is_plain.Given as goal

abbrev pub invariant-loop-b : goal.invariant-loop-b
invariant-loop-b l = l.has_quote ≡ has_quote (take l.b-index l.text)
