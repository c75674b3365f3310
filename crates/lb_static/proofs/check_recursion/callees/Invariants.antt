use Rattle.std.proofs.Common.{◌≡◌, take}
use Rattle.lb_static.specs.CallGraphs.{callees_of}
use Rattle.lb_static.proofs.check_recursion.callees.Given as goal

abbrev pub invariant-loop-call : goal.invariant-loop-call
invariant-loop-call l = l.places.items ≡ callees_of l.reached (take l.call-index l.calls)
