use Rattle.lb_flat.proofs.Words.{◌≡◌, take, kinds_of}
use Rattle.lb_flat.proofs.recorded.kinds_of.Given as goal

abbrev pub invariant-loop-i : goal.invariant-loop-i
invariant-loop-i l = l.kinds.items ≡ take l.i (kinds_of l.signature)
