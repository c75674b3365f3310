use Rattle.std.proofs.Common.{◌≡◌, take}
use Rattle.lb_static.specs.Signature.{kinds_of}
use Rattle.lb_sim.proofs.batch.has_kinds.Given as goal

abbrev pub invariant-loop-j : goal.invariant-loop-j
invariant-loop-j l = take l.j (kinds_of l.signature) ≡ take l.j l.kinds
