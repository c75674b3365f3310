use Rattle.lb_sim.proofs.Choosing.{AreAs}
use Rattle.lb_sim.proofs.choice.are_as.Given as goal

abbrev pub invariant-loop-k : goal.invariant-loop-k
invariant-loop-k l = AreAs l.planes l.each l.one.0 l.other.0 l.k
