use Rattle.lb_sim.proofs.AheadLoads.{Taken}
use Rattle.lb_sim.proofs.ahead.take.Given as goal

abbrev pub invariant-loop-k : goal.invariant-loop-k
invariant-loop-k l = Taken l.room l.d l.places l.fn.words l.words l.k
