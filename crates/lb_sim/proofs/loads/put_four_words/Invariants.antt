use Rattle.lb_sim.specs.Loads.{AreFourPut}
use Rattle.lb_sim.proofs.loads.put_four_words.Given as goal

abbrev pub invariant-loop-n : goal.invariant-loop-n
invariant-loop-n l = AreFourPut l.a l.b l.c l.d l.first l.fn.rows l.rows l.n
