use Rattle.lb_sim.proofs.Loading.{WordsPut}
use Rattle.lb_sim.proofs.loads.put_words.Given as goal

abbrev pub invariant-loop-n : goal.invariant-loop-n
invariant-loop-n l = WordsPut l.bits l.i l.fn.rows l.rows l.n
