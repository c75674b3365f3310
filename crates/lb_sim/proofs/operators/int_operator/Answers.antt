use Rattle.lb_sim.proofs.IntegerHoldings.{no_operator}
use Rattle.lb_sim.proofs.operators.int_operator.Goals as goal

pub returns-in_default-clause-none : goal.returns-in_default-clause-none
returns-in_default-clause-none c e =
    let n = c.in_default in
    no_operator c.args.op n.not-Plus n.not-Minus n.not-Times n.not-Divide n.not-Modulo
