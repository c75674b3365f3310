use Rattle.std.proofs.lemmas.Result.{IfOk-weaker}
use Rattle.lb_sim.proofs.IntegerHoldings.{arithmetic_for}
use Rattle.lb_sim.proofs.numbers.arithmetic.Goals as goal

pub returns-clause-holding : goal.returns-clause-holding
returns-clause-holding c =
    IfOk-weaker c.two_numbers.result _ _
    (arithmetic_for c.two_numbers.new.code c.args.op c.args.a c.args.b c.args.nil c.args.left
    c.args.right) c.two_numbers.ensures.holding
