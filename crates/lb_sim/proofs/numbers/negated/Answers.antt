use Rattle.std.proofs.Common.{arith}
use Rattle.std.proofs.lemmas.Result.{IfOk-weaker}
use Rattle.lb_sim.proofs.IntegerHoldings.{negated_for}
use Rattle.lb_sim.proofs.numbers.negated.Goals as goal

pub two_numbers-requires-clause-left : goal.two_numbers-requires-clause-left
two_numbers-requires-clause-left c =
    omega (arith, c.args.code.now.zero, c.args.code.now.more_words)

pub returns-clause-holding : goal.returns-clause-holding
returns-clause-holding c =
    IfOk-weaker c.two_numbers.result _ _
    (negated_for c.two_numbers.new.code c.args.a c.args.nil c.args.bad)
    c.two_numbers.ensures.holding
