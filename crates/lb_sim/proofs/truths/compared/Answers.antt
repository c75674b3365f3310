use Rattle.std.proofs.Common.{arith}
use Rattle.lb_sim.proofs.Growth.{grown_none}
use Rattle.lb_sim.proofs.Comparisons.{not_compared}
use Rattle.lb_sim.proofs.truths.compared.Goals as goal

pub returns-in_default : goal.returns-in_default
returns-in_default c = record {
  grown = grown_none c.args.code.now;
  few = omega arith;
  within = omega (arith, c.args.code.now.constants, c.args.code.now.more_planes);
  means = λ e s r.
      absurd (not_compared c.args.op c.in_default.not-Equal c.in_default.not-Unequal
      c.in_default.not-Less c.in_default.not-AtMost c.in_default.not-Greater
      c.in_default.not-AtLeast e);
}
