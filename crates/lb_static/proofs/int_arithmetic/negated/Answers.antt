use Rattle.std.proofs.Common.{rules}
use Rattle.lb_static.proofs.int_arithmetic.negated.Goals as goal

pub returns : goal.returns
returns c = search rules
