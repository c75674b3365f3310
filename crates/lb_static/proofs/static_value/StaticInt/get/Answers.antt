use Rattle.std.proofs.Common.{rules}
use Rattle.lb_static.proofs.static_value.StaticInt.get.Goals as goal

pub returns-clause-value : goal.returns-clause-value
returns-clause-value c = search rules
