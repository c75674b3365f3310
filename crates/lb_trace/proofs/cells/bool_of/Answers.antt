use Rattle.std.proofs.Common.{rules}
use Rattle.lb_trace.proofs.cells.bool_of.Goals as goal

pub returns-else-eq-4 : goal.returns-else-eq-4
returns-else-eq-4 c = search rules
