use Rattle.std.proofs.Common.{rules}
use Rattle.lb_trace.proofs.cells.signed.Goals as goal

pub returns-else-not-is_negative : goal.returns-else-not-is_negative
returns-else-not-is_negative c = search rules
