use Rattle.std.proofs.Common.{rules}
use Rattle.lb_traces.proofs.names.is_name_byte.Goals as goal

pub returns-else-b-eq46 : goal.returns-else-b-eq46
returns-else-b-eq46 c = search rules
