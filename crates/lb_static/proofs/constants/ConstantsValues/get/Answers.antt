use Rattle.std.proofs.Common.{rules}
use Rattle.lb_static.proofs.constants.ConstantsValues.get.Goals as goal

pub returns : goal.returns
returns c = search rules
