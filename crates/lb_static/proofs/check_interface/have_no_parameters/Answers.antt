use Rattle.std.proofs.Common.{rules}
use Rattle.lb_static.proofs.check_interface.have_no_parameters.Goals as goal

pub returns-in-Some : goal.returns-in-Some
returns-in-Some c = search rules

pub returns-in-None : goal.returns-in-None
returns-in-None c = search rules

pub returns-else-has_no_parameters : goal.returns-else-has_no_parameters
returns-else-has_no_parameters c = search rules
