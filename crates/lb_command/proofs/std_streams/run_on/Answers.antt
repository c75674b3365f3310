use Rattle.lb_command.proofs.SameWriters.{same_writers}
use Rattle.lb_command.proofs.std_streams.run_on.Goals as goal

pub returns-clause-output : goal.returns-clause-output
returns-clause-output g c = (same_writers _ _ _ _ _ c.run_command.ensures).of_output

pub returns-clause-errors : goal.returns-clause-errors
returns-clause-errors g c = (same_writers _ _ _ _ _ c.run_command.ensures).of_errors
