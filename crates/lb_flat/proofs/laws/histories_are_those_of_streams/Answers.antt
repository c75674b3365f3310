use Rattle.lb_flat.proofs.solutions.StandingRuns.{solves_streamed}
use Rattle.lb_flat.proofs.laws.histories_are_those_of_streams.Goals as goal

pub returns : goal.returns
returns c P f flat X H = solves_streamed P f flat X H
