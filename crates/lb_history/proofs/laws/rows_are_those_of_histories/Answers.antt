use Rattle.lb_history.proofs.Runs.{row_shows}
use Rattle.lb_history.proofs.laws.rows_are_those_of_histories.Goals as goal

pub returns : goal.returns
returns c P f flat ready X H solves t i e lt at = row_shows P f flat ready X H solves t i e lt at
