use Rattle.lb_flat.proofs.Words.{rules}
use Rattle.lb_flat.proofs.cell.shows.Goals as goal

pub returns-in_default : goal.returns-in_default
returns-in_default c = search rules
