use Rattle.lb_flat.proofs.Words.{rules}
use Rattle.lb_flat.proofs.instant.remember.Goals as goal

pub returns-in-Previous : goal.returns-in-Previous
returns-in-Previous c = search rules
