use Rattle.lb_flat.proofs.Words.{rules}
use Rattle.lb_flat.proofs.instant.now.Goals as goal

pub returns-in-Latest : goal.returns-in-Latest
returns-in-Latest c = search rules
