-- The elaboration that is held is true of its program.
use Rattle.std.proofs.Common.{subst}
use Rattle.lb_static.specs.Elaborated.{IsLawful}
use Rattle.lb_static.proofs.elab.Elab.reached.Goals as goal

pub returns-clause-lawful : goal.returns-clause-lawful
returns-clause-lawful c = subst IsLawful c.self.view_is c.self.invariant
