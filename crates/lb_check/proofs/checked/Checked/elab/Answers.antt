-- A checked program keeps the rules.
use Rattle.lb_check.{proofs.Words.subst, specs.LawfulPrograms.IsChecked}
use Rattle.lb_check.proofs.checked.Checked.elab.Goals as goal

pub returns-clause-lawful : goal.returns-clause-lawful
returns-clause-lawful c = subst IsChecked c.self.view_is c.self.invariant
