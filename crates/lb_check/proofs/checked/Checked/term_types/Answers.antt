-- The types of the specialization at this place, if there are any.
use Rattle.lb_check.proofs.Words.{ap, slice_get, subst, sym, ◌>>=◌, ◌∙◌}
use Rattle.lb_check.specs.{LawfulPrograms.IsChecked, declared.checked.Checking.Checking}
use Rattle.lb_static.proofs.Lookups.{looked_up}
use Rattle.lb_check.proofs.checked.Checked.term_types.Goals as goal

pub returns-in-Some-clause-value : goal.returns-in-Some-clause-value
returns-in-Some-clause-value c =
    looked_up c.get.result c.deref.result.now c.in-Some.all.items c.args.specialization.0
    c.deref.ensures.value c.get.ensures.lookup.3
    ∙ sym (ap (λ o. o >>= λ all. slice_get all.items c.args.specialization.0)
    (sym (ap (λ (k : Checking). k.types) c.self.view_is) ∙ c.in-Some.is))

pub returns-in-Some-clause-lawful : goal.returns-in-Some-clause-lawful
returns-in-Some-clause-lawful c = subst IsChecked c.self.view_is c.self.invariant

pub returns-in-None-clause-lawful : goal.returns-in-None-clause-lawful
returns-in-None-clause-lawful c = subst IsChecked c.self.view_is c.self.invariant
