-- What is found of the node at this place, if there is one.
use Rattle.lb_check.proofs.{Words.{subst, ◌∙◌}, clocking.KeptNodes.{kept_at, kept_past}}
use Rattle.lb_check.specs.{LawfulPrograms.IsChecked, declared.found_clocks.NodeClocks.NodeClocks}
use Rattle.lb_check.proofs.checked.Checked.term_clocks.Goals as goal

pub returns-in-Some-clause-value : goal.returns-in-Some-clause-value
returns-in-Some-clause-value c =
    c.deref-in-Some.ensures.value
    ∙ kept_at (λ (f : NodeClocks). f.terms.items) c.deref.result.now c.self.inside.checking
    c.args.self.now c.args.node.0 c.in-Some.found.now c.deref.ensures.value c.self.view_is
    c.in-Some.ensures.lookup.3.0 c.in-Some.ensures.lookup.1

pub returns-in-None-clause-value : goal.returns-in-None-clause-value
returns-in-None-clause-value c =
    kept_past (λ (f : NodeClocks). f.terms.items) c.deref.result.now c.self.inside.checking
    c.args.self.now c.args.node.0 c.deref.ensures.value c.self.view_is
    c.in-None.ensures.lookup.3

pub returns-in-Some-clause-lawful : goal.returns-in-Some-clause-lawful
returns-in-Some-clause-lawful c = subst IsChecked c.self.view_is c.self.invariant

pub returns-in-None-clause-lawful : goal.returns-in-None-clause-lawful
returns-in-None-clause-lawful c = subst IsChecked c.self.view_is c.self.invariant
