-- All numbers stand in the batches.
use Rattle.std.proofs.Common.{◌≡◌, length, sym, ap, ◌∙◌, subst, rules}
use Rattle.lb_plan.specs.Plans.{numbers_in, IsLawful}
use Rattle.lb_plan.proofs.Cutting.{joined, is_lawful}
use Rattle.lb_plan.proofs.plan.Plan.traces.Goals as goal

pub returns-clause-count : goal.returns-clause-count
returns-clause-count c =
    let numbers = c.self.inside.numbers.items in
    let count : c.len.result ≡ length numbers = search rules in
    count
    ∙ sym (ap length (joined c.self.inside.width numbers c.self.invariant.some))
    ∙ ap (λ batches. length (numbers_in batches)) c.self.view_is

pub returns-clause-lawful : goal.returns-clause-lawful
returns-clause-lawful c =
    subst IsLawful c.self.view_is
    (is_lawful c.self.inside.width c.self.inside.numbers.items c.self.invariant)
