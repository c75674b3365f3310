-- There are as many batches as the numbers fill.
use Rattle.std.proofs.Common.{◌≡◌, ◌+◌, ◌-◌, ◌/◌, List, ℕ, length, sym, ap, ◌∙◌, subst, rules}
use Rattle.lb_plan.proofs.Cutting.{count_is, is_lawful}
use Rattle.lb_plan.specs.Plans.{IsLawful}
use Rattle.lb_plan.proofs.plan.Plan.batches.Goals as goal

pub returns-clause-count : goal.returns-clause-count
returns-clause-count c =
    let width = c.self.inside.width in
    let numbers = c.self.inside.numbers.items in
    let count : c.len.result ≡ length numbers = search rules in
    ap (λ n. (n + (width - 1)) / width) count
    ∙ sym (count_is width numbers)
    ∙ ap (λ (batches : List (List ℕ)). length batches) c.self.view_is

pub returns-clause-lawful : goal.returns-clause-lawful
returns-clause-lawful c =
    subst IsLawful c.self.view_is
    (is_lawful c.self.inside.width c.self.inside.numbers.items c.self.invariant)
