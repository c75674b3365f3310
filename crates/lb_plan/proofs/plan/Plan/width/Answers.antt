-- The batches have this width.
use Rattle.std.proofs.Common.{List, ℕ, length, subst}
use Rattle.lb_plan.specs.Plans.{numbers_in, IsPlan}
use Rattle.lb_plan.proofs.Cutting.{joined_plan}
use Rattle.lb_plan.proofs.plan.Plan.width.Goals as goal

pub returns-clause-plan : goal.returns-clause-plan
returns-clause-plan c =
    let width = c.self.inside.width in
    subst (λ (batches : List (List ℕ)). IsPlan (length (numbers_in batches)) width batches)
    c.self.view_is (joined_plan width c.self.inside.numbers.items c.self.invariant)
