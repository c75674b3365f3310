-- The list has the numbers batch after batch.
use Rattle.std.proofs.Common.{List, ℕ, sym, ap, ◌∙◌}
use Rattle.lb_plan.specs.Plans.{numbers_in}
use Rattle.lb_plan.proofs.Cutting.{joined}
use Rattle.lb_plan.proofs.plan.Plan.numbers.Goals as goal

pub returns : goal.returns
returns c =
    c.as_slice.ensures.value
    ∙ sym (joined c.self.inside.width c.self.inside.numbers.items c.self.invariant.some)
    ∙ ap (λ (batches : List (List ℕ)). numbers_in batches) c.self.view_is
