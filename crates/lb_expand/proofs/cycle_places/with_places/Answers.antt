-- The elements are the elements of the cycle that is given.
use Rattle.lb_expand.proofs.Words.{◌≡◌, ◌∙◌, ap, length, subst, sym, Cycle}
use Rattle.lb_expand.specs.Correct.{IsPlaced}
use Rattle.lb_flat.specs.declared.error.OrderError.TheVariants as order_error
use Rattle.lb_expand.proofs.cycle_places.with_places.Goals as goal

pub returns-in-Ok-new : goal.returns-in-Ok-new
returns-in-Ok-new c =
    let found = c.in-Ok.ensures in
    let value : c.in-Ok-new.placed.value ≡ c.in-Ok.placed = c.in-Ok-new.ensures.ok in
    let inner : c.into_inner-elements.result ≡ c.in-Cycle.cycle.value =
    c.into_inner-elements.ensures in
    subst (λ e. IsPlaced e (order_error.Cycle c.in-Ok-new.placed)) (sym c.in-Cycle.is) (
      ap (λ (k : Cycle). k.elements.items) value
          ∙ (found.0 ∙ ap (λ (k : Cycle). k.elements.items) inner),
      subst (λ (k : Cycle). length k.places.items ≡ length k.elements.items) (sym value)
          (found.1 ∙ ap length (sym found.0)),
    )
