-- The element of `current` shows its operand where that is present, and the memory where it is
-- absent.
use Rattle.std.proofs.Common.{◌≡◌, List, get_or, sym, ap, ◌∙◌, subst}
use Rattle.std.specs.Prelude.{if◌then◌else◌}
use Rattle.lb_syntax.specs.declared.tree.Kind.{Kind}
use Rattle.lb_flat.specs.Values.{operation_of}
use Rattle.lb_flat.specs.declared.equation.ElementId.{ElementId}
use Rattle.lb_flat.specs.declared.equation.Operation.{Operation}
use Rattle.lb_flat.specs.declared.equation.Operation.TheVariants.{Latest}
use Rattle.lb_flat.specs.declared.scalar.Scalar.{Scalar}
use Rattle.lb_machine.specs.declared.code.Code.{Code}
use Rattle.lb_sim.specs.Emitted.{IsEmitted}
use Rattle.lb_sim.specs.Holdings.{IsFor}
use Rattle.lb_sim.specs.Showing.{scalar_at, kind_of}
use Rattle.lb_sim.specs.States.{no_place}
use Rattle.lb_sim.specs.declared.place.Value.{Value}
use Rattle.lb_sim.specs.declared.place.Holding.{Holding}
use Rattle.lb_sim.specs.declared.place.Place.{Place}

module _ (code : Code) (places : List Place) (inputs : List Value) (constant kept : Holding)
    (v : Scalar) (a : ElementId) (place : Place) (kind : Kind) (h : Holding)
    (made : kind_of place.holding ≡ kind_of kept →
    IsFor code (kind_of place.holding)
    (λ s. if s.bits place.present.0 then scalar_at s place.holding else scalar_at s kept) h)
    (is : place ≡ get_or places a.0 no_place) where
  latest_form :
      IsEmitted code places inputs constant kept (operation_of (Latest v a)) kind h
  latest_form N fit read kinds =
      let e : kind_of place.holding ≡ kind =
      ap (λ (p : Place). kind_of p.holding) is ∙ read.0 ∙ fit.1 in
      let held = made (e ∙ sym (kinds fit.0)) in
      record {
        kind_is = held.kind_is ∙ e;
        shows = λ s r c.
            held.means s r
            ∙ ap
            (λ (p : Place).
            if s.bits p.present.0 then scalar_at s p.holding else scalar_at s kept) is;
      }

  -- an operation that equals `current` is emitted
  pub latest_emitted :
      (o : Operation) → o ≡ Latest v a →
      IsEmitted code places inputs constant kept (operation_of o) kind h
  latest_emitted o e =
      subst (λ z. IsEmitted code places inputs constant kept (operation_of z) kind h) (sym e)
      latest_form
