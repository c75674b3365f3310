-- The element of one equation shows the result of its operation: an input, a copy, and a holding of
-- the kind of the element.
use Rattle.std.proofs.Common.{◌≡◌, ◌⊎◌, false, Some, List, slice_get, option_map, sym, ap, ap₂, ◌∙◌}
use Rattle.std.proofs.Common.{subst, inl, inr}
use Rattle.std.proofs.lemmas.Option.{slice_get-map}
use Rattle.lb_syntax.specs.declared.tree.Kind.{Kind}
use Rattle.lb_syntax.proofs.ListPlaces.{mapped_from}
use Rattle.lb_flat.specs.Values.{operation_of}
use Rattle.lb_flat.specs.declared.equation.ElementId.{ElementId}
use Rattle.lb_flat.specs.declared.equation.InputId.{InputId}
use Rattle.lb_flat.specs.declared.equation.Operation.{Operation}
use Rattle.lb_flat.specs.declared.equation.Operation.TheVariants.{Input, Copy, Sample}
use Rattle.lb_machine.specs.Meaning.{Lane}
use Rattle.lb_machine.specs.declared.code.Code.{Code}
use Rattle.lb_sim.specs.Emitted.{IsHeld, IsEmitted}
use Rattle.lb_sim.specs.States.{holding_of}
use Rattle.lb_sim.specs.Showing.{shown, scalar_at, value_at, kind_of, value_kind}
use Rattle.lb_sim.specs.declared.place.Value.{Value}
use Rattle.lb_sim.specs.declared.place.Holding.{Holding}
use Rattle.lb_sim.specs.declared.place.Place.{Place}

-- a holding with the value of an input shows the input
pub input_shows :
    (s : Lane) (v : Value) (h : Holding) → s.bits 0 ≡ false →
    h ≡ record { value = v; nil = record { 0 = 0 }; bad = record { 0 = 0 } } →
    value_at s v ≡ scalar_at s h
input_shows s v h nowhere e =
    sym (ap (scalar_at s) e ∙ ap₂ (λ b n. shown b n (value_at s v)) nowhere nowhere)

module _ (code : Code) (places : List Place) (inputs : List Value) (constant kept : Holding) where
  abbrev Emitted : Operation → Kind → Holding → Type 0
  Emitted o kind h = IsEmitted code places inputs constant kept (operation_of o) kind h

  -- an operation that equals `p` is emitted where `p` is
  by_form : (o p : Operation) (kind : Kind) (h : Holding) → o ≡ p → Emitted p kind h →
      Emitted o kind h
  by_form o p kind h e x = subst (λ z. Emitted z kind h) (sym e) x

  -- an equal holding is emitted
  pub same_holding :
      (o : Operation) (kind : Kind) (g h : Holding) → Emitted o kind g →
      (kind_of g ≡ kind → h ≡ g) → Emitted o kind h
  same_holding o kind g h made same N fit read kinds =
      let x : IsHeld code places inputs constant kept (operation_of o) kind g =
      made N fit read kinds in
      subst (IsHeld code places inputs constant kept (operation_of o) kind)
      (sym (same x.kind_is)) x

  input_form :
      (j : InputId) (kind : Kind) (h : Holding) →
      ((v : Value) → slice_get inputs j.0 ≡ Some v →
      h ≡ record { value = v; nil = record { 0 = 0 }; bad = record { 0 = 0 } }) →
      Emitted (Input j) kind h
  input_form j kind h made N fit read kinds =
      let found : (v : Value) × (slice_get inputs j.0 ≡ Some v) × (value_kind v ≡ kind) =
      mapped_from value_kind inputs j.0 kind fit in
      let v : Value = found.0 in
      let is = made v found.1 in
      record {
        kind_is = ap kind_of is ∙ found.2;
        shows = λ s r c.
            slice_get-map (value_at s) inputs j.0 ∙ ap (option_map (value_at s)) found.1
            ∙ ap Some (input_shows s v h r.constants.nowhere is);
      }

  pub input_emitted :
      (o : Operation) (j : InputId) (kind : Kind) (h : Holding) → o ≡ Input j →
      ((v : Value) → slice_get inputs j.0 ≡ Some v →
      h ≡ record { value = v; nil = record { 0 = 0 }; bad = record { 0 = 0 } }) →
      Emitted o kind h
  input_emitted o j kind h e made = by_form o (Input j) kind h e (input_form j kind h made)

  pub copy_emitted :
      (o : Operation) (a : ElementId) (x : Holding) (kind : Kind) →
      (o ≡ Copy a) ⊎ (o ≡ Sample a) → x ≡ holding_of places a.0 → Emitted o kind x
  copy_emitted o a x kind (inl e) is =
      by_form o (Copy a) kind x e
      (λ N fit read kinds. record {
        kind_is = ap kind_of is ∙ read.0 ∙ fit;
        shows = λ s r c. ap (scalar_at s) is;
      })
  copy_emitted o a x kind (inr e) is =
      by_form o (Sample a) kind x e
      (λ N fit read kinds. record {
        kind_is = ap kind_of is ∙ read.0 ∙ fit;
        shows = λ s r c. ap (scalar_at s) is;
      })
