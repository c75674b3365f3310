-- An equation still shows its element when another element, which it does not read, gets its place.
use Rattle.std.proofs.Common.{◌≡◌, ◌≢◌, ℕ, ◌<◌, ◌&&◌, None, List, [], ◌∷◌, set, length, get_or}
use Rattle.std.proofs.Common.{cond, refl, sym, ap, ap₂, ◌∙◌, subst}
use Rattle.std.proofs.lemmas.List.{get_or-set_same, get_or-set_other, map-set}
use Rattle.lb_syntax.specs.Lists.{Every, In}
use Rattle.lb_check.specs.Scalars.{Scalar, two_scalars, one_scalar, chosen}
use Rattle.lb_check.specs.Streams.{shows}
use Rattle.lb_flat.specs.Flat.{FlatClock, Always, Where, Operation, Input, Constant, Copy}
use Rattle.lb_flat.specs.Flat.{ApplyUnary}
use Rattle.lb_flat.specs.Flat.{ApplyBinary, Choose, FirstThen, Previous, Latest, Sample}
use Rattle.lb_flat.specs.Flat.{FlatEquation}
use Rattle.lb_flat.specs.Run.{cell, is_now, clock_reads, reads}
use Rattle.lb_machine.specs.Meaning.{Lane}
use Rattle.lb_sim.specs.Showing.{scalar_at, cell_at, row_at}
use Rattle.lb_sim.specs.States.{no_place, holding_of, present_at, kept_at, flag_at, IsShown}
use Rattle.lb_sim.specs.States.{IsShownBy}
use Rattle.lb_sim.specs.declared.place.Holding.{Holding}
use Rattle.lb_sim.specs.declared.place.Place.{Place}

module _ (given : List Scalar) (s : Lane) (places : List Place) (e : ℕ) (p : Place) where
  abbrev after : List Place
  after = set places e p

  -- any other element has the place that it had
  place_stays : (a : ℕ) → a ≢ e → get_or after a no_place ≡ get_or places a no_place
  place_stays a ne = get_or-set_other places e a p no_place ne

  scalar_stays : (a : ℕ) → a ≢ e →
      scalar_at s (holding_of after a) ≡ scalar_at s (holding_of places a)
  scalar_stays a ne = ap (λ (q : Place). scalar_at s q.holding) (place_stays a ne)

  present_stays : (a : ℕ) → a ≢ e → present_at s after a ≡ present_at s places a
  present_stays a ne = ap (λ (q : Place). s.bits q.present.0) (place_stays a ne)

  cell_stays : (a : ℕ) → a ≢ e → cell (row_at s after) a ≡ cell (row_at s places) a
  cell_stays a ne =
      ap (λ row. cell row a) (map-set (cell_at s) places e p)
      ∙ get_or-set_other (row_at s places) e a (cell_at s p) None ne

  -- a clock that does not read the element ticks as before
  pub now_stays : (k : FlatClock) → Every (λ a. a ≢ e) (clock_reads k) →
      is_now (row_at s after) k ≡ is_now (row_at s places) k
  now_stays Always h = refl
  now_stays (Where k a sign) h =
      ap₂ (λ b x. b && shows sign x) (now_stays k h.1) (cell_stays a h.0)

  shown_stays :
      (kept : Holding) (o : Operation) (v w : Scalar) → v ≡ w → Every (λ a. a ≢ e) (reads o) →
      IsShown given s places kept o w → IsShown given s after kept o v
  shown_stays kept (Input j) v w same h d = subst (λ x. IsShown given s after kept (Input j) x)
      (sym same) d
  shown_stays kept (Constant u) v w same h d = same ∙ d
  shown_stays kept (Copy a) v w same h d = same ∙ d ∙ sym (scalar_stays a h.0)
  shown_stays kept (ApplyUnary op a) v w same h d =
      same ∙ d ∙ sym (ap (one_scalar op) (scalar_stays a h.0))
  shown_stays kept (ApplyBinary op a b) v w same h d =
      same ∙ d ∙ sym (ap₂ (two_scalars op) (scalar_stays a h.0) (scalar_stays b h.1.0))
  shown_stays kept (Choose c a b) v w same h d =
      same ∙ d
      ∙ sym (ap
      (λ x. chosen x (scalar_at s (holding_of after a)) (scalar_at s (holding_of after b)))
      (scalar_stays c h.0)
      ∙ ap₂ (chosen (scalar_at s (holding_of places c))) (scalar_stays a h.1.0)
      (scalar_stays b h.1.1.0))
  shown_stays kept (FirstThen started a b) v w same h d =
      same ∙ d
      ∙ sym (ap₂ (cond (flag_at s kept)) (scalar_stays b h.1.0) (scalar_stays a h.0))
  shown_stays kept (Previous u a) v w same h d = same ∙ d
  shown_stays kept (Latest u a) v w same h d =
      same ∙ d
      ∙ sym (ap₂ (λ b x. cond b x (scalar_at s kept)) (present_stays a h.0) (scalar_stays a h.0))
  shown_stays kept (Sample a) v w same h d = same ∙ d ∙ sym (scalar_stays a h.0)

  -- an equation that neither gives nor reads the element shows its own element still
  pub stays_shown :
      (kept : List Holding) (q : FlatEquation) → q.element ≢ e →
      Every (λ a. a ≢ e) (reads q.operation) → Every (λ a. a ≢ e) (clock_reads q.clock) →
      IsShownBy given s places kept q → IsShownBy given s after kept q
  stays_shown kept q ne r c h = record {
    present =
        present_stays q.element ne ∙ h.present ∙ sym (now_stays q.clock c);
    scalar =
        shown_stays (kept_at kept q.element) q.operation
        (scalar_at s (holding_of after q.element)) (scalar_at s (holding_of places q.element))
        (scalar_stays q.element ne) r h.scalar;
  }

  -- the equation of the element shows it
  pub set_shown :
      (kept : List Holding) (q : FlatEquation) → q.element ≡ e → e < length places →
      Every (λ a. a ≢ e) (reads q.operation) → Every (λ a. a ≢ e) (clock_reads q.clock) →
      s.bits p.present.0 ≡ is_now (row_at s places) q.clock →
      IsShown given s places (kept_at kept q.element) q.operation (scalar_at s p.holding) →
      IsShownBy given s after kept q
  set_shown kept q is lt r c present scalar =
      let here : get_or after q.element no_place ≡ p =
      ap (λ i. get_or after i no_place) is ∙ get_or-set_same places e p no_place lt in
      record {
        present =
            ap (λ (x : Place). s.bits x.present.0) here ∙ present ∙ sym (now_stays q.clock c);
        scalar =
            shown_stays (kept_at kept q.element) q.operation
            (scalar_at s (holding_of after q.element)) (scalar_at s p.holding)
            (ap (λ (x : Place). scalar_at s x.holding) here) r scalar;
      }

-- an element that is not done differs from each element that is done
pub apart_from : (e : ℕ) (done is : List ℕ) → (In e done → ⊥) → Every (λ i. In i done) is →
    Every (λ i. i ≢ e) is
apart_from e done [] new h = tt
apart_from e done (i ∷ is) new h =
    (λ p. new (subst (λ k. In k done) p h.0), apart_from e done is new h.1)
