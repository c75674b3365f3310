-- Known planes of clocks: one more known plane, and the number of clocks without one.
use Rattle.std.proofs.Common.{◌≡◌, ℕ, zero, suc, ◌<◌, Option, Some, None, List, [], ◌∷◌, ◌⊎◌}
use Rattle.std.proofs.Common.{length, get_or, set, replicate, refl, sym, ap, ◌∙◌, subst, arith}
use Rattle.std.proofs.Common.{⊎_elim, inl, inr}
use Rattle.std.proofs.lemmas.Bool.{cases_eq}
use Rattle.std.proofs.lemmas.List.{get_or-set_same, get_or-set_other}
use Rattle.std.proofs.lemmas.Option.{same_Some}
use Rattle.lb_flat.specs.Run.{is_now}
use Rattle.lb_flat.specs.Values.{clock_of}
use Rattle.lb_flat.specs.declared.equation.Clock.{Clock}
use Rattle.lb_flat.specs.declared.equation.ClockId.{ClockId}
use Rattle.lb_machine.specs.Correct.{IsGrown, IsPlaneFor}
use Rattle.lb_machine.specs.declared.code.Code.{Code}
use Rattle.lb_machine.specs.declared.instruction.PlaneId.{PlaneId}
use Rattle.lb_sim.specs.Climbs.{unknown_count}
use Rattle.lb_sim.specs.Emitted.{AreKnown}
use Rattle.lb_sim.specs.Showing.{row_at}
use Rattle.lb_sim.specs.declared.place.Place.{Place}

abbrev no_plane : Option PlaneId
no_plane = None

abbrev pub clock_id : ℕ → ClockId
clock_id n = record { 0 = n }

none_known : (n k : ℕ) → get_or (replicate n no_plane) k None ≡ None
none_known zero k = refl
none_known (suc n) zero = refl
none_known (suc n) (suc k) = none_known n k

never : (p : PlaneId) → no_plane ≡ Some p → ⊥
never p e = cc

-- at first no plane of a clock is known
pub none_at_first : (n k : ℕ) (p : PlaneId) → get_or (replicate n no_plane) k None ≡ Some p → ⊥
none_at_first n k p e = never p (sym (none_known n k) ∙ e)

-- one more plane of a clock is known
module _ (before after : Code) (places : List Place) (clocks : List Clock)
    (known : List (Option PlaneId)) (id : ClockId) (p : PlaneId) where
  abbrev holds : ClockId → PlaneId → Type 0
  holds k q = IsPlaneFor after (λ s. is_now (row_at s places) (clock_of clocks (Some k))) q

  pub known_more :
      IsGrown before after → AreKnown before places clocks known → id.0 < length known →
      holds id p →
      AreKnown after places clocks (set known id.0 (Some p))
      × ((k : ClockId) (q : PlaneId) → get_or (set known id.0 (Some p)) k.0 None ≡ Some q →
      (k.0 ≡ id.0) ⊎ (get_or known k.0 None ≡ Some q))
  known_more grown old lt own = (
    λ k q is.
        ⊎_elim
        (λ (same : k.0 ≡ id.0).
        let here = subst (λ i. get_or (set known id.0 (Some p)) i None ≡ Some q) same is in
        let one = same_Some p q (sym (get_or-set_same known id.0 (Some p) None lt) ∙ here) in
        subst (λ i. holds (clock_id i) q) (sym same) (subst (holds id) one own))
        (λ (other : k.0 ≡ id.0 → ⊥).
        let was = old k q (sym (get_or-set_other known id.0 k.0 (Some p) None other) ∙ is) in
        record {
          within = omega (arith, was.within, grown.planes);
          means = λ s r. was.means s (grown.runs s r);
        })
        (cases_eq k.0 id.0),
    λ k q is.
        ⊎_elim (λ (same : k.0 ≡ id.0). inl same)
        (λ (other : k.0 ≡ id.0 → ⊥).
        inr (sym (get_or-set_other known id.0 k.0 (Some p) None other) ∙ is))
        (cases_eq k.0 id.0),
  )

-- ## The number of clocks that are not known

-- a clock that becomes known leaves one clock fewer that is not
pub unknown_set : (known : List (Option PlaneId)) (i : ℕ) (p : PlaneId) → i < length known →
    get_or known i None ≡ None → suc (unknown_count (set known i (Some p))) ≡ unknown_count known
unknown_set [] i p lt none = absurd (omega (arith, lt))
unknown_set (None ∷ known) zero p lt none = refl
unknown_set (Some q ∷ known) zero p lt none = absurd (never q (sym none))
unknown_set (None ∷ known) (suc i) p lt none =
    ap suc (unknown_set known i p (omega (arith, lt)) none)
unknown_set (Some q ∷ known) (suc i) p lt none =
    unknown_set known i p (omega (arith, lt)) none

-- at first all clocks are not known
pub unknown_all : (n : ℕ) → unknown_count (replicate n no_plane) ≡ n
unknown_all zero = refl
unknown_all (suc n) = ap suc (unknown_all n)
