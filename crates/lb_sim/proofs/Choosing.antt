-- Planes that equal one plane in some lanes.
use Rattle.std.proofs.Common.{◌≡◌, ◌<◌, ◌≤◌, ◌+◌, ℕ, Bool, true, false, ◌&&◌, ◌||◌, List, get_or}
use Rattle.std.proofs.Common.{length, All, refl, sym, ap, ◌∙◌, subst, arith, below_more}
use Rattle.std.proofs.lemmas.Bool.{true≢false}
use Rattle.std.proofs.lemmas.List.{get_or_default}
use Rattle.std.specs.Prelude.{slice_index}
use Rattle.lb_lanes.specs.Planes.{IsPlaneOf, differ, on}
use Rattle.lb_lanes.proofs.OnPlanes.{on-zero}
use Rattle.lb_machine.specs.declared.instruction.PlaneId.{PlaneId}

same_bits : (a b : Bool) → differ a b ≡ false → a ≡ b
same_bits true true e = refl
same_bits true false e = absurd (true≢false e)
same_bits false true e = absurd (true≢false e)
same_bits false false e = refl

neither : (a b : Bool) → (a || b) ≡ false → (a ≡ false) × (b ≡ false)
neither true b e = absurd (true≢false e)
neither false b e = (refl, e)

-- the first `n` of some planes equal the plane `one`, outside the lanes of `other`
pub record AreAs (planes : List ℕ) (each : List PlaneId) (one other n : ℕ) : Type 0 where
  pub as_one :
      (k i : ℕ) (d : PlaneId) → k < n → i < 64 → on other i ≡ false →
      on (slice_index planes (get_or each k d).0) i ≡ on one i

module _ (planes : List ℕ) (each : List PlaneId) (one : ℕ) where
  pub none_as : AreAs planes each one 0 0
  none_as = record { as_one = λ k i d lt. absurd (omega (arith, lt)) }

  -- one more of the planes is compared
  pub as_more :
      (other other' x n : ℕ) (d : PlaneId) → AreAs planes each one other n → n < length each →
      IsPlaneOf (λ i. differ (on (slice_index planes (get_or each n d).0) i) (on one i)) x →
      IsPlaneOf (λ i. on other i || on x i) other' → AreAs planes each one other' (n + 1)
  as_more other other' x n d h lt is_x is_other = record {
    as_one = λ k i e l m off.
        let both = neither (on other i) (on x i) (sym (is_other i m) ∙ off) in
        below_more (λ j. on (slice_index planes (get_or each j e).0) i ≡ on one i) n
        (λ j b. h.as_one j i e b m both.0)
        (subst (λ (q : PlaneId). on (slice_index planes q.0) i ≡ on one i)
        (get_or_default each n d e lt) (same_bits _ (on one i) (sym (is_x i m) ∙ both.1)))
        k l;
  }

  -- all planes equal `one` in `lanes`, if `other` has none of these lanes
  pub all_as :
      (other lanes w n : ℕ) → AreAs planes each one other n → length each ≤ n →
      IsPlaneOf (λ i. on other i && on lanes i) w → w ≡ 0 → (i : ℕ) → i < 64 →
      on lanes i ≡ true → All (λ (p : PlaneId). on (slice_index planes p.0) i ≡ on one i) each
  all_as other lanes w n h le is_w none i l there = λ k d lt.
      h.as_one k i d (omega (arith, lt, le)) l
      (sym (and_true (on other i))
      ∙ sym (ap (λ t. on other i && t) there)
      ∙ sym (is_w i l)
      ∙ ap (λ v. on v i) none
      ∙ on-zero i)
    where
      and_true : (a : Bool) → (a && true) ≡ a
      and_true true = refl
      and_true false = refl
