-- The verdict of a history, found by looking at one instant after another.
use Rattle.std.proofs.Common.{◌≡◌, ℕ, zero, suc, ◌+◌, ◌<◌, inl, inr, Bool, true, false, refl}
use Rattle.std.proofs.Common.{sym, subst, arith}
use Rattle.std.proofs.lemmas.Bool.{cases_order}
use Rattle.lb_static.specs.Instances.{Program}
use Rattle.lb_check.specs.Streams.{History}
use Rattle.lb_check.specs.Verdicts.{is_fault, is_undefined, is_failed, is_violated, decides, Ends}
use Rattle.lb_check.specs.Verdicts.{judged, or_later, verdict_from}

module _ (P : Program) (H : History) (count : ℕ) where
  -- no instant before `t` decides the verdict
  abbrev Quiet : ℕ → Type 0
  Quiet t = (s : ℕ) → s < t → decides P H s ≡ false

  quiet_on : (t : ℕ) → Quiet t → decides P H t ≡ false → Quiet (suc t)
  quiet_on t q e s lt = elim (cases_order s t) [
    | inl same ↦ subst (λ u. decides P H u ≡ false) (sym same) e
    | inr r ↦ elim r [ inl less ↦ q s less | inr more ↦ absurd (omega arith) ]
  ]

  -- if no instant before `t` decides, the verdict is that at `t`, or else the one found after `t`
  step :
      (t n : ℕ) (f u a v : Bool) → t < count → Quiet t →
      is_fault P H t ≡ f → is_undefined P H t ≡ u → is_failed P H t ≡ a →
      is_violated P H t ≡ v →
      (Quiet (suc t) → Ends P H count (verdict_from P H (suc t) n)) →
      Ends P H count (or_later (judged P H t) (verdict_from P H (suc t) n))
  step t n true u a v lt q p z r s later =
      rw p (record { within = lt; happens = rw p refl; not_before = q }, p)
  step t n false true a v lt q p z r s later =
      rw (p, z) (record { within = lt; happens = rw (p, z) refl; not_before = q }, p, z)
  step t n false false true v lt q p z r s later =
      rw (p, z, r) (record { within = lt; happens = rw (p, z, r) refl; not_before = q }, p, z, r)
  step t n false false false true lt q p z r s later =
      rw (p, z, r, s)
      (record { within = lt; happens = rw (p, z, r, s) refl; not_before = q }, p, z, r)
  step t n false false false false lt q p z r s later =
      rw (p, z, r, s) (later (quiet_on t q (rw (p, z, r, s) refl)))

  ends_from :
      (t n : ℕ) → t + n ≡ count → Quiet t → Ends P H count (verdict_from P H t n)
  ends_from t zero e q = λ s lt. q s (omega (arith, e))
  ends_from t (suc n) e q =
      let later = λ (r : Quiet (suc t)). ends_from (suc t) n (omega (arith, e)) r in
      step t n _ _ _ _ (omega (arith, e)) q refl refl refl refl later

  -- the verdict that `verdict_from` finds from instant 0 on is that of the history
  pub ends : Ends P H count (verdict_from P H 0 count)
  ends = ends_from 0 count (omega arith) (λ s lt. absurd (omega (arith, lt)))
