-- Verdicts that were written to the places of their traces.
use Rattle.std.proofs.Common.{◌≡◌, ℕ, zero, suc, ◌+◌, ◌<◌, ◌⊎◌, inl, inr, List, [], ◌∷◌, ◌++◌}
use Rattle.std.proofs.Common.{length, get_or, set, length-set, take, refl, sym, ap, ◌∙◌, subst}
use Rattle.std.proofs.Common.{arith}
use Rattle.std.specs.List.{Contains}
use Rattle.std.proofs.lemmas.Bool.{cases_eq}
use Rattle.std.proofs.lemmas.List.{get_or-set_same, get_or-set_other, take_more}
use Rattle.std.proofs.lemmas.List.Elements.{All-head, All-tail}
use Rattle.lb_check.specs.declared.verdict.Verdict.{Verdict}
use Rattle.lb_check.specs.declared.verdict.Verdict.TheVariants.{Passed}
use Rattle.lb_traces.specs.Traces.{Recording}
use Rattle.lb_flat.specs.declared.program.FlatProgram.{FlatProgram}
use Rattle.lb_pool.specs.declared.batch.Judged.{Judged}
use Rattle.lb_pool.specs.Correct.{IsVerdict, AreVerdicts}
use Rattle.lb_pool.specs.Runs.{IsJudgedTrace, AreJudged, numbers_of, placed}

pub length_placed :
    (verdicts : List Verdict) (js : List Judged) → length (placed verdicts js) ≡ length verdicts
length_placed verdicts [] = refl
length_placed verdicts (j ∷ js) =
    length_placed (set verdicts j.trace j.verdict) js ∙ length-set verdicts j.trace j.verdict

pub placed_append :
    (verdicts : List Verdict) (xs ys : List Judged) →
    placed verdicts (xs ++ ys) ≡ placed (placed verdicts xs) ys
placed_append verdicts [] ys = refl
placed_append verdicts (x ∷ xs) ys = placed_append (set verdicts x.trace x.verdict) xs ys

-- `placed` of i + 1 verdicts is `placed` of i, with one more written
pub placed_more :
    (verdicts : List Verdict) (js : List Judged) (i : ℕ) (d : Judged) → i < length js →
    set (placed verdicts (take i js)) (get_or js i d).trace (get_or js i d).verdict
    ≡ placed verdicts (take (i + 1) js)
placed_more verdicts js i d below =
    sym (ap (placed verdicts) (take_more js i d below)
    ∙ placed_append verdicts (take i js) (get_or js i d ∷ []))

module _ (p : FlatProgram) (r : Recording) where
  -- a right verdict stays right where another is written
  stays :
      (verdicts : List Verdict) (j : Judged) → j.trace < length verdicts → IsJudgedTrace p r j →
      (k : ℕ) → IsVerdict p r k (get_or verdicts k Passed) →
      (k ≡ j.trace) ⊎ (k ≡ j.trace → ⊥) →
      IsVerdict p r k (get_or (set verdicts j.trace j.verdict) k Passed)
  stays verdicts j inside judged k right (inl here) =
      subst (IsVerdict p r k)
      (sym (ap (λ i. get_or (set verdicts j.trace j.verdict) i Passed) here
      ∙ get_or-set_same verdicts j.trace j.verdict Passed inside))
      (subst (λ i. IsVerdict p r i j.verdict) (sym here) judged.is_verdict)
  stays verdicts j inside judged k right (inr other) =
      subst (IsVerdict p r k)
      (sym (get_or-set_other verdicts j.trace k j.verdict Passed other)) right

  kept :
      (verdicts : List Verdict) (js : List Judged) → length verdicts ≡ length r.traces →
      AreJudged p r js → (k : ℕ) → IsVerdict p r k (get_or verdicts k Passed) →
      IsVerdict p r k (get_or (placed verdicts js) k Passed)
  kept verdicts [] long all k right = right
  kept verdicts (j ∷ js) long all k right =
      let first = All-head (IsJudgedTrace p r) j js all in
      let inside : j.trace < length verdicts = omega (arith, long, first.is_trace) in
      kept (set verdicts j.trace j.verdict) js
      (length-set verdicts j.trace j.verdict ∙ long) (All-tail (IsJudgedTrace p r) j js all) k
      (stays verdicts j inside first k right (cases_eq k j.trace))

  -- each trace that has been judged has its verdict
  found :
      (verdicts : List Verdict) (js : List Judged) → length verdicts ≡ length r.traces →
      AreJudged p r js → (k : ℕ) → Contains (numbers_of js) k →
      IsVerdict p r k (get_or (placed verdicts js) k Passed)
  found verdicts [] long all k at = absurd (omega (arith, at.1))
  found verdicts (j ∷ js) long all k (zero, below, here) =
      let first = All-head (IsJudgedTrace p r) j js all in
      let inside : j.trace < length verdicts = omega (arith, long, first.is_trace) in
      let now = get_or-set_same verdicts j.trace j.verdict Passed inside in
      kept (set verdicts j.trace j.verdict) js
      (length-set verdicts j.trace j.verdict ∙ long) (All-tail (IsJudgedTrace p r) j js all) k
      (subst (λ i. IsVerdict p r i (get_or (set verdicts j.trace j.verdict) i Passed)) here
      (subst (IsVerdict p r j.trace) (sym now) first.is_verdict))
  found verdicts (j ∷ js) long all k (suc i, below, there) =
      found (set verdicts j.trace j.verdict) js
      (length-set verdicts j.trace j.verdict ∙ long) (All-tail (IsJudgedTrace p r) j js all) k
      (i, omega (arith, below), there)

  -- where each trace has been judged, all have their verdicts
  pub all_placed :
      (verdicts : List Verdict) (js : List Judged) → length verdicts ≡ length r.traces →
      AreJudged p r js → ((k : ℕ) → k < length r.traces → Contains (numbers_of js) k) →
      AreVerdicts p r (placed verdicts js)
  all_placed verdicts js long all each = record {
    count = length_placed verdicts js ∙ long;
    each = λ k below. found verdicts js long all k (each k below);
  }
