-- The row of the instant that decides a verdict.
use Rattle.std.proofs.Common.{◌≡◌, ◌∙◌, ◌<◌, ℕ, suc, ◌+◌, List, [], ◌∷◌, Bool, true, false}
use Rattle.std.proofs.Common.{Some, None, ap, arith, get_or, length, refl, subst, sym}
use Rattle.std.proofs.Common.{is_some}
use Rattle.std.specs.Prelude.{if◌then◌else◌}
use Rattle.lb_check.specs.Solutions.{Inputs}
use Rattle.lb_check.specs.Verdicts as verdicts
use Rattle.lb_check.specs.Verdicts.{or_later}
use Rattle.lb_check.specs.declared.verdict.Verdict.{Verdict}
use Rattle.lb_check.specs.declared.verdict.Verdict.TheVariants.{Passed, Fault, Undefined, Assertion}
use Rattle.lb_check.specs.declared.verdict.Verdict.TheVariants.{False}
use Rattle.lb_flat.specs.Judging.{FlatProgram, flat_verdict, named_elements, row_judged}
use Rattle.lb_flat.specs.Judging.{rows_judged, some_in, truth_elements}
use Rattle.lb_flat.specs.Run.{Row, run}
use Rattle.lb_flat.proofs.runs.Judging.{length-run}
use Rattle.lb_history.specs.Replaying.{row_at}
use Rattle.lb_history.proofs.Runs.{run_row}
use Rattle.lb_reason.specs.Deciding.{is_bad, is_false, is_nil}
use Rattle.lb_reason.specs.Reasons.{first_place, instant_of}
use Rattle.lb_reason.proofs.Firsts.{some_first}

-- ## The tests of a row

-- the verdict of a row at instant s, by its tests: a for a fault, b for nil, c for a false
-- assertion, d for a false property
abbrev found : (a b c d : Bool) → (s : ℕ) → Verdict
found a b c d s =
    if a then Fault s else if b then Undefined s else if c then Assertion s else
    if d then False s else Passed

-- the verdict of a row at instant s has the instant s
found_at :
    (a b c d : Bool) (s u : ℕ) → instant_of (found a b c d s) ≡ Some u → s ≡ u
found_at true b c d s u is = cc
found_at false true c d s u is = cc
found_at false false true d s u is = cc
found_at false false false true s u is = cc
found_at false false false false s u is = absurd (cc)

-- the test that belongs to a verdict
abbrev meant : Verdict → (a b c d : Bool) → Bool
meant Passed a b c d = false
meant (Fault t) a b c d = a
meant (Undefined t) a b c d = b
meant (Assertion t) a b c d = c
meant (False t) a b c d = d

found_is :
    (a b c d : Bool) (s u : ℕ) → instant_of (found a b c d s) ≡ Some u →
    meant (found a b c d s) a b c d ≡ true
found_is true b c d s u is = refl
found_is false true c d s u is = refl
found_is false false true d s u is = refl
found_is false false false true s u is = refl
found_is false false false false s u is = absurd (cc)

-- ## The instant of a verdict

-- instant t belongs to `rows`, which begin at instant s, and its row gives the verdict v
record IsJudgedAt (f : FlatProgram) (s : ℕ) (rows : List Row) (v : Verdict) (t : ℕ) : Type 0 where
  place : ℕ
  is : t ≡ s + place
  within : place < length rows
  gives : row_judged f t (get_or rows place []) ≡ v

module _ (f : FlatProgram) (s : ℕ) (row : Row) (rows : List Row) (v : Verdict) (t : ℕ)
    (is : instant_of v ≡ Some t) where
  judged_here : row_judged f s row ≡ v → IsJudgedAt f s (row ∷ rows) v t
  judged_here gives =
      let at : s ≡ t = found_at _ _ _ _ s t (ap instant_of gives ∙ is) in
      record {
        place = 0;
        is = omega (arith, at);
        within = omega arith;
        gives = subst (λ (u : ℕ). row_judged f u row ≡ v) at gives;
      }

  judged_later : IsJudgedAt f (suc s) rows v t → IsJudgedAt f s (row ∷ rows) v t
  judged_later h = record {
    place = suc h.place;
    is = omega (arith, h.is);
    within = omega (arith, h.within);
    gives = h.gives;
  }

  judged_more :
      (w : Verdict) → row_judged f s row ≡ w → v ≡ or_later w (rows_judged f (suc s) rows) →
      (v ≡ rows_judged f (suc s) rows → IsJudgedAt f (suc s) rows v t) →
      IsJudgedAt f s (row ∷ rows) v t
  judged_more Passed gives same later = judged_later (later same)
  judged_more (Fault u) gives same later = judged_here (gives ∙ sym same)
  judged_more (Undefined u) gives same later = judged_here (gives ∙ sym same)
  judged_more (Assertion u) gives same later = judged_here (gives ∙ sym same)
  judged_more (False u) gives same later = judged_here (gives ∙ sym same)

judged_in :
    (f : FlatProgram) (s : ℕ) (rows : List Row) (v : Verdict) (t : ℕ) → instant_of v ≡ Some t →
    v ≡ rows_judged f s rows → IsJudgedAt f s rows v t
judged_in f s [] v t is same =
    let none : instant_of v ≡ None = ap instant_of same in absurd (cc)
judged_in f s (row ∷ rows) v t is same =
    judged_more f s row rows v t is (row_judged f s row) refl same
    (judged_in f (suc s) rows v t is)

-- the instant of a verdict belongs to the trace, and its row gives the verdict
pub judged_at :
    (f : FlatProgram) (X : Inputs) (v : Verdict) (t : ℕ) → instant_of v ≡ Some t →
    v ≡ flat_verdict f X → (t < length X) × (row_judged f t (row_at f X t) ≡ v)
judged_at f X v t is same =
    let rows = run f.size f.equations X in
    let h = judged_in f 0 rows v t is same in
    let at : h.place ≡ t = omega (arith, h.is) in
    let lt : t < length X = omega (arith, h.within, at, length-run f.size f.equations X) in
    let row : get_or rows h.place [] ≡ row_at f X t =
    ap (λ i. get_or rows i []) at ∙ run_row f.size f.equations X t lt in
    (lt, subst (λ (r : Row). row_judged f t r ≡ v) row h.gives)

-- ## The first element of a verdict

-- the test of a verdict fails where no element decides it
no_place :
    (f : FlatProgram) (row : Row) (v : Verdict) → first_place f row v ≡ None →
    meant v (some_in verdicts.is_bad row (named_elements f))
    (some_in verdicts.is_nil row (truth_elements f)) (some_in verdicts.is_false row f.asserted)
    (some_in verdicts.is_false row (f.property ∷ [])) ≡ false
no_place f row Passed none = refl
no_place f row (Fault t) none =
    some_first is_bad row (named_elements f) ∙ ap is_some none
no_place f row (Undefined t) none =
    some_first is_nil row (truth_elements f) ∙ ap is_some none
no_place f row (Assertion t) none = some_first is_false row f.asserted ∙ ap is_some none
no_place f row (False t) none = some_first is_false row (f.property ∷ []) ∙ ap is_some none

-- where a row gives a verdict, an element decides it
pub has_place :
    (f : FlatProgram) (t : ℕ) (row : Row) (v : Verdict) (u : ℕ) → instant_of v ≡ Some u →
    row_judged f t row ≡ v → first_place f row v ≡ None → ⊥
has_place f t row v u is gives none =
    let a = some_in verdicts.is_bad row (named_elements f) in
    let b = some_in verdicts.is_nil row (truth_elements f) in
    let c = some_in verdicts.is_false row f.asserted in
    let d = some_in verdicts.is_false row (f.property ∷ []) in
    let found_true : meant v a b c d ≡ true =
    subst (λ (w : Verdict). meant w a b c d ≡ true) gives
    (found_is a b c d t u (ap instant_of gives ∙ is)) in
    let found_false : meant v a b c d ≡ false = no_place f row v none in
    cc
