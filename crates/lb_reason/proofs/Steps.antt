-- The steps of a reason, one after another, and at their instant.
use Rattle.std.proofs.Common.{◌≡◌, ◌∙◌, ◌<◌, ◌≤◌, ◌+◌, ℕ, List, [], ◌∷◌, ◌++◌, Some, None, All}
use Rattle.std.proofs.Common.{add-one, ap, ap₂, arith, get_or, inl, inr, length, map, subst, sym}
use Rattle.std.proofs.Common.{take}
use Rattle.std.proofs.lemmas.List.{get_or-map, length-map, map-append, take_more}
use Rattle.lb_check.specs.Scalars.{Cell as Held}
use Rattle.lb_check.specs.Solutions.{Inputs}
use Rattle.lb_check.specs.declared.verdict.Verdict.{Verdict}
use Rattle.lb_check.specs.declared.verdict.Verdict.TheVariants as verdict
use Rattle.lb_flat.specs.Correct.{IsVerdictOf}
use Rattle.lb_flat.specs.Flat.{FlatEquation}
use Rattle.lb_flat.specs.Inputs.{inputs_of, scalars_in}
use Rattle.lb_flat.specs.Judging.{FlatProgram, row_judged}
use Rattle.lb_flat.specs.Programs.{numbers_of}
use Rattle.lb_flat.specs.Run.{Ready, Row, cell}
use Rattle.lb_flat.specs.Standing.{HasKindsOf, StandsForProgram}
use Rattle.lb_traces.specs.Traces.{Recording, trace_at}
use Rattle.lb_flat.specs.declared.equation.ElementId.{ElementId}
use Rattle.lb_flat.specs.Values.{cell_of}
use Rattle.lb_history.specs.Histories.{IsHistoryCell}
use Rattle.lb_history.specs.Replaying.{equations_before, row_at}
use Rattle.lb_flat.specs.declared.cell.Cell.{Cell}
use Rattle.lb_history.proofs.Runs.{row_shows}
use Rattle.lb_reason.specs.Deciding.{chain, next_element}
use Rattle.lb_reason.specs.Moments.{inputs_now, program_now, row_now}
use Rattle.lb_reason.specs.Reasons.{AreFrom, AreReasons, AreStepsNow, cells_in}
use Rattle.lb_reason.specs.Reasons.{elements_in, first_place, instant_of}
use Rattle.lb_reason.specs.declared.moment.Moment.{Moment}
use Rattle.lb_reason.specs.declared.finding.Step.{Step}
use Rattle.lb_reason.proofs.Judged.{has_place, judged_at}

abbrev element : Step → ℕ
element s = s.element.0

abbrev held : Step → Held
held s = cell_of s.cell

-- ## One after another

-- `elements_in` and `cells_in` of one more step
pub one_step :
    (row : Row) (elements : List ElementId) (steps after : List Step) (i : ℕ) (d : ElementId)
    (s : Step) (x : Cell) → i < length elements → s.element ≡ get_or elements i d → s.cell ≡ x →
    cell_of x ≡ cell row s.element.0 → after ≡ steps ++ s ∷ [] →
    elements_in steps ≡ numbers_of (take i elements) →
    cells_in steps ≡ map (cell row) (elements_in steps) →
    (elements_in after ≡ numbers_of (take (i + 1) elements))
    × (cells_in after ≡ map (cell row) (elements_in after))
one_step row elements steps after i d s x lt is has holds grown es cs =
    let number : ElementId → ℕ = λ e. e.0 in
    let more : elements_in after ≡ elements_in steps ++ s.element.0 ∷ [] =
    ap elements_in grown ∙ map-append element steps (s ∷ []) in (
      more
          ∙ ap₂ (λ xs e. xs ++ number e ∷ []) es is
          ∙ sym (map-append number (take i elements) (get_or elements i d ∷ []))
          ∙ sym (ap numbers_of (take_more elements i d lt)),
      ap cells_in grown
          ∙ map-append held steps (s ∷ [])
          ∙ ap₂ (λ xs y. xs ++ y ∷ []) cs (ap cell_of has ∙ holds)
          ∙ sym (map-append (cell row) (elements_in steps) (s.element.0 ∷ []))
          ∙ sym (ap (map (cell row)) more),
    )

-- ## At their instant

-- the cell of a step of a variable is that of the history
shown :
    (f : FlatProgram) (r : Recording) (k t : ℕ) (steps : List Step) →
    Ready f.size [] f.equations → t < length (inputs_of r k) →
    cells_in steps ≡ map (cell (row_at f (inputs_of r k) t)) (elements_in steps) →
    All (λ s. IsHistoryCell f r k t s.element.0 (cell_of s.cell)) steps
shown f r k t steps ready lt cells i d within = λ P flat same H solves e at.
    let row = row_at f (inputs_of r k) t in
    let s = get_or steps i d in
    let long : i < length (elements_in steps) = omega (arith, within, length-map steps element) in
    let holds : held s ≡ cell row (element s) =
    sym (get_or-map held steps i d None within)
    ∙ ap (λ xs. get_or xs i None) cells
    ∙ get_or-map (cell row) (elements_in steps) i 0 None long
    ∙ ap (cell row) (get_or-map element steps i d 0 within) in
    holds ∙ row_shows P f flat ready (inputs_of r k) H solves t (element s) e lt at

-- a trace has as many inputs as instants
inputs_length :
    (r : Recording) (k : ℕ) → length (inputs_of r k) ≡ length (trace_at r.traces k).1
inputs_length r k = length-map (trace_at r.traces k).1 (scalars_in r.signature)

module _ (f : FlatProgram) (r : Recording) (k : ℕ) (v : Verdict) (right : IsVerdictOf f r k v) where
  -- the row of the instant of a verdict gives the verdict
  judged :
      (t : ℕ) → instant_of v ≡ Some t → StandsForProgram f → HasKindsOf f r →
      (t < length (inputs_of r k)) × (row_judged f t (row_at f (inputs_of r k) t) ≡ v)
  judged t is stands kinds = judged_at f (inputs_of r k) v t is (right.is_right stands kinds)

  -- steps at the instant of a verdict are the steps of the verdict
  pub steps_are :
      (t : ℕ) (m : Moment) (first : ℕ) (steps : List Step) → Ready f.size [] f.equations →
      t < length (trace_at r.traces k).1 → program_now m ≡ f → inputs_now m ≡ inputs_of r k →
      m.instant ≡ t → instant_of v ≡ Some t →
      first_place (program_now m) (row_now m) v ≡ Some first → AreStepsNow m first steps →
      AreReasons f r k v steps
  steps_are t m first steps ready lt p q i is decides from =
      let Is : FlatProgram → Inputs → ℕ → Type 0 = λ g X s.
      (first_place g (row_at g X s) v ≡ Some first)
      × AreFrom (equations_before g.size g.equations X s) (row_at g X s) first steps in
      let here : Is (program_now m) (inputs_now m) m.instant = (
        decides,
        subst (λ (Q : List FlatEquation). AreFrom Q (row_now m) first steps) m.before from,
      ) in
      let there : Is f (inputs_of r k) t =
      subst (Is f (inputs_of r k)) i
      (subst (λ (X : Inputs). Is f X m.instant) q
      (subst (λ (g : FlatProgram). Is g (inputs_now m) m.instant) p here)) in
      record {
        are = inr (record {
          instant = t;
          is_instant = is;
          first = first;
          decides = there.0;
          from = there.1;
          judged = λ stands kinds. (judged t is stands kinds).1;
          histories =
              shown f r k t steps ready (omega (arith, lt, inputs_length r k)) there.1.cells;
        });
        has_some = λ stands kinds none.
            let Q = equations_before f.size f.equations (inputs_of r k) t in
            let row = row_at f (inputs_of r k) t in
            let begun : [] ≡ first ∷ chain (length Q) Q row (next_element Q row first) =
            sym (ap elements_in none) ∙ there.1.elements
            ∙ ap (λ n. chain n Q row (Some first)) (add-one (length Q)) in
            absurd (cc);
      }

  -- a reason without steps, where the trace passed
  none_are : (steps : List Step) → steps ≡ [] →
      (StandsForProgram f → HasKindsOf f r → v ≡ verdict.Passed) → AreReasons f r k v steps
  none_are steps none passed = record {
    are = inl none;
    has_some = λ stands kinds same. passed stands kinds;
  }

  -- a reason without steps, where the instant lies behind the trace
  pub none_past :
      (steps : List Step) (t : ℕ) → steps ≡ [] → instant_of v ≡ Some t →
      length (trace_at r.traces k).1 ≤ t → AreReasons f r k v steps
  none_past steps t none is le = none_are steps none (λ stands kinds.
      let lt = (judged t is stands kinds).0 in
      absurd (omega (arith, lt, le, inputs_length r k)))

  -- a reason without steps, where no element decides the verdict
  pub none_first :
      (steps : List Step) (t : ℕ) (m : Moment) → steps ≡ [] → program_now m ≡ f →
      inputs_now m ≡ inputs_of r k → m.instant ≡ t → instant_of v ≡ Some t →
      first_place (program_now m) (row_now m) v ≡ None → AreReasons f r k v steps
  none_first steps t m none p q i is nowhere = none_are steps none (λ stands kinds.
      let Is : FlatProgram → Inputs → ℕ → Type 0 = λ g X s.
      first_place g (row_at g X s) v ≡ None in
      let there : Is f (inputs_of r k) t =
      subst (Is f (inputs_of r k)) i
      (subst (λ (X : Inputs). Is f X m.instant) q
      (subst (λ (g : FlatProgram). Is g (inputs_now m) m.instant) p nowhere)) in
      absurd
      (has_place f t (row_at f (inputs_of r k) t) v t is (judged t is stands kinds).1 there))
