-- The reason why a trace does not pass: an element that decides its verdict, and what decides that
-- element.
-- Source: this project's rule.
use Rattle.std.specs.Prelude.{◌≡◌, ◌⊎◌, ℕ, Bool, Option, Some, None, List, [], ◌∷◌, ◌+◌, map}
use Rattle.std.specs.Prelude.{All, length}
use Rattle.lb_check.specs.Scalars.{Cell}
use Rattle.lb_check.specs.declared.verdict.Verdict.{Verdict}
use Rattle.lb_check.specs.declared.verdict.Verdict.TheVariants as verdict
use Rattle.lb_flat.specs.Flat.{FlatEquation}
use Rattle.lb_flat.specs.Inputs.{inputs_of}
use Rattle.lb_flat.specs.Judging.{FlatProgram, named_elements, row_judged, truth_elements}
use Rattle.lb_flat.specs.Run.{Row, cell}
use Rattle.lb_flat.specs.Standing.{HasKindsOf, StandsForProgram}
use Rattle.lb_traces.specs.Traces.{Recording}
use Rattle.lb_flat.specs.Values.{cell_of}
use Rattle.lb_history.specs.Histories.{IsHistoryCell}
use Rattle.lb_history.specs.Replaying.{equations_before, row_at}
use Rattle.lb_reason.specs.Deciding.{chain, first_of, is_bad, is_nil, is_false, is_present}
use Rattle.lb_reason.specs.Moments.{equations_now, row_now}
use Rattle.lb_reason.specs.declared.moment.Moment.{Moment}
use Rattle.lb_reason.specs.declared.finding.Step.{Step}

-- ## The first element of a reason

-- the elements at which a verdict is decided: for a fault all named ones, for an undefined trace
-- those at which a truth is wanted, else the assertions or the property
abbrev pub places_of : FlatProgram → Verdict → List ℕ
places_of f verdict.Passed = []
places_of f (verdict.Fault t) = named_elements f
places_of f (verdict.Undefined t) = truth_elements f
places_of f (verdict.Assertion t) = f.asserted
places_of f (verdict.False t) = f.property ∷ []

-- the test that a deciding element passes: it is a fault, nil, or false
abbrev pub test_of : Verdict → Cell → Bool
test_of verdict.Passed = is_present
test_of (verdict.Fault t) = is_bad
test_of (verdict.Undefined t) = is_nil
test_of (verdict.Assertion t) = is_false
test_of (verdict.False t) = is_false

-- the first element that decides a verdict
abbrev pub first_place : FlatProgram → Row → Verdict → Option ℕ
first_place f row v = first_of (test_of v) row (places_of f v)

-- the instant that decides a verdict, if one does
abbrev pub instant_of : Verdict → Option ℕ
instant_of verdict.Passed = None
instant_of (verdict.Fault t) = Some t
instant_of (verdict.Undefined t) = Some t
instant_of (verdict.Assertion t) = Some t
instant_of (verdict.False t) = Some t

-- ## Steps

-- the elements of some steps, and their cells
abbrev pub elements_in : List Step → List ℕ
elements_in steps = map (λ s. s.element.0) steps

abbrev pub cells_in : List Step → List Cell
cells_in steps = map (λ s. cell_of s.cell) steps

-- steps from the element `first` on: each element decides the one before it, by equations with
-- their memories and the cells of a row, until none does; and the cell of each step is that of its
-- element in the row
pub record AreFrom (Q : List FlatEquation) (row : Row) (first : ℕ) (steps : List Step) : Type 0
  where
    pub elements : elements_in steps ≡ chain (length Q + 1) Q row (Some first)
    pub cells : cells_in steps ≡ map (cell row) (elements_in steps)

-- steps from the element `first` on at an instant
abbrev pub AreStepsNow : Moment → (first : ℕ) → List Step → Type 0
AreStepsNow m first steps = AreFrom (equations_now m) (row_now m) first steps

-- the steps of a verdict: they begin at the first element that decides it at its instant, with the
-- memories that the earlier instants left. Nothing comes before the verdict there: the row of the
-- instant gives this verdict. And each step of a variable has the cell of the history
pub record AreSteps
    (f : FlatProgram) (r : Recording) (k : ℕ) (v : Verdict) (steps : List Step) : Type 0 where
  pub instant : ℕ
  pub is_instant : instant_of v ≡ Some instant
  pub first : ℕ
  pub decides : first_place f (row_at f (inputs_of r k) instant) v ≡ Some first
  pub from :
      AreFrom (equations_before f.size f.equations (inputs_of r k) instant)
      (row_at f (inputs_of r k) instant) first steps
  pub judged :
      StandsForProgram f → HasKindsOf f r →
      row_judged f instant (row_at f (inputs_of r k) instant) ≡ v
  pub histories : All (λ s. IsHistoryCell f r k instant s.element.0 (cell_of s.cell)) steps

-- the steps of a reason: if there are any, they are those of the verdict; and there are some,
-- unless the trace passed
pub record AreReasons
    (f : FlatProgram) (r : Recording) (k : ℕ) (v : Verdict) (steps : List Step) : Type 0 where
  pub are : (steps ≡ []) ⊎ AreSteps f r k v steps
  pub has_some : StandsForProgram f → HasKindsOf f r → steps ≡ [] → v ≡ verdict.Passed
