-- The state and the verdict of the flat program one instant later, from the row that a lane shows.
use Rattle.std.proofs.Common.{◌≡◌, ℕ, suc, ◌+◌, List, [], ◌∷◌, ◌++◌}
use Rattle.std.proofs.Common.{map}
use Rattle.std.proofs.Common.{length, refl, sym, ap, ◌∙◌, arith}
use Rattle.lb_check.specs.Scalars.{Scalar}
use Rattle.lb_check.specs.Solutions.{Inputs}
use Rattle.lb_check.specs.Verdicts.{or_later}
use Rattle.lb_check.specs.declared.verdict.Verdict.{Verdict}
use Rattle.lb_check.specs.declared.verdict.Verdict.TheVariants.{Passed, Fault, Undefined, Assertion}
use Rattle.lb_check.specs.declared.verdict.Verdict.TheVariants.{False}
use Rattle.lb_flat.specs.Flat.{FlatEquation}
use Rattle.lb_flat.specs.Judging.{FlatProgram, row_judged, rows_judged, flat_verdict}
use Rattle.lb_flat.specs.MemoryPlaces.{after_rows}
use Rattle.lb_flat.specs.Run.{Row, advanced, Ready, row_of, run}
use Rattle.lb_flat.proofs.runs.Judging.{length-run}
use Rattle.lb_sim.proofs.RunMemories.{run_appended}
use Rattle.lb_flat.proofs.runs.Running.{ready_advanced}
use Rattle.lb_machine.specs.Meaning.{Lane}
use Rattle.lb_sim.specs.States.{equation_in, IsStateAfter}
use Rattle.lb_sim.specs.declared.place.Holding.{Holding}

-- ## Rows after rows

-- equations in order are in order after rows
pub ready_after : (size : ℕ) (rows : List Row) (Q : List FlatEquation) → Ready size [] Q →
    Ready size [] (after_rows Q rows)
ready_after size [] Q ready = ready
ready_after size (row ∷ rows) Q ready =
    ready_after size rows (map (advanced row) Q) (ready_advanced size row [] Q ready)

-- the memories after one more row are those before it, moved on by the row
pub after_one : (rows : List Row) (row : Row) (Q : List FlatEquation) →
    after_rows Q (rows ++ row ∷ []) ≡ map (advanced row) (after_rows Q rows)
after_one [] row Q = refl
after_one (r ∷ rows) row Q = after_one rows row (map (advanced r) Q)

or_later_still : (u v w : Verdict) → or_later (or_later u v) w ≡ or_later u (or_later v w)
or_later_still Passed v w = refl
or_later_still (Fault t) v w = refl
or_later_still (Undefined t) v w = refl
or_later_still (Assertion t) v w = refl
or_later_still (False t) v w = refl

or_later_passed : (v : Verdict) → or_later v Passed ≡ v
or_later_passed Passed = refl
or_later_passed (Fault t) = refl
or_later_passed (Undefined t) = refl
or_later_passed (Assertion t) = refl
or_later_passed (False t) = refl

-- the verdict of one more row counts where the rows before it have passed
pub judged_one : (f : FlatProgram) (t n : ℕ) (rows : List Row) (row : Row) → t + length rows ≡ n →
    rows_judged f t (rows ++ row ∷ []) ≡ or_later (rows_judged f t rows) (row_judged f n row)
judged_one f t n [] row e =
    or_later_passed (row_judged f t row)
    ∙ ap (λ k. row_judged f k row) (omega (arith, e))
judged_one f t n (r ∷ rows) row e =
    ap (or_later (row_judged f t r)) (judged_one f (suc t) n rows row (omega (arith, e)))
    ∙ sym (or_later_still (row_judged f t r) (rows_judged f (suc t) rows) (row_judged f n row))

-- ## An instant

module _ (f : FlatProgram) (kept : List Holding) (s : Lane) (X : Inputs) (given : List Scalar)
    (row : Row) (state : IsStateAfter f kept s X)
    (is_row : row ≡ row_of f.size (map (equation_in s kept) f.equations) given) where
  abbrev rows : List Row
  rows = run f.size f.equations X

  -- the run of one more instant has one more row
  pub one_row : run f.size f.equations (X ++ given ∷ []) ≡ rows ++ row ∷ []
  one_row =
      run_appended f.size X (given ∷ []) f.equations
      ∙ ap (λ Q. rows ++ row_of f.size Q given ∷ []) state
      ∙ ap (λ r. rows ++ r ∷ []) (sym is_row)

  -- a lane whose memories the row moves on holds the state after the row
  pub state_moved :
      (s' : Lane) →
      map (equation_in s' kept) f.equations
      ≡ map (advanced row) (map (equation_in s kept) f.equations) →
      IsStateAfter f kept s' (X ++ given ∷ [])
  state_moved s' moved =
      ap (after_rows f.equations) one_row
      ∙ after_one rows row f.equations
      ∙ ap (map (advanced row)) state
      ∙ sym moved

  -- the verdict is the one before, or else the verdict of the row
  pub verdict_moved :
      flat_verdict f (X ++ given ∷ [])
      ≡ or_later (flat_verdict f X) (row_judged f (length X) row)
  verdict_moved =
      ap (rows_judged f 0) one_row
      ∙ judged_one f 0 (length X) rows row
      (omega (arith, length-run f.size f.equations X))
