-- The memories of a flat program after rows, and after a run, from the cells of the elements that
-- they keep.
use Rattle.std.proofs.Common.{◌≡◌, ℕ, zero, suc, Bool, true, false, Some, None, List, [], ◌∷◌, ◌++◌}
use Rattle.std.proofs.Common.{map, length, get_or, replicate, refl, sym, ap, ap₂, ◌∙◌, arith}
use Rattle.std.specs.Prelude.{◌||◌, is_some}
use Rattle.std.specs.List.{list_any}
use Rattle.std.proofs.lemmas.List.{length-replicate}
use Rattle.std.proofs.Math.Bool.{or-false}
use Rattle.lb_syntax.specs.Lists.{zip2}
use Rattle.lb_check.specs.Scalars.{Cell, Stream}
use Rattle.lb_check.specs.Solutions.{Inputs}
use Rattle.lb_check.proofs.programs.SolutionStreams.{length-both as length-zips}
use Rattle.lb_flat.specs.Flat.{Operation, Input, Constant, Copy, ApplyUnary, ApplyBinary}
use Rattle.lb_flat.specs.Flat.{Choose, FirstThen, Previous, Latest, Sample, FlatEquation, column}
use Rattle.lb_flat.specs.MemoryPlaces.{after_rows, cells_in, remembers}
use Rattle.lb_flat.specs.Run.{Row, cell, started_by, remembered, advanced, row_of, run, streams_of}
use Rattle.lb_flat.proofs.{lists.Lists.map-maps, runs.Running.length-row_of}

-- ## After some rows

-- an equation with its memory after these rows
abbrev pub equation_after : List Row → FlatEquation → FlatEquation
equation_after rows q = record q { operation = remembers rows q.operation }

remembers_nothing : (o : Operation) → remembers [] o ≡ o
remembers_nothing (Input j) = refl
remembers_nothing (Constant v) = refl
remembers_nothing (Copy a) = refl
remembers_nothing (ApplyUnary op a) = refl
remembers_nothing (ApplyBinary op a b) = refl
remembers_nothing (Choose c a b) = refl
remembers_nothing (FirstThen started a b) = ap (λ s. FirstThen s a b) (or-false started)
remembers_nothing (Previous v a) = refl
remembers_nothing (Latest v a) = refl
remembers_nothing (Sample a) = refl

started_more : (started : Bool) (x : Cell) (later : Bool) →
    (started_by started x || later) ≡ (started || (is_some x || later))
started_more true x later = refl
started_more false None later = refl
started_more false (Some v) later = refl

remembers_more : (row : Row) (rows : List Row) (o : Operation) →
    remembers rows (remembered row o) ≡ remembers (row ∷ rows) o
remembers_more row rows (Input j) = refl
remembers_more row rows (Constant v) = refl
remembers_more row rows (Copy a) = refl
remembers_more row rows (ApplyUnary op a) = refl
remembers_more row rows (ApplyBinary op a b) = refl
remembers_more row rows (Choose c a b) = refl
remembers_more row rows (FirstThen started a b) =
    ap (λ s. FirstThen s a b)
    (started_more started (cell row a) (list_any is_some (cells_in rows a)))
remembers_more row rows (Previous v a) = refl
remembers_more row rows (Latest v a) = refl
remembers_more row rows (Sample a) = refl

each_same : {A B : Type 0} (f g : A → B) → ((a : A) → f a ≡ g a) → (xs : List A) →
    map f xs ≡ map g xs
each_same f g e [] = refl
each_same f g e (x ∷ xs) = ap₂ (λ y ys. y ∷ ys) (e x) (each_same f g e xs)

unchanged : {A : Type 0} (f : A → A) → ((a : A) → f a ≡ a) → (xs : List A) → map f xs ≡ xs
unchanged f e [] = refl
unchanged f e (x ∷ xs) = ap₂ (λ y ys. y ∷ ys) (e x) (unchanged f e xs)

-- each equation has its memory after the rows
pub after_is : (rows : List Row) (Q : List FlatEquation) →
    after_rows Q rows ≡ map (equation_after rows) Q
after_is [] Q =
    sym (unchanged (equation_after [])
    (λ q. ap (λ o. record { element = q.element; clock = q.clock; operation = o })
    (remembers_nothing q.operation)) Q)
after_is (row ∷ rows) Q =
    after_is rows (map (advanced row) Q)
    ∙ map-maps (equation_after rows) (advanced row) Q
    ∙ each_same (λ q. equation_after rows (advanced row q)) (equation_after (row ∷ rows))
    (λ q. ap (λ o. record { element = q.element; clock = q.clock; operation = o })
    (remembers_more row rows q.operation)) Q

-- ## The rows of a run

module _ (size : ℕ) where
  length-streams : (X : Inputs) (Q : List FlatEquation) →
      length (streams_of size (run size Q X)) ≡ size
  length-streams [] Q = length-replicate size []
  length-streams (given ∷ X) Q =
      let row = row_of size Q given in
      length-zips (λ x xs. x ∷ xs) size row (streams_of size (run size (map (advanced row) Q) X))
      (length-row_of given size Q) (length-streams X (map (advanced row) Q))

  none_there : (n j : ℕ) → get_or {A = Stream} (replicate n []) j [] ≡ []
  none_there zero j = refl
  none_there (suc n) zero = refl
  none_there (suc n) (suc j) = none_there n j

  first_and_later : (row : Row) (F : List Stream) (xs : Stream) (j : ℕ) → length row ≡ length F →
      get_or (zip2 (λ x xs. x ∷ xs) row F) j (None ∷ xs) ≡ cell row j ∷ get_or F j xs
  first_and_later [] [] xs j e = refl
  first_and_later [] (ys ∷ F) xs j e = absurd (omega arith)
  first_and_later (x ∷ row) [] xs j e = absurd (omega arith)
  first_and_later (x ∷ row) (ys ∷ F) xs zero e = refl
  first_and_later (x ∷ row) (ys ∷ F) xs (suc j) e = first_and_later row F xs j (omega arith)

  -- the stream of an element is the list of its cells in the rows
  pub run_cells : (X : Inputs) (Q : List FlatEquation) (j : ℕ) →
      column X (streams_of size (run size Q X)) j ≡ cells_in (run size Q X) j
  run_cells [] Q j = none_there size j
  run_cells (given ∷ X) Q j =
      let row = row_of size Q given in
      let later = map (advanced row) Q in
      first_and_later row (streams_of size (run size later X)) (replicate (length X) None) j
      (length-row_of given size Q ∙ sym (length-streams X later))
      ∙ ap (λ xs. cell row j ∷ xs) (run_cells X later j)

  -- a run of `X` and then `Z` is the run of `X`, and the run of `Z` from the memories after `X`
  pub run_appended : (X Z : Inputs) (Q : List FlatEquation) →
      run size Q (X ++ Z) ≡ run size Q X ++ run size (after_rows Q (run size Q X)) Z
  run_appended [] Z Q = refl
  run_appended (given ∷ X) Z Q =
      let row = row_of size Q given in
      ap (λ rows. row ∷ rows) (run_appended X Z (map (advanced row) Q))
