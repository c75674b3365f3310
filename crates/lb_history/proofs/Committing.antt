-- The invariant of the loop that moves the memories of all equations.
use Rattle.std.proofs.Common.{◌≡◌, ◌<◌, ◌≤◌, ℕ, zero, suc, ◌+◌, List, [], ◌∷◌, length, map, set}
use Rattle.std.proofs.Common.{get_or, refl, sym, ap, ◌∙◌, arith, add-one}
use Rattle.std.proofs.lemmas.List.{length-map}
use Rattle.lb_flat.specs.declared.cell.Cell.{Cell}
use Rattle.lb_flat.specs.declared.equation.Clock.{Clock}
use Rattle.lb_flat.specs.declared.equation.Equation.{Equation}
use Rattle.lb_flat.specs.declared.equation.Operation.{Operation}
use Rattle.lb_flat.specs.Flat.{FlatEquation}
use Rattle.lb_flat.specs.Run.{Row, remembered, advanced}
use Rattle.lb_flat.specs.Values.{cell_of, clock_of, operation_of, equation_of}

module _ (row : Row) where
  -- the equations with the memories from a place on moved to the next instant
  abbrev pub moved_from : ℕ → List FlatEquation → List FlatEquation
  moved_from zero Q = map (advanced row) Q
  moved_from (suc i) [] = []
  moved_from (suc i) (q ∷ Q) = q ∷ moved_from i Q

  moved_step :
      {A : Type 0} (f : A → FlatEquation) (xs : List A) (i : ℕ) (d y : A) → i < length xs →
      f y ≡ advanced row (f (get_or xs i d)) →
      moved_from (suc i) (map f (set xs i y)) ≡ moved_from i (map f xs)
  moved_step f [] i d y lt e = absurd (omega arith)
  moved_step f (x ∷ xs) zero d y lt e = ap (λ q. q ∷ map (advanced row) (map f xs)) e
  moved_step f (x ∷ xs) (suc i) d y lt e =
      ap (λ Q. f x ∷ Q) (moved_step f xs i d y (omega arith) e)

  moved_past : (i : ℕ) (Q : List FlatEquation) → length Q ≤ i → moved_from i Q ≡ Q
  moved_past zero [] le = refl
  moved_past zero (q ∷ Q) le = absurd (omega arith)
  moved_past (suc i) [] le = refl
  moved_past (suc i) (q ∷ Q) le = ap (λ qs. q ∷ qs) (moved_past i Q (omega arith))

-- moving the memories from `i` on gives what moving those of all the `first` equations gives
pub record IsCommitting (clocks : List Clock) (row : List Cell) (equations first : List Equation)
    (i : ℕ) : Type 0 where
  pub rest :
      moved_from (map cell_of row) i (map (equation_of clocks) equations)
      ≡ map (advanced (map cell_of row)) (map (equation_of clocks) first)

module _ (clocks : List Clock) (row : List Cell) (equations first : List Equation) (i : ℕ) where
  pub commit_step :
      (d : Equation) (o : Operation) → i < length equations →
      operation_of o
      ≡ remembered (map cell_of row) (operation_of (get_or equations i d).operation) →
      IsCommitting clocks row equations first i →
      IsCommitting clocks row
      (set equations i (record (get_or equations i d) { operation = o })) first (i + 1)
  commit_step d o lt is_o h =
      let after : Equation = record (get_or equations i d) { operation = o } in
      record {
        rest =
            ap (λ n. moved_from (map cell_of row) n
            (map (equation_of clocks) (set equations i after))) (add-one i)
            ∙ moved_step (map cell_of row) (equation_of clocks) equations i d after lt
            (ap (λ x. let q : FlatEquation = record {
              element = (get_or equations i d).element.0;
              clock = clock_of clocks (get_or equations i d).clock;
              operation = x;
            } in q) is_o)
            ∙ h.rest;
      }

  pub all_committed :
      length equations ≤ i → IsCommitting clocks row equations first i →
      map (equation_of clocks) equations
      ≡ map (advanced (map cell_of row)) (map (equation_of clocks) first)
  all_committed le h =
      let Q = map (equation_of clocks) equations in
      sym (moved_past (map cell_of row) i Q
      (omega (arith, le, length-map equations (equation_of clocks)))) ∙ h.rest
