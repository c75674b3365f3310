-- Laws of `IsReplayed`: it holds before the first instant, and is kept by each one.
use Rattle.std.proofs.Common.{◌≡◌, ◌<◌, ◌≤◌, ℕ, zero, suc, ◌+◌, List, [], Some, None, length, map}
use Rattle.std.proofs.Common.{All, get_or, slice_get, replicate, true, false, refl, sym, ap, ◌∙◌}
use Rattle.std.proofs.Common.{arith, add-one, subst}
use Rattle.std.proofs.lemmas.List.{length-map, get_or-map, get_or_past}
use Rattle.lb_check.specs.Solutions.{Inputs}
use Rattle.lb_flat.specs.declared.cell.Cell.{Cell}
use Rattle.lb_flat.specs.declared.equation.Clock.{Clock}
use Rattle.lb_flat.specs.declared.equation.Equation.{Equation}
use Rattle.lb_flat.specs.declared.program.FlatProgram.{FlatProgram}
use Rattle.lb_flat.specs.Flat.{FlatEquation}
use Rattle.lb_flat.specs.InOrder.{is_in_order}
use Rattle.lb_flat.specs.Programs.{flat_equations, program_of}
use Rattle.lb_flat.specs.Run.{cell, advanced, filled, Ready}
use Rattle.lb_flat.specs.Values.{cell_of}
use Rattle.lb_flat.specs.Within.{IsWithin}
use Rattle.lb_flat.proofs.{ordering.Ordering.ready_of, runs.Running.filled_is}
use Rattle.lb_history.specs.Replaying.{equations_before, row_at}
use Rattle.lb_history.specs.Replays.{IsReplayed}
use Rattle.lb_history.proofs.Runs.{ready_before}

module _ (p : FlatProgram) (X : Inputs)
    (in_order : is_in_order (replicate p.size false)
    (flat_equations p.clocks.items p.equations.items) ≡ true) where
  abbrev all : List FlatEquation
  all = flat_equations p.clocks.items p.equations.items

  pub program_ready : Ready p.size [] all
  program_ready = ready_of p.size all in_order

  -- `IsReplayed` holds before the first instant
  pub replay_begun :
      (row : List Cell) → length row ≡ p.size → All (IsWithin p.size p.clocks.items)
      p.equations.items → IsReplayed p X 0 p.equations.items row
  replay_begun row long within = record {
    equations_are = refl;
    within = within;
    has_all_elements = long;
    row_is = λ s e. absurd (omega arith);
  }

  module _ (t : ℕ) (equations after : List Equation) (before row : List Cell)
      (h : IsReplayed p X t equations before)
      (computed : map cell_of row
      ≡ filled (get_or X t []) (map cell_of before) (flat_equations p.clocks.items equations)) where
    is_row : map cell_of row ≡ row_at (program_of p) X t
    is_row =
        computed ∙ ap (filled (get_or X t []) (map cell_of before)) h.equations_are
        ∙ filled_is (get_or X t []) p.size (equations_before p.size all X t) (map cell_of before)
        (ready_before p.size all X t program_ready)
        (length-map before cell_of ∙ h.has_all_elements)

    -- `IsReplayed` holds after one more instant
    pub replay_on :
        length row ≡ p.size → All (IsWithin p.size p.clocks.items) after →
        flat_equations p.clocks.items after
        ≡ map (advanced (map cell_of row)) (flat_equations p.clocks.items equations) →
        IsReplayed p X (t + 1) after row
    replay_on long within committed = record {
      equations_are =
          committed
          ∙ ap (λ r. map (advanced r) (flat_equations p.clocks.items equations)) is_row
          ∙ ap (map (advanced (row_at (program_of p) X t))) h.equations_are
          ∙ sym (ap (equations_before p.size all X) (add-one t));
      within = within;
      has_all_elements = long;
      row_is = λ s e.
          let same : t ≡ s = omega (arith, e) in is_row ∙ ap (row_at (program_of p) X) same;
    }

  -- `replay_on` where the code holds the equations, rows and clocks under other names
  pub replay_next :
      (t : ℕ) (equations lent written after : List Equation) (before began row read : List Cell)
      (clocks : List Clock) → IsReplayed p X t equations before → clocks ≡ p.clocks.items →
      lent ≡ equations → written ≡ equations → began ≡ before → read ≡ row →
      map cell_of row ≡ filled (get_or X t []) (map cell_of began) (flat_equations clocks lent) →
      length row ≡ length began → All (IsWithin (length read) clocks) after →
      flat_equations clocks after
      ≡ map (advanced (map cell_of read)) (flat_equations clocks written) →
      IsReplayed p X (t + 1) after row
  replay_next t equations lent written after before began row read clocks h k a b c d computed
      long within committed =
      let given = get_or X t [] in
      let as_long : length row ≡ p.size = long ∙ ap length c ∙ h.has_all_elements in
      replay_on t equations after before row h
      (computed ∙ ap (λ r. filled given (map cell_of r) (flat_equations clocks lent)) c
      ∙ ap (λ ks. filled given (map cell_of before) (flat_equations ks lent)) k
      ∙ ap (λ qs. filled given (map cell_of before) (flat_equations p.clocks.items qs)) a)
      as_long
      (subst (λ ks. All (IsWithin p.size ks) after) k
      (subst (λ n. All (IsWithin n clocks) after) (ap length d ∙ as_long) within))
      (sym (ap (λ ks. flat_equations ks after) k) ∙ committed
      ∙ ap (λ r. map (advanced (map cell_of r)) (flat_equations clocks written)) d
      ∙ ap (λ ks. map (advanced (map cell_of row)) (flat_equations ks written)) k
      ∙ ap (λ qs. map (advanced (map cell_of row)) (flat_equations p.clocks.items qs)) b)

  module _ (t n : ℕ) (equations : List Equation) (row : List Cell)
      (h : IsReplayed p X n equations row) (is : n ≡ suc t) where
    -- the cell of an element in the row
    pub cell_there :
        (i : ℕ) (d : Cell) → i < length row →
        cell_of (get_or row i d) ≡ cell (row_at (program_of p) X t) i
    cell_there i d lt =
        sym (get_or-map cell_of row i d None lt) ∙ ap (λ r. cell r i) (h.row_is t is)

    -- there is no cell where there is no such element
    pub cell_absent :
        (i : ℕ) → length row ≤ i → None ≡ cell (row_at (program_of p) X t) i
    cell_absent i le =
        sym (get_or_past (map cell_of row) i None (omega (arith, le, length-map row cell_of)))
        ∙ ap (λ r. cell r i) (h.row_is t is)
