-- The rows of a recorded trace are a trace of a program with its signature.
use Rattle.lb_flat.proofs.Words.{slice_get-get_or, slice_get_past, and_from, Kind, Int, Every, zip2}
use Rattle.lb_flat.proofs.Words.{is_int, Program, signature, Elements, kinds_of, is_given, is_row}
use Rattle.lb_flat.proofs.Words.{length-both, scalar_in, scalars_in, inputs_of, IsTrace, ◌≡◌, ℕ}
use Rattle.lb_flat.proofs.Words.{◌<◌, ◌≤◌, true, ℤ, pos, List, [], ◌∷◌, map, length, get_or}
use Rattle.lb_flat.proofs.Words.{slice_get, Some, None, refl, sym, ap, subst, ◌∙◌, arith, Recording}
use Rattle.lb_flat.proofs.Words.{trace_at, IsCell, IsRecording}
use Rattle.std.{specs.List.All, proofs.lemmas.{Int.ints, List.Elements.{All-head, All-tail}}}
use Rattle.{std.proofs.lemmas.Simd.get_or-zip2, lb_syntax.specs.declared.tree.Kind.TheVariants.Bool}
use Rattle.lb_traces.specs.Traces.{Row, IsInt, IsRow}
use Rattle.lb_check.specs.Scalars as scalars

-- ## The scalars of a row, one after the other

module _ (kinds : List Kind) (row : List ℤ) (i : ℕ) (same : length row ≡ length kinds) where
  abbrev wanted : List scalars.Scalar
  wanted = zip2 scalar_in kinds row

  long : length wanted ≡ length kinds
  long = length-both scalar_in (length kinds) kinds row refl same

  pub scalar_there :
      i < length kinds →
      slice_get wanted i ≡ Some (scalar_in (get_or kinds i Int) (get_or row i (pos 0)))
  scalar_there lt =
      slice_get-get_or wanted i scalars.Bad (omega (arith, long))
      ∙ ap Some (get_or-zip2 scalar_in kinds row i Int (pos 0) scalars.Bad lt (omega (arith, same)))

  pub no_scalar : length kinds ≤ i → None ≡ slice_get wanted i
  no_scalar le = sym (slice_get_past wanted i (omega (arith, long)))

-- ## Each row is one of the program's kinds

in_range : (v : ℤ) → IsInt v → is_int v ≡ true
in_range v h = grind (arith, ints)

is_given_in : (kind : Kind) (v : ℤ) → IsCell kind v → is_given kind (scalar_in kind v) ≡ true
is_given_in Int v h = in_range v h
is_given_in Bool v h = refl

row_given :
    (elements : Elements) (row : Row) → IsRow elements row →
    is_row (kinds_of elements) (scalars_in elements row) ≡ true
row_given [] [] h = refl
row_given [] (v ∷ row) h = absurd h
row_given (e ∷ elements) [] h = absurd h
row_given (e ∷ elements) (v ∷ row) h =
    and_from _ _ (is_given_in e.1 v h.0) (row_given elements row h.1)

pub rows_given :
    (elements : Elements) (rows : List Row) → All (IsRow elements) rows →
    Every (λ row. is_row (kinds_of elements) row ≡ true) (map (scalars_in elements) rows)
rows_given elements [] h = tt
rows_given elements (row ∷ rows) h = (
  row_given elements row (All-head (IsRow elements) row rows h),
  rows_given elements rows (All-tail (IsRow elements) row rows h),
)

-- ## The rows of a recorded trace

module _ (P : Program) (r : Recording) (k : ℕ) (same : signature P ≡ r.signature)
    (lawful : IsRecording r) (below : k < length r.traces) where
  pub trace_given : IsTrace P (inputs_of r k)
  trace_given =
      subst (λ (elements : Elements).
      Every (λ row. is_row (kinds_of elements) row ≡ true) (inputs_of r k)) (sym same)
      (rows_given r.signature (trace_at r.traces k).1 (lawful.each k ([], []) below).rows)
