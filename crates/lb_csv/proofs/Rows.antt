-- The cells of some elements in a row, element by element.
use Rattle.std.proofs.Common.{◌≡◌, ◌<◌, ℕ, ◌+◌, List, [], ◌∷◌, ◌++◌, length, map, take, get_or}
use Rattle.std.proofs.Common.{refl, sym, ap, ap₂, ◌∙◌}
use Rattle.std.proofs.lemmas.List.{map-append, take_more}
use Rattle.lb_check.specs.Scalars.{Cell as Held}
use Rattle.lb_flat.specs.Run.{Row, cell}
use Rattle.lb_flat.specs.Values.{cell_of}
use Rattle.lb_flat.specs.declared.cell.Cell.{Cell}
use Rattle.lb_csv.specs.CsvTexts.{cells_in}
use Rattle.lb_csv.specs.Shown.{numbers_of}
use Rattle.lb_csv.specs.declared.column.Column.{Column}

module _ (row : Row) where
  -- the cell of an element that is shown
  abbrev shown : Column → Held
  shown c = cell row c.element.0

  by_columns : (cs : List Column) → cells_in row (numbers_of cs) ≡ map shown cs
  by_columns [] = refl
  by_columns (c ∷ cs) = ap (λ xs. shown c ∷ xs) (by_columns cs)

  -- the cells of i + 1 elements are those of i, and one more that was read
  pub read_more :
      (columns : List Column) (cells after : List Cell) (i : ℕ) (d item : Column) (x : Cell) →
      i < length columns → item ≡ get_or columns i d → cell_of x ≡ cell row item.element.0 →
      after ≡ cells ++ x ∷ [] →
      map cell_of cells ≡ cells_in row (numbers_of (take i columns)) →
      map cell_of after ≡ cells_in row (numbers_of (take (i + 1) columns))
  read_more columns cells after i d item x lt is holds e h =
      ap (map cell_of) e ∙ map-append cell_of cells (x ∷ [])
      ∙ ap₂ (λ ys y. ys ++ y ∷ []) (h ∙ by_columns (take i columns)) (holds ∙ ap shown is)
      ∙ sym (map-append shown (take i columns) (get_or columns i d ∷ []))
      ∙ sym (ap (map shown) (take_more columns i d lt))
      ∙ sym (by_columns (take (i + 1) columns))
