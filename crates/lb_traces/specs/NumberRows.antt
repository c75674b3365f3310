-- The integers of a row, in 16 or in 32 bits each.
-- Source: this project's rule.
use Rattle.std.specs.Prelude.{◌+◌, ◌≤◌, List, length, take, drop, ℤ}
use Rattle.lb_traces.specs.declared.numbers.RowCells.{RowCells}
use Rattle.lb_traces.specs.declared.numbers.RowCells.TheVariants.{Narrow, Wide, Mixed}
use Rattle.lb_traces.specs.Narrow.{AreCells}

-- the integers of a row
abbrev pub row_items : RowCells → List ℤ
row_items (Narrow cells numbers start) = take (length cells.now) (drop start numbers.now.items)
row_items (Wide cells) = cells.now
row_items (Mixed numbers start count) = take count (drop start numbers.now.items)

-- the parts of a row fit one another
abbrev pub IsRowHeld : RowCells → Type 0
IsRowHeld (Narrow cells numbers start) = AreCells cells.now numbers.now.items start
IsRowHeld (Wide cells) = length cells.now ≤ 4294967296
IsRowHeld (Mixed numbers start count) =
    (start + count ≤ length numbers.now.items) × (start + count ≤ 4294967296)
