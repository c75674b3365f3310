-- What the bytes before a place of a trace text are part of, byte by byte: cells are parted by
-- commas and records by ends of lines, but not within quotes, and `""` in a quoted cell is a quote.
-- Source: this project's rule, that of the reader of traces.
use Rattle.std.specs.Prelude.{ℕ, ◌==◌, ◌||◌, Option, Some, None, if◌then◌else◌}
use Rattle.lb_places.specs.declared.cell_states.CellState.{CellState}
use Rattle.lb_places.specs.declared.cell_states.CellState.TheVariants.{Record, Cell, Plain, Quoted, Closed}

-- the state after a byte outside of quotes: a comma ends a cell, a line feed or a carriage return
-- a record
abbrev pub outside : ℕ → CellState
outside b = if b == 44 then Cell else (if (b == 10) || (b == 13) then Record else Plain)

-- the state after a byte
abbrev pub after : CellState → ℕ → CellState
after Record b = if b == 34 then Quoted else outside b
after Cell b = if b == 34 then Quoted else outside b
after Plain b = outside b
after Quoted b = if b == 34 then Closed else Quoted
after Closed b = if b == 34 then Quoted else outside b

-- the byte that the next byte of a cell adds to its value: a quote that opens or closes the cell
-- adds none
abbrev pub emitted : CellState → ℕ → Option ℕ
emitted Record b = Some b
emitted Cell b = if b == 34 then None else Some b
emitted Plain b = Some b
emitted Quoted b = if b == 34 then None else Some b
emitted Closed b = Some b
