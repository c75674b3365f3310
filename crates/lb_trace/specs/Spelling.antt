-- The traces that a text spells under a signature.
-- Source: this project's rule. Records are those of the csv crate, by its specification.
use Rattle.std.specs.Prelude.{ℕ, ◌≡◌, ◌≤◌, ◌==◌, ◌&&◌, Bool as Truth, false, IsTrue, List, [], ◌∷◌}
use Rattle.std.specs.Prelude.{length, map, get_or, Option, Some, codes}
use Rattle.std.specs.List.{AllZip, count_by, flat_map, list_all, list_any, position_or_len}
use Rattle.std.specs.Option.{option_and_then, option_map}
use Rattle.std.specs.Str.{bytes_eq}
use Rattle.csv.specs.Reading.{default_config, records, strip_bom}
use Rattle.lb_static.specs.Signature.{Elements, names_of}
use Rattle.lb_traces.specs.Traces.{IsRecording, IsTraceName, Row, Traces}
use Rattle.lb_trace.specs.Cells.{cell_value}

-- a record of a text: its cells, in order
abbrev pub Record : Type 0
Record = List (List ℕ)

-- the records of a text, as csv reads them with its default delimiter and quote and with no header
-- row of its own; one byte order mark at the start is left out
unfoldable pub records_of : List ℕ → List Record
records_of text = records default_config (strip_bom text)

-- whether these are the names of all elements, each once, in any order
abbrev pub are_columns : Elements → Record → Truth
are_columns elements columns =
    list_all (λ name. count_by (bytes_eq name) columns == 1) (names_of elements)
    && list_all (λ column. list_any (bytes_eq column) (names_of elements)) columns

-- whether a record begins with the cell `trace`
abbrev pub begins : Record → Truth
begins [] = false
begins (first ∷ rest) = bytes_eq first (codes "trace")

-- the cells of a record after its first one: the columns of a header, and the cells under them
abbrev pub after_first : Record → Record
after_first [] = []
after_first (first ∷ rest) = rest

-- whether a record is a header: `trace`, and then the columns
abbrev pub is_header : Elements → Record → Truth
is_header elements r = begins r && are_columns elements (after_first r)

-- the cell under the column of a name
abbrev pub under : Record → Record → List ℕ → List ℕ
under columns cells name = get_or cells (position_or_len (bytes_eq name) columns) []

-- the row that the cells spell: for each element the value of the cell under its name
abbrev pub row_of : Elements → Record → Record → Option Row
row_of [] columns cells = Some []
row_of (e ∷ more) columns cells =
    option_and_then (λ v. option_map (λ row. v ∷ row) (row_of more columns cells))
    (cell_value e.1 (under columns cells e.0))

-- an instant of a trace: the trace's name, and its row
abbrev pub Instant : Type 0
Instant = List ℕ × Row

-- all instants of some traces, one trace after the other
abbrev pub instants : Traces → List Instant
instants traces = flat_map (λ t. map (λ row. (t.0, row)) t.1) traces

-- a record spells an instant: its name is lawful, and it has a cell for each column, which together
-- spell the row
abbrev pub SpellsInstant : Elements → Record → Record → Instant → Type 0
SpellsInstant elements columns [] instant = ⊥
SpellsInstant elements columns (name ∷ cells) instant =
    (length cells ≡ length columns) × (name ≡ instant.0) × IsTraceName name
    × (row_of elements columns cells ≡ Some instant.1)

-- records spell traces: the first one is the header, and each later one spells an instant, in the
-- order of the traces
unfoldable pub SpelledBy : Elements → Traces → List Record → Type 0
SpelledBy elements traces [] = ⊥
SpelledBy elements traces (header ∷ rows) =
    IsTrue (is_header elements header)
    × AllZip (SpellsInstant elements (after_first header)) rows (instants traces)

-- a text spells traces: they are lawful, so that no name comes back, and within the limits
pub record Spells (elements : Elements) (text : List ℕ) (traces : Traces) : Type 0 where
  pub short : length text ≤ 1073741824
  pub spelled : SpelledBy elements traces (records_of text)
  pub lawful : IsRecording record { signature = elements; traces = traces }
