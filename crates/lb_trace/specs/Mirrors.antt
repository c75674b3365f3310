-- These definitions mirror code: the table of columns, and the row that is read by it.
use Rattle.std.specs.Prelude.{ℕ, ◌+◌, ◌*◌, ◌<◌, ◌&&◌, nat_lt, nat_le, ◌≡◌, ◌==◌, ◌||◌, not}
use Rattle.std.specs.Prelude.{if◌then◌else◌, List, [], ◌∷◌, length, get_or, Option, Some, None}
use Rattle.std.specs.Prelude.{Result, Ok, Err}
use Rattle.std.specs.Prelude.{Bool as Truth, true, false}
use Rattle.std.specs.Cmp.Lexicographic.{slice_cmp}
use Rattle.std.specs.BTreeSet.{contains_text}
use Rattle.std.specs.Ordering.{is_lt, nat_cmp, on, then_cmp}
use Rattle.std.specs.List.{list_any, position_or_len}
use Rattle.std.specs.Option.{option_and_then, option_map}
use Rattle.std.specs.Str.{bytes_eq}
use Rattle.lb_static.specs.Signature.{Element, Elements}
use Rattle.lb_traces.specs.Traces.{IsRow, Row, Traces, cells_of_instant, instants_of, last_rows}
use Rattle.lb_traces.specs.Traces.{trace_names, with_row, with_trace}
use Rattle.lb_trace.specs.declared.header.Column.{Column}
use Rattle.lb_trace.specs.declared.seen_names.SeenNames.{SeenNames}
use Rattle.lb_trace.specs.declared.name_table.NameTable.{NameTable}
use Rattle.lb_trace.specs.Cells.{cell_value}
use Rattle.lb_trace.specs.NamePlaces.{HavePlaces}
use Rattle.lb_trace.specs.Refusals.{comes_back, is_last, is_trace_name, with_cells}
use Rattle.lb_trace.specs.Spelling.{Record}

-- the column of an element
abbrev pub column_of : Record → Element → Column
column_of columns e = record { at = position_or_len (bytes_eq e.0) columns; kind = e.1 }

-- the row that cells spell, by a table of columns
abbrev pub row_by : List Column → Record → Option Row
row_by [] cells = Some []
row_by (c ∷ more) cells =
    option_and_then (λ v. option_map (λ row. v ∷ row) (row_by more cells))
    (cell_value c.kind (get_or cells c.at []))

-- whether a name is shorter than another, or as long and smaller
abbrev pub is_below : List ℕ → List ℕ → Truth
is_below name other = is_lt (then_cmp (on length nat_cmp) (slice_cmp nat_cmp) name other)

-- whether a name rises above that of the last trace
abbrev pub rises_to : Traces → List ℕ → Truth
rises_to [] name = true
rises_to (t ∷ []) name = is_below t.0 name
rises_to (t ∷ u ∷ more) name = rises_to (u ∷ more) name

-- a table has room, and all of these names
pub record IsTableOf (table : NameTable) (names : List (List ℕ)) : Type 0 where
  pub some : 0 < length table.places.items
  pub few : length table.places.items < 4294967296
  pub have : HavePlaces table.places.items (contains_text table.others) names (length names)

-- the names of the traces are known: while they rise no trace has a name above the last one, and
-- otherwise the table has them
abbrev pub knows : SeenNames → Traces → Type 0
knows names traces =
    (names.rising ≡ true → (q : List ℕ) → rises_to traces q ≡ true
    → list_any (λ t. bytes_eq q t.0) traces ≡ false)
    × (names.rising ≡ false → IsTableOf names.table (trace_names traces))

-- the traces with one more record, by a table of columns
abbrev pub record_by : Elements → List Column → ℕ → Traces → Record → Result Traces ℕ
record_by elements table width traces [] = Err 15
record_by elements table width traces (name ∷ cells) =
    if not (length cells == width) then Err 15
    else if not (is_trace_name name) || comes_back name traces then Err 17
    else with_cells elements name traces (row_by table cells)

-- the traces with one more row of the last trace, or the number of its refusal; the length and the
-- name of its record are right
abbrev pub go_on_by : Elements → Traces → Option Row → Result Traces ℕ
go_on_by elements traces None = Err 16
go_on_by elements traces (Some row) =
    if nat_lt (length (last_rows traces)) 1000000
    && nat_le ((instants_of traces + 1) * cells_of_instant elements) 67108864
    then Ok (with_row traces row) else Err 18

-- the traces with one more trace, of one row, or the number of its refusal; the length and the name
-- of its record are right
abbrev pub start_cells : Elements → List ℕ → Traces → Option Row → Result Traces ℕ
start_cells elements name traces None = Err 16
start_cells elements name traces (Some row) =
    if nat_lt (length traces) 1000000
    && nat_le ((instants_of traces + 1) * cells_of_instant elements) 67108864
    then Ok (with_trace traces name row) else Err 18

abbrev pub start_by : Elements → List ℕ → Traces → Option Row → Result Traces ℕ
start_by elements name traces row =
    if not (is_trace_name name) || list_any (λ t. bytes_eq name t.0) traces then Err 17
    else start_cells elements name traces row

-- the traces with one more record whose length is right: it is of the last trace, or of another
abbrev pub add_by : Elements → List ℕ → Traces → Option Row → Result Traces ℕ
add_by elements name traces row =
    if is_last name traces then go_on_by elements traces row
    else start_by elements name traces row

-- a row that is read by a table follows a signature
abbrev pub RowsFollow : List Column → Elements → Type 0
RowsFollow table elements =
    (cells : Record) (row : Row) → row_by table cells ≡ Some row → IsRow elements row
