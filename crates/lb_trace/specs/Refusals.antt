-- The first refusal of a trace text, as a computation.
-- Source: this project's rule.
use Rattle.std.specs.Prelude.{ℕ, ◌+◌, ◌*◌, ◌==◌, ◌&&◌, ◌||◌, not, nat_lt, nat_le, if◌then◌else◌}
use Rattle.std.specs.Prelude.{Bool as Truth, false, List, [], ◌∷◌, length, Option, Some, None}
use Rattle.std.specs.Prelude.{Result, Ok, Err}
use Rattle.std.specs.List.{list_all, list_any}
use Rattle.std.specs.Str.{bytes_eq}
use Rattle.lb_static.specs.Signature.{Elements}
use Rattle.lb_traces.specs.Traces.{Row, Traces, cells_of_instant, instants_of, is_name_byte}
use Rattle.lb_traces.specs.Traces.{last_rows, with_row, with_trace}
use Rattle.lb_trace.specs.Spelling.{Record, after_first, is_header, records_of, row_of}

-- whether a name is lawful
abbrev pub is_trace_name : List ℕ → Truth
is_trace_name name = nat_le 1 (length name) && nat_le (length name) 64 && list_all is_name_byte name

-- whether the last trace has this name
abbrev pub is_last : List ℕ → Traces → Truth
is_last name [] = false
is_last name (t ∷ []) = bytes_eq name t.0
is_last name (t ∷ u ∷ more) = is_last name (u ∷ more)

-- whether a name comes back: a trace has it, and the last one has another
abbrev pub comes_back : List ℕ → Traces → Truth
comes_back name traces = list_any (λ t. bytes_eq name t.0) traces && not (is_last name traces)

-- whether there is room for one more instant of the trace with this name
abbrev pub has_room : Elements → List ℕ → Traces → Truth
has_room elements name traces =
    (if is_last name traces then nat_lt (length (last_rows traces)) 1000000
    else nat_lt (length traces) 1000000)
    && nat_le ((instants_of traces + 1) * cells_of_instant elements) 67108864

-- the traces with one more instant: of the last trace, or of a new one
abbrev pub with_instant : List ℕ → Row → Traces → Traces
with_instant name row traces =
    if is_last name traces then with_row traces row else with_trace traces name row

-- the traces with the row of one more record, or 16 where its cells spell no row, or 18 where there
-- is no room
abbrev pub with_cells : Elements → List ℕ → Traces → Option Row → Result Traces ℕ
with_cells elements name traces None = Err 16
with_cells elements name traces (Some row) =
    if has_room elements name traces then Ok (with_instant name row traces) else Err 18

-- the traces with one more record, or the number of what is wrong with it: its length, its name, a
-- cell, the limits
abbrev pub with_record : Elements → Record → Traces → Record → Result Traces ℕ
with_record elements columns traces [] = Err 15
with_record elements columns traces (name ∷ cells) =
    if not (length cells == length columns) then Err 15
    else if not (is_trace_name name) || comes_back name traces then Err 17
    else with_cells elements name traces (row_of elements columns cells)

-- the reading `more` of further records, unless the record before them is refused
abbrev pub then_read : (Traces → Result Traces ℕ) → Result Traces ℕ → Result Traces ℕ
then_read more (Ok traces) = more traces
then_read more (Err number) = Err number

-- the traces with some more records, or the number of what is wrong with the first bad one
unfoldable pub with_records : Elements → Record → Traces → List Record → Result Traces ℕ
with_records elements columns traces [] = Ok traces
with_records elements columns traces (r ∷ more) =
    then_read (λ further. with_records elements columns further more)
    (with_record elements columns traces r)

-- the traces of all records, or the number of the first refusal
unfoldable pub reading : Elements → List Record → Result Traces ℕ
reading elements [] = Err 14
reading elements (header ∷ rows) =
    if is_header elements header then with_records elements (after_first header) [] rows else Err 14

-- the traces of a text, or the number of its first refusal: 18 for its length, 14 for the header,
-- and then the number of what is wrong with the first bad record
unfoldable pub outcome : Elements → List ℕ → Result Traces ℕ
outcome elements text =
    if nat_le (length text) 1073741824 then reading elements (records_of text) else Err 18
