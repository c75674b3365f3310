-- The refusal of a record behind the traces of a roll.
use Rattle.std.proofs.Common.{ℕ, ◌≡◌, ◌≢◌, ◌+◌, ◌-◌, ◌*◌, ◌<◌, ◌&&◌, ◌==◌, Bool, true, false}
use Rattle.std.proofs.Common.{if◌then◌else◌, not, List, [], ◌∷◌, length, get_or, Option, Some, None}
use Rattle.std.proofs.Common.{Ok, Err, refl, sym, ap, ◌∙◌, subst, inl, inr, ⊎_elim}
use Rattle.std.proofs.Common.{nat_le, nat_lt}
use Rattle.std.proofs.lemmas.Bool.{eqb-true, false_from_ne_true}
use Rattle.std.specs.List.{list_any}
use Rattle.std.specs.Str.{bytes_eq}
use Rattle.csv.specs.Records.{field_at}
use Rattle.lb_static.specs.Signature.{Elements}
use Rattle.lb_traces.specs.Traces.{IsTraceName, Row, Trace, Traces, cells_of_instant, instants_of}
use Rattle.lb_traces.specs.Traces.{last_rows, with_row, with_trace}
use Rattle.lb_trace.specs.declared.error.TraceError.{TraceError}
use Rattle.lb_trace.specs.declared.header.Column.{Column}
use Rattle.lb_trace.specs.declared.roll.Roll.{Roll}
use Rattle.lb_trace.specs.declared.table.ColumnTable.{ColumnTable}
use Rattle.lb_trace.specs.Errors.{IsRefusal, error_number}
use Rattle.lb_trace.specs.Mirrors.{go_on_by, record_by, row_by, start_by, start_cells}
use Rattle.lb_trace.specs.Refusals.{is_last, is_trace_name, with_record}
use Rattle.lb_trace.specs.Rolls.{IsRollOf, room_for_another, room_in_last}
use Rattle.lb_trace.specs.RowRefusals.{room_by}
use Rattle.lb_trace.specs.Spelling.{Record, after_first}
use Rattle.lb_trace.specs.Tables.{IsColumnTable, columns_in}
use Rattle.lb_trace.proofs.Additions.{record_by-last, record_by-none, record_by-other, start_by-new}
use Rattle.lb_trace.proofs.Additions.{start_by-refused}
use Rattle.lb_trace.proofs.Readings.{record_by-table}
use Rattle.lb_trace.proofs.Rolls.{last_length, same_any, same_count, same_last}

-- ## By the table of a header

-- a refusal of a record by the table of a header is a refusal of the record
by_table : (elements : Elements) (table : ColumnTable) (traces : Traces) (r : Record)
    (e : TraceError)
    → IsColumnTable elements table
    → IsRefusal (record_by elements table.columns.items table.count traces r) e
    → IsRefusal (with_record elements (columns_in table) traces r) e
by_table elements table traces r e is bad =
    subst (λ o. IsRefusal o e)
    (record_by-table _ _ _ _ _ _ is.columns is.count) bad

-- `record_by` of a record of another length is 15
record_by-wide : (elements : Elements) (table : List Column) (width : ℕ) (traces : Traces)
    (r : Record)
    → length (after_first r) ≢ width → record_by elements table width traces r ≡ Err 15
record_by-wide elements table width traces [] other = refl
record_by-wide elements table width traces (name ∷ cells) other =
    let no : (length cells == width) ≡ false =
    false_from_ne_true (length cells == width) (λ same. other (eqb-true (length cells) width same))
    in
    rw no refl

-- a record with no cell is refused with 15
pub no_cell_refused : (elements : Elements) (table : ColumnTable) (traces : Traces) (r : Record)
    (e : TraceError)
    → IsColumnTable elements table → field_at r 0 ≡ None → error_number e ≡ 15
    → IsRefusal (with_record elements (columns_in table) traces r) e
no_cell_refused elements table traces r e is none number =
    by_table _ _ _ _ _ is (inr (record_by-none _ _ _ _ _ none ∙ ap Err (sym number)))

-- a record with more cells than the header, or fewer, is refused with 15
pub width_refused : (elements : Elements) (table : ColumnTable) (traces : Traces) (r : Record)
    (e : TraceError)
    → IsColumnTable elements table → length (after_first r) ≢ table.count → error_number e ≡ 15
    → IsRefusal (with_record elements (columns_in table) traces r) e
width_refused elements table traces r e is other number =
    by_table _ _ _ _ _ is (inr (record_by-wide _ _ _ _ _ other ∙ ap Err (sym number)))

-- a record of the last trace is refused where `go_on_by` refuses its row
pub more_refused : (roll : Roll) (elements : Elements) (table : ColumnTable) (traces : Traces)
    (r : Record) (name : List ℕ) (e : TraceError)
    → IsRollOf elements roll traces → IsColumnTable elements table
    → field_at r 0 ≡ Some name → length (after_first r) ≡ table.count
    → is_last name roll.names.traces ≡ true
    → IsRefusal (go_on_by elements traces (row_by table.columns.items (after_first r))) e
    → IsRefusal (with_record elements (columns_in table) traces r) e
more_refused roll elements table traces r name e of is found wide last bad =
    by_table _ _ _ _ _ is (subst (λ o. IsRefusal o e) (sym (record_by-last _ _ _ _ _ _ found wide
    of.lawful.each (same_last _ _ _ (sym of.names) ∙ last))) bad)

-- a record of another trace is refused where `start_by` refuses its row
pub first_refused : (roll : Roll) (elements : Elements) (table : ColumnTable) (traces : Traces)
    (r : Record) (name : List ℕ) (e : TraceError)
    → IsRollOf elements roll traces → IsColumnTable elements table
    → field_at r 0 ≡ Some name → length (after_first r) ≡ table.count
    → is_last name roll.names.traces ≡ false
    → IsRefusal (start_by elements name traces (row_by table.columns.items (after_first r))) e
    → IsRefusal (with_record elements (columns_in table) traces r) e
first_refused roll elements table traces r name e of is found wide other bad =
    by_table _ _ _ _ _ is (subst (λ o. IsRefusal o e) (sym (record_by-other _ _ _ _ _ _ found wide
    (same_last _ _ _ (sym of.names) ∙ other))) bad)

-- ## Cells and room

-- a choice between traces and the refusal 18 is refused alike for any traces
same_choice : (b : Bool) (x y : Traces) (n : ℕ) → (if b then Ok x else Err 18) ≡ Err n
    → (if b then Ok y else Err 18) ≡ Err n
same_choice true x y n is = cc is
same_choice false x y n is = is

more_room : (elements : Elements) (traces : Traces) (row : Option Row) (room : Bool) (n : ℕ)
    → room ≡ (nat_lt (length (last_rows traces)) 1000000
    && nat_le ((instants_of traces + 1) * cells_of_instant elements) 67108864)
    → room_by room row ≡ Err n → go_on_by elements traces row ≡ Err n
more_room elements traces None room n is bad = bad
more_room elements traces (Some row) room n is bad =
    same_choice
    (nat_lt (length (last_rows traces)) 1000000
    && nat_le ((instants_of traces + 1) * cells_of_instant elements) 67108864)
    [] (with_row traces row) n
    (ap (λ b. if b then Ok [] else Err 18) (sym is) ∙ bad)

first_room : (elements : Elements) (name : List ℕ) (traces : Traces) (row : Option Row)
    (room : Bool) (n : ℕ)
    → room ≡ (nat_lt (length traces) 1000000
    && nat_le ((instants_of traces + 1) * cells_of_instant elements) 67108864)
    → room_by room row ≡ Err n → start_cells elements name traces row ≡ Err n
first_room elements name traces None room n is bad = bad
first_room elements name traces (Some row) room n is bad =
    same_choice
    (nat_lt (length traces) 1000000
    && nat_le ((instants_of traces + 1) * cells_of_instant elements) 67108864)
    [] (with_trace traces name row) n
    (ap (λ b. if b then Ok [] else Err 18) (sym is) ∙ bad)

-- a roll and its traces have room for the same number of cells
cells_room : (roll : Roll) (elements : Elements) (traces : Traces) → IsRollOf elements roll traces
    → nat_le ((roll.instants + 1) * roll.cells) 67108864
    ≡ nat_le ((instants_of traces + 1) * cells_of_instant elements) 67108864
cells_room roll elements traces of =
    ap (λ n. nat_le ((n + 1) * roll.cells) 67108864) of.instants
    ∙ ap (λ n. nat_le ((instants_of traces + 1) * n) 67108864) of.cells

-- the refusal of the cells of a record of the last trace is that of `go_on_by`
pub more_cells_refused : (roll : Roll) (elements : Elements) (traces : Traces) (row : Option Row)
    (room : Bool) (e : TraceError)
    → IsRollOf elements roll traces → 0 < length roll.names.traces → room ≡ room_in_last roll
    → IsRefusal (room_by room row) e → IsRefusal (go_on_by elements traces row) e
more_cells_refused roll elements traces row room e of some is bad =
    let count : length roll.names.traces ≡ length traces =
    same_count roll.names.traces traces of.names in
    let last : get_or roll.lengths.items (length roll.lengths.items - 1) 0
    ≡ length (last_rows traces) =
    ap (λ ls. get_or ls (length ls - 1) 0) of.lengths
    ∙ last_length traces 0 (subst (λ n. 0 < n) count some) in
    let whole : room ≡ (nat_lt (length (last_rows traces)) 1000000
    && nat_le ((instants_of traces + 1) * cells_of_instant elements) 67108864) =
    is
    ∙ ap (λ n. nat_lt n 1000000 && nat_le ((roll.instants + 1) * roll.cells) 67108864) last
    ∙ ap (λ b. nat_lt (length (last_rows traces)) 1000000 && b)
    (cells_room roll elements traces of) in
    ⊎_elim (λ (h : error_number e ≡ 0). inl h)
    (λ (h : room_by room row ≡ Err (error_number e)).
    inr (more_room elements traces row room (error_number e) whole h))
    bad

-- a name that is not lawful or not new is refused with 17 by `start_by`
pub name_refused : (roll : Roll) (elements : Elements) (traces : Traces) (name : List ℕ)
    (row : Option Row) (e : TraceError)
    → IsRollOf elements roll traces
    → (is_trace_name name && not (list_any (λ t. bytes_eq name t.0) roll.names.traces)) ≡ false
    → error_number e ≡ 17 → IsRefusal (start_by elements name traces row) e
name_refused roll elements traces name row e of found number =
    inr (start_by-refused elements name traces row
    (list_any (λ (t : Trace). bytes_eq name t.0) roll.names.traces)
    (same_any name roll.names.traces traces of.names) found
    ∙ ap Err (sym number))

-- the refusal of the cells is that of `start_by` where the name is lawful and new
pub first_cells_refused : (roll : Roll) (elements : Elements) (traces : Traces) (name : List ℕ)
    (row : Option Row) (room : Bool) (e : TraceError)
    → IsRollOf elements roll traces → IsTraceName name
    → list_any (λ t. bytes_eq name t.0) roll.names.traces ≡ false → room ≡ room_for_another roll
    → IsRefusal (room_by room row) e → IsRefusal (start_by elements name traces row) e
first_cells_refused roll elements traces name row room e of lawful new is bad =
    let free : list_any (λ (t : Trace). bytes_eq name t.0) traces ≡ false =
    same_any name traces roll.names.traces (sym of.names) ∙ new in
    let whole : room ≡ (nat_lt (length traces) 1000000
    && nat_le ((instants_of traces + 1) * cells_of_instant elements) 67108864) =
    is
    ∙ ap (λ n. nat_lt n 1000000 && nat_le ((roll.instants + 1) * roll.cells) 67108864)
    (same_count roll.names.traces traces of.names)
    ∙ ap (λ b. nat_lt (length traces) 1000000 && b) (cells_room roll elements traces of) in
    ⊎_elim (λ (h : error_number e ≡ 0). inl h)
    (λ (h : room_by room row ≡ Err (error_number e)).
    inr (start_by-new elements name traces row lawful free
    ∙ first_room elements name traces row room (error_number e) whole h))
    bad
