-- Rows of records whose columns stand in any order.
use Rattle.std.proofs.Common.{ℕ, suc, zero, ◌≡◌, ◌<◌, List, [], ◌∷◌, length, get_or, map, Option}
use Rattle.std.proofs.Common.{Some, None, ℤ, pos, refl, sym, ap, ◌∙◌, subst, arith, Bool, false}
use Rattle.std.proofs.Common.{if◌then◌else◌, Result, Ok, Err}
use Rattle.std.specs.Prelude.{IfOk, IfSome, MatchOption}
use Rattle.std.specs.List.{All}
use Rattle.std.specs.Option.{option_and_then, option_map}
use Rattle.csv.specs.Records.{field_at}
use Rattle.lb_static.specs.Signature.{Elements}
use Rattle.lb_traces.specs.Traces.{IsTrace, Row, Traces}
use Rattle.lb_trace.specs.declared.header.Column.{Column}
use Rattle.lb_trace.specs.Cells.{cell_value}
use Rattle.lb_trace.specs.Lines.{EndsRecord, record_of}
use Rattle.lb_trace.specs.Mirrors.{add_by, record_by, row_by}
use Rattle.lb_trace.specs.PlainRows.{AreInOrder, ArePlaced, IsPlaced, plain_row}
use Rattle.lb_trace.specs.Spelling.{Record}
use Rattle.lb_trace.proofs.Additions.{record_by-added}
use Rattle.lb_trace.proofs.PlainRecordings.{row_in_order}

-- the cells of a record spell values, one for each column
record AreValues (placed : List Column) (cells : Record) (values : Row) : Type 0 where
  pub wide : length cells ≡ length placed
  pub full : length values ≡ length placed
  pub each : (i : ℕ) (c : Column) → i < length placed
      → cell_value (get_or placed i c).kind (get_or cells i []) ≡ Some (get_or values i (pos 0))

-- a row that was put together from a value and others has this value first, and then the others
parts : {P : Type 0} (value : Option ℤ) (values : Option Row) (row : Row)
    → option_and_then (λ v. option_map (λ r. v ∷ r) values) value ≡ Some row
    → ((v : ℤ) (more : Row) → value ≡ Some v → values ≡ Some more → row ≡ v ∷ more → P) → P
parts None values row e go = cc e
parts (Some v) None row e go = cc e
parts (Some v) (Some more) row e go = go v more refl refl (cc e)

one_more : (column : Column) (placed : List Column) (cell : List ℕ) (cells : Record) (v : ℤ)
    (more : Row) → cell_value column.kind cell ≡ Some v
    → ((j : ℕ) (d : Column) → j < length placed
    → cell_value (get_or placed j d).kind (get_or cells j []) ≡ Some (get_or more j (pos 0)))
    → (i : ℕ) (c : Column) → i < length (column ∷ placed)
    → cell_value (get_or (column ∷ placed) i c).kind (get_or (cell ∷ cells) i [])
    ≡ Some (get_or (v ∷ more) i (pos 0))
one_more column placed cell cells v more first others zero c below = first
one_more column placed cell cells v more first others (suc i) c below = others i c (omega arith)

values_of : (placed : List Column) (cells : Record) (values : Row)
    → plain_row placed cells ≡ Some values → AreValues placed cells values
unfolding plain_row
values_of [] [] values read =
    let none : [] ≡ values = cc read in
    record {
      wide = refl;
      full = ap length (sym none);
      each = λ i c below. absurd (omega (arith, below));
    }
values_of [] (cell ∷ cells) values read = cc read
values_of (column ∷ placed) [] values read = cc read
values_of (column ∷ placed) (cell ∷ cells) values read =
    parts (cell_value column.kind cell) (plain_row placed cells) values read
    (λ v more first others is.
    let rest : AreValues placed cells more = values_of placed cells more others in
    subst (λ all. AreValues (column ∷ placed) (cell ∷ cells) all) (sym is)
    (record {
      wide = ap suc rest.wide;
      full = ap suc rest.full;
      each = one_more _ _ _ _ _ _ first rest.each;
    }))

-- the row of a record has, for each column of the table, the value at the place of the column
pub row_placed : (table placed : List Column) (cells : Record) (values : Row)
    → plain_row placed cells ≡ Some values → ArePlaced placed table
    → row_by table cells ≡ Some (map (λ column. get_or values column.at (pos 0)) table)
row_placed [] placed cells values read at = refl
row_placed (column ∷ table) placed cells values read at =
    let all : AreValues placed cells values = values_of placed cells values read in
    let first : IsPlaced placed column = at 0 column (omega arith) in
    let here : cell_value column.kind (get_or cells column.at [])
    ≡ Some (get_or values column.at (pos 0)) =
    ap (λ k. cell_value k (get_or cells column.at [])) (sym first.1)
    ∙ all.each column.at column first.0 in
    ap (option_and_then (λ v. option_map (λ r. v ∷ r) (row_by table cells))) here
    ∙ ap (option_map (λ r. get_or values column.at (pos 0) ∷ r))
    (row_placed table placed cells values read (λ i d below. at (suc i) d (omega arith)))

-- the place of each column of the table is below the number of values
pub places_within : (table placed : List Column) (cells : Record) (values : Row)
    → plain_row placed cells ≡ Some values → ArePlaced placed table
    → All (λ column. column.at < length values) table
places_within table placed cells values read at =
    let all : AreValues placed cells values = values_of placed cells values read in
    λ i d below. subst (λ n. (get_or table i d).at < n) (sym all.full) (at i d below).0

-- a record whose cells spell values has as many cells as there are columns
pub cells_placed : (placed : List Column) (cells : Record) (values : Row)
    → plain_row placed cells ≡ Some values → length cells ≡ length placed
cells_placed placed cells values read = (values_of placed cells values read).wide

-- a line that spells a row by columns in order has their number of cells, and this row by the table
ordered_found : (table : List Column) (width : ℕ) (text : List ℕ) (row : Row) (past : ℕ)
    → (length table ≡ width) × AreInOrder 0 table
    → (plain_row table (record_of text) ≡ Some row) × EndsRecord text past
    → (length (record_of text) ≡ width) × (row_by table (record_of text) ≡ Some row)
    × EndsRecord text past
ordered_found table width text row past ordered read =
    let both = row_in_order table [] (record_of text) row ordered.1 read.0 in
    (both.0 ∙ ordered.0, both.1, read.1)

pub ordered_line : {E : Type 0} (r : Result (Option ℕ) E)
    (table columns : List Column) (width : ℕ) (text : List ℕ) (row : Row)
    → columns ≡ table → (length table ≡ width) × AreInOrder 0 table
    → IfOk r (λ after. MatchOption after (plain_row columns (record_of text) ≡ None)
    (λ past. (plain_row columns (record_of text) ≡ Some row) × EndsRecord text past))
    → IfOk r (λ found. IfSome found (λ past. (length (record_of text) ≡ width)
    × (row_by table (record_of text) ≡ Some row) × EndsRecord text past))
ordered_line (Ok None) table columns width text row same ordered read = tt
ordered_line (Ok (Some past)) table columns width text row same ordered read =
    ordered_found _ _ _ _ _ ordered
    (ap (λ cs. plain_row cs (record_of text)) (sym same) ∙ read.0, read.1)
ordered_line (Err e) table columns width text row same ordered read = tt

-- the result for columns in another order, with the names of the table for its parts
pub placed_line : {E : Type 0} (r : Result (Option ℕ) E)
    (table columns placed all : List Column) (width : ℕ) (text : List ℕ) (row : Row)
    → columns ≡ table → placed ≡ all → length all ≡ width
    → IfOk r (λ found. IfSome found (λ past. (length (record_of text) ≡ length placed)
    × (row_by columns (record_of text) ≡ Some row) × EndsRecord text past))
    → IfOk r (λ found. IfSome found (λ past. (length (record_of text) ≡ width)
    × (row_by table (record_of text) ≡ Some row) × EndsRecord text past))
placed_line (Ok None) table columns placed all width text row same is wide read = tt
placed_line (Ok (Some past)) table columns placed all width text row same is wide read = (
  read.0 ∙ ap length is ∙ wide,
  ap (λ cs. row_by cs (record_of text)) (sym same) ∙ read.1,
  read.2,
)
placed_line (Err e) table columns placed all width text row same is wide read = tt

-- a record that was read in one pass is one more instant of the trace that it names
pub line_added :
    (elements : Elements) (table : List Column) (width : ℕ) (traces : Traces)
    (text bytes rest : List ℕ) (last : Bool) (row : Row) →
    record_of text ≡ bytes ∷ (if last then [] else record_of rest) → last ≡ false →
    All (IsTrace elements) traces → length (record_of rest) ≡ width →
    row_by table (record_of rest) ≡ Some row →
    record_by elements table width traces (record_of text) ≡ add_by elements bytes traces (Some row)
unfolding field_at
line_added elements table width traces text bytes rest last row first inner each wide read =
    let all : record_of text ≡ bytes ∷ record_of rest =
    first ∙ ap (λ t. bytes ∷ (if t then [] else record_of rest)) inner in
    ap (record_by elements table width traces) all
    ∙ record_by-added elements table width traces (bytes ∷ record_of rest) bytes refl wide each
    ∙ ap (add_by elements bytes traces) read
