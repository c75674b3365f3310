-- One more cell is one more value of the row.
use Rattle.std.proofs.Common.{◌≡◌, ℕ, ◌+◌, ◌<◌, List, [], ◌∷◌, ◌++◌, length, get_or, drop, Option}
use Rattle.std.proofs.Common.{Some, None, ℤ, refl, sym, ap, ◌∙◌, append_assoc, add-one, rules}
use Rattle.std.proofs.Math.Seq.{drop-cons}
use Rattle.std.specs.Option.{option_and_then, option_map}
use Rattle.csv.specs.Records.{fields_of}
use Rattle.lb_syntax.specs.declared.tree.Kind.TheVariants.{Int}
use Rattle.lb_traces.specs.Traces.{Row}
use Rattle.lb_trace.specs.Cells.{cell_value}
use Rattle.lb_trace.specs.Mirrors.{row_by}
use Rattle.lb_trace.specs.Spelling.{Record, after_first}
use Rattle.lb_trace.specs.declared.header.Column.{Column}
use Rattle.lb_trace.proofs.rows.read_row.Goals as goal

then_one : (row : Row) (v : ℤ) (left : Option Row)
    → option_map (λ rest. row ++ rest) (option_map (λ more. v ∷ more) left)
    ≡ option_map (λ rest. (row ++ (v ∷ [])) ++ rest) left
then_one row v None = refl
then_one row v (Some more) = ap Some (rw append_assoc refl)

next_value : (columns : List Column) (i : ℕ) (cells : Record) (row : Row) (v : ℤ) (d : Column)
    → i < length columns
    → row_by columns cells ≡ option_map (λ rest. row ++ rest) (row_by (drop i columns) cells)
    → cell_value (get_or columns i d).kind (get_or cells (get_or columns i d).at []) ≡ Some v
    → row_by columns cells ≡ option_map (λ rest. (row ++ (v ∷ [])) ++ rest)
    (row_by (drop (i + 1) columns) cells)
next_value columns i cells row v d below known is =
    let one : drop i columns ≡ get_or columns i d ∷ drop (i + 1) columns =
    rw (add-one) (drop-cons columns i d below) in
    known ∙ ap (λ cs. option_map (λ rest. row ++ rest) (row_by cs cells)) one
    ∙ ap (λ found. option_map (λ rest. row ++ rest)
    (option_and_then (λ w. option_map (λ more. w ∷ more) (row_by (drop (i + 1) columns) cells))
    found)) is
    ∙ then_one row v (row_by (drop (i + 1) columns) cells)

next_none : (columns : List Column) (i : ℕ) (cells : Record) (row : Row) (d : Column)
    → i < length columns
    → row_by columns cells ≡ option_map (λ rest. row ++ rest) (row_by (drop i columns) cells)
    → cell_value (get_or columns i d).kind (get_or cells (get_or columns i d).at []) ≡ None
    → row_by columns cells ≡ None
next_none columns i cells row d below known is =
    let one : drop i columns ≡ get_or columns i d ∷ drop (i + 1) columns =
    rw (add-one) (drop-cons columns i d below) in
    known ∙ ap (λ cs. option_map (λ rest. row ++ rest) (row_by cs cells)) one
    ∙ ap (λ found. option_map (λ rest. row ++ rest)
    (option_and_then (λ w. option_map (λ more. w ∷ more) (row_by (drop (i + 1) columns) cells))
    found)) is

pub returns-in_default : goal.returns-in_default
returns-in_default c =
    let none : Column = record { at = 0; kind = Int } in
    let cells = after_first (fields_of c.args.entry.now) in
    let column = get_or c.args.columns.now c.loop-column.column-index none in
    next_none c.args.columns.now c.loop-column.column-index cells c.loop-column.row.items none
    c.loop-column-test.true c.loop-column.invariant
    (ap (cell_value column.kind) (sym c.cell.ensures) ∙ sym c.cell_value.ensures ∙ c.in_default.is)

pub loop-column-preserved : goal.loop-column-preserved
loop-column-preserved c =
    let none : Column = record { at = 0; kind = Int } in
    let cells = after_first (fields_of c.args.entry.now) in
    let column = get_or c.args.columns.now c.loop-column.column-index none in
    let items : c.push.new.self.items ≡ c.loop-column.row.items ++ (c.in-Some.value ∷ []) =
    search rules in
    rw items
    (next_value c.args.columns.now c.loop-column.column-index cells c.loop-column.row.items
    c.in-Some.value none c.loop-column-test.true c.loop-column.invariant
    (ap (cell_value column.kind) (sym c.cell.ensures) ∙ sym c.cell_value.ensures ∙ c.in-Some.is))
