-- The reading of a text without quotes, record by record.
use Rattle.std.proofs.Common.{ℕ, suc, ◌≡◌, ◌==◌, true, false, List, [], ◌∷◌, ◌++◌, length, get_or}
use Rattle.std.proofs.Common.{Option, Some, None, ℤ, refl, sym, ap, ◌∙◌, subst, arith, append_assoc}
use Rattle.std.proofs.lemmas.Bool.{eqb-true}
use Rattle.std.specs.Option.{option_and_then, option_map}
use Rattle.lb_traces.specs.Traces.{Row}
use Rattle.lb_trace.specs.declared.header.Column.{Column}
use Rattle.lb_trace.specs.Cells.{cell_value}
use Rattle.lb_trace.specs.Lines.{after_line, record_of}
use Rattle.lb_trace.specs.Mirrors.{row_by}
use Rattle.lb_trace.specs.Plain.{plain_records}
use Rattle.lb_trace.specs.PlainRows.{AreInOrder, plain_row}
use Rattle.lb_trace.specs.Scan.{begun_records}
use Rattle.lb_trace.specs.Spelling.{Record}

-- the cell at place `length before` is the one behind the cells `before`
got_at : (before cells : Record) (cell : List ℕ)
    → get_or (before ++ cell ∷ cells) (length before) [] ≡ cell
got_at [] cells cell = refl
got_at (first ∷ before) cells cell = got_at before cells cell

length-one_more : (before : Record) (cell : List ℕ)
    → length (before ++ cell ∷ []) ≡ suc (length before)
length-one_more [] cell = refl
length-one_more (first ∷ before) cell = ap suc (length-one_more before cell)

-- the table reads the same row as the columns in order, behind the cells `before`
pub row_in_order :
    (table : List Column) (before cells : Record) (row : Row) →
    AreInOrder (length before) table → plain_row table cells ≡ Some row →
    (length cells ≡ length table) × (row_by table (before ++ cells) ≡ Some row)
unfolding plain_row
row_in_order [] before [] row ordered read = (refl, read)
row_in_order [] before (cell ∷ cells) row ordered read = cc read
row_in_order (column ∷ table) before [] row ordered read = cc read
row_in_order (column ∷ table) before (cell ∷ cells) row ordered read =
    by (λ more e. row_in_order table (before ++ cell ∷ []) cells more
    (subst (λ n. AreInOrder n table) (sym (length-one_more before cell)) ordered.1) e)
    (cell_value column.kind cell) refl (plain_row table cells) refl read
  where
    here : get_or (before ++ cell ∷ cells) column.at [] ≡ cell
    here = ap (λ n. get_or (before ++ cell ∷ cells) n []) ordered.0 ∙ got_at before cells cell

    by : ((more : Row) → plain_row table cells ≡ Some more →
        (length cells ≡ length table) × (row_by table ((before ++ cell ∷ []) ++ cells) ≡ Some more))
        →
        (value : Option ℤ) → cell_value column.kind cell ≡ value →
        (values : Option Row) → plain_row table cells ≡ values →
        option_and_then (λ v. option_map (λ r. v ∷ r) (plain_row table cells))
        (cell_value column.kind cell) ≡ Some row →
        (length (cell ∷ cells) ≡ length (column ∷ table))
        × (row_by (column ∷ table) (before ++ cell ∷ cells) ≡ Some row)
    by after None v values w e = cc (rw v at e)
    by after (Some value) v None w e = cc (rw (v, w) at e)
    by after (Some value) v (Some more) w e =
        let known : Some (value ∷ more) ≡ Some row = rw (v, w) at e in
        let both = after more w in
        let rows : row_by table (before ++ cell ∷ cells) ≡ Some more =
        ap (row_by table) (sym (append_assoc before (cell ∷ []) cells)) ∙ both.1 in (
          ap suc both.0,
          ap (λ c. option_and_then (λ v. option_map (λ r. v ∷ r)
              (row_by table (before ++ cell ∷ cells))) (cell_value column.kind c)) here
              ∙ ap (option_and_then (λ v. option_map (λ r. v ∷ r)
              (row_by table (before ++ cell ∷ cells)))) v
              ∙ ap (option_map (λ r. value ∷ r)) rows ∙ known,
        )

-- the records of a text that begins with a record are this one and those after its line
pub begun-more :
    (begun : List ℕ) → (length begun == 0) ≡ false →
    begun_records begun ≡ record_of begun ∷ plain_records (after_line begun)
begun-more [] some = cc some
begun-more (b ∷ rest) some = refl

pub begun-none : (begun : List ℕ) → (length begun == 0) ≡ true → begun_records begun ≡ []
begun-none [] none = refl
begun-none (b ∷ rest) none =
    let empty : length (b ∷ rest) ≡ 0 = eqb-true (length (b ∷ rest)) 0 none in
    absurd (omega (arith, empty))
