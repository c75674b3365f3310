-- Rows that are read one cell after the other.
use Rattle.std.proofs.Common.{ℕ, ◌≡◌, ◌+◌, ◌<◌, ◌≤◌, Bool, true, false, if◌then◌else◌, List, []}
use Rattle.std.proofs.Common.{◌∷◌, ◌++◌, length, get_or, drop, Option, Some, None, ℤ, refl, sym, ap}
use Rattle.std.proofs.Common.{◌-◌, ◌∙◌, arith, append_assoc, length-drop, take}
use Rattle.std.proofs.lemmas.List.{append-nil, drop_all, drop_more}
use Rattle.std.specs.Borrow.{Bor}
use Rattle.std.specs.Int.{w32}
use Rattle.std.specs.Prelude.{MatchOption}
use Rattle.std.proofs.lemmas.Int.{to_z-of_z}
use borrow.Rule.Slice.PartMut.{put_mid}
use mir.Val.{SFits, of_z, to_z}
use Rattle.std.specs.Option.{option_and_then, option_map}
use Rattle.lb_syntax.specs.declared.tree.Kind.{Kind}
use Rattle.lb_trace.specs.declared.header.Column.{Column}
use Rattle.lb_trace.specs.Cells.{cell_value}
use Rattle.lb_trace.specs.Lines.{after_line, record_of}
use Rattle.lb_trace.specs.PlainRows.{BeginsWith, onto, plain_row}
use Rattle.lb_trace.specs.Scan.{after_cell, cell_of, is_last_cell}
use Rattle.lb_trace.proofs.FirstCells.{after-cell, record-cell}

pub onto-nil : (more : Option (List ℤ)) → onto [] more ≡ more
onto-nil None = refl
onto-nil (Some row) = refl

onto-cons : (row : List ℤ) (v : ℤ) (more : Option (List ℤ))
    → onto row (option_map (λ values. v ∷ values) more) ≡ onto (row ++ v ∷ []) more
onto-cons row v None = refl
onto-cons row v (Some values) = ap Some (sym (append_assoc row (v ∷ []) values))

-- the cells of the first record of a text after its first cell
cells_after : List ℕ → List (List ℕ)
cells_after text = if is_last_cell text then [] else record_of (after_cell text)

row-cell : (columns : List Column) (k : Column) (cell : List ℕ) (cells : List (List ℕ)) (v : ℤ)
    (row : List ℤ) → cell_value k.kind cell ≡ Some v
    → onto row (plain_row (k ∷ columns) (cell ∷ cells))
    ≡ onto (row ++ v ∷ []) (plain_row columns cells)
unfolding plain_row
row-cell columns k cell cells v row e =
    ap (λ o. onto row (option_and_then
    (λ x. option_map (λ values. x ∷ values) (plain_row columns cells)) o)) e
    ∙ onto-cons row v (plain_row columns cells)

-- a first cell that spells a value leaves the next columns for the cells after it
row-step : (columns : List Column) (i : ℕ) (d k : Column) (text : List ℕ) (v : ℤ) (row : List ℤ)
    → i < length columns → k ≡ get_or columns i d
    → cell_value k.kind (cell_of text) ≡ Some v
    → onto row (plain_row (drop i columns) (record_of text))
    ≡ onto (row ++ v ∷ []) (plain_row (drop (i + 1) columns) (cells_after text))
unfolding cells_after
row-step columns i d k text v row h is e =
    ap (λ ks. onto row (plain_row ks (record_of text)))
    (drop_more columns i d h ∙ ap (λ x. x ∷ drop (i + 1) columns) (sym is))
    ∙ ap (λ cells. onto row (plain_row (k ∷ drop (i + 1) columns) cells)) (record-cell text)
    ∙ row-cell _ _ _ _ _ _ e

pub row-more : (columns : List Column) (i : ℕ) (d k : Column) (text rest : List ℕ) (v : ℤ)
    (row : List ℤ) (is_last : Bool) → i < length columns → k ≡ get_or columns i d
    → BeginsWith k.kind text v rest is_last → is_last ≡ false
    → onto row (plain_row (drop i columns) (record_of text))
    ≡ onto (row ++ v ∷ []) (plain_row (drop (i + 1) columns) (record_of rest))
unfolding cells_after
row-more columns i d k text rest v row is_last h is b e =
    let inner : is_last_cell text ≡ false = sym b.2 ∙ e in
    row-step _ _ _ _ _ _ _ h is b.0 ∙ ap (λ t. onto (row ++ v ∷ [])
    (plain_row (drop (i + 1) columns) (if t then [] else record_of (after_cell text)))) inner
    ∙ ap (λ t. onto (row ++ v ∷ []) (plain_row (drop (i + 1) columns) (record_of t))) (sym b.1)

row-last : (columns : List Column) (i : ℕ) (d k : Column) (text rest : List ℕ) (v : ℤ)
    (row : List ℤ) (is_last : Bool) → i < length columns → k ≡ get_or columns i d
    → BeginsWith k.kind text v rest is_last → is_last ≡ true
    → onto row (plain_row (drop i columns) (record_of text))
    ≡ onto (row ++ v ∷ []) (plain_row (drop (i + 1) columns) [])
unfolding cells_after
row-last columns i d k text rest v row is_last h is b e =
    let end : is_last_cell text ≡ true = sym b.2 ∙ e in
    row-step _ _ _ _ _ _ _ h is b.0 ∙ ap (λ t. onto (row ++ v ∷ [])
    (plain_row (drop (i + 1) columns) (if t then [] else record_of (after_cell text)))) end

pub row-full : (columns : List Column) (i : ℕ) (d k : Column) (text rest : List ℕ) (v : ℤ)
    (row : List ℤ) (is_last : Bool) → i < length columns → k ≡ get_or columns i d
    → BeginsWith k.kind text v rest is_last → is_last ≡ true → i + 1 ≡ length columns
    → onto row (plain_row (drop i columns) (record_of text)) ≡ Some (row ++ v ∷ [])
unfolding plain_row
row-full columns i d k text rest v row is_last h is b e all =
    row-last _ _ _ _ _ _ _ _ _ h is b e
    ∙ ap (λ ks. onto (row ++ v ∷ []) (plain_row ks [])) (drop_all (i + 1) columns (omega arith))
    ∙ ap Some (append-nil (row ++ v ∷ []))

pub row-short : (columns : List Column) (i : ℕ) (d k : Column) (text rest : List ℕ) (v : ℤ)
    (row : List ℤ) (is_last : Bool) → i < length columns → k ≡ get_or columns i d
    → BeginsWith k.kind text v rest is_last → is_last ≡ true → i + 1 < length columns
    → onto row (plain_row (drop i columns) (record_of text)) ≡ None
unfolding plain_row
row-short columns i d k text rest v row is_last h is b e more =
    row-last _ _ _ _ _ _ _ _ _ h is b e
    ∙ ap (λ ks. onto (row ++ v ∷ []) (plain_row ks [])) (drop_more columns (i + 1) k more)

-- a record has no row where no column is left for its cells
pub row-long : (columns : List Column) (i : ℕ) (text : List ℕ) (row : List ℤ) → length columns ≤ i
    → onto row (plain_row (drop i columns) (record_of text)) ≡ None
unfolding plain_row
row-long columns i text row h =
    ap (λ ks. onto row (plain_row ks (record_of text))) (drop_all i columns h)
    ∙ ap (λ cells. onto row (plain_row [] cells)) (record-cell text)

-- a record has no row where its first cell spells no value of its column
pub row-none : (columns : List Column) (i : ℕ) (d k : Column) (text : List ℕ) (row : List ℤ)
    → i < length columns → k ≡ get_or columns i d
    → cell_value k.kind (cell_of text) ≡ None
    → onto row (plain_row (drop i columns) (record_of text)) ≡ None
unfolding plain_row
row-none columns i d k text row h is e =
    ap (λ ks. onto row (plain_row ks (record_of text)))
    (drop_more columns i d h ∙ ap (λ x. x ∷ drop (i + 1) columns) (sym is))
    ∙ ap (λ cells. onto row (plain_row (k ∷ drop (i + 1) columns) cells)) (record-cell text)
    ∙ rw e refl

-- `BeginsWith` from the bytes of a cell and their value
pub begins-from : (k : Kind) (text bytes rest : List ℕ) (v : ℤ) (is_last : Bool)
    → bytes ≡ cell_of text → Some v ≡ cell_value k bytes
    → rest ≡ after_cell text → is_last ≡ is_last_cell text → BeginsWith k text v rest is_last
begins-from k text bytes rest v is_last b e r l = (sym (e ∙ ap (cell_value k) b), r, l)

-- a value within 32 bits is stored as it is
pub pushed-value : (rows row : List ℤ) (v : ℤ) → SFits w32 v
    → rows ≡ row ++ to_z w32 (of_z w32 v) ∷ [] → rows ≡ row ++ v ∷ []
pushed-value rows row v fits e = e ∙ ap (λ x. row ++ x ∷ []) (to_z-of_z w32 v fits)

pub after-more : (k : Kind) (text rest : List ℕ) (v : ℤ) (is_last : Bool)
    → BeginsWith k text v rest is_last → is_last ≡ false → after_line text ≡ after_line rest
after-more k text rest v is_last b e =
    let inner : is_last_cell text ≡ false = sym b.2 ∙ e in
    after-cell text ∙ ap (λ t. if t then after_cell text else after_line (after_cell text)) inner
    ∙ ap after_line (sym b.1)

pub after-last : (k : Kind) (text rest : List ℕ) (v : ℤ) (is_last : Bool)
    → BeginsWith k text v rest is_last → is_last ≡ true → rest ≡ after_line text
after-last k text rest v is_last b e =
    let end : is_last_cell text ≡ true = sym b.2 ∙ e in
    b.1 ∙ sym (after-cell text
    ∙ ap (λ t. if t then after_cell text else after_line (after_cell text)) end)

-- the result for the last cells is the result for all cells
pub tail-read : (r : Option (Bor (List ℕ))) (columns some : List Column) (i : ℕ)
    (text rest : List ℕ) (row more all : List ℤ) → some ≡ drop i columns
    → plain_row columns (record_of text) ≡ onto row (plain_row (drop i columns) (record_of rest))
    → after_line text ≡ after_line rest → all ≡ row ++ more
    → MatchOption r (plain_row some (record_of rest) ≡ None)
    (λ after. (plain_row some (record_of rest) ≡ Some more) × (after.now ≡ after_line rest))
    → MatchOption r (plain_row columns (record_of text) ≡ None)
    (λ after. (plain_row columns (record_of text) ≡ Some all) × (after.now ≡ after_line text))
tail-read None columns some i text rest row more all is cells after joined read =
    cells ∙ ap (λ ks. onto row (plain_row ks (record_of rest))) (sym is) ∙ ap (onto row) read
tail-read (Some left) columns some i text rest row more all is cells after joined read = (
  cells ∙ ap (λ ks. onto row (plain_row ks (record_of rest))) (sym is) ∙ ap (onto row) read.0
      ∙ ap Some (sym joined),
  read.1 ∙ sym after,
)

-- a row whose last cells are written
pub put-tail : (xs ys : List ℤ) (a : ℕ) → put_mid a (length xs - a) xs ys ≡ take a xs ++ ys
put-tail xs ys a =
    let none : drop (length xs - a) (drop a xs) ≡ [] =
    drop_all (length xs - a) (drop a xs) (omega (arith, length-drop a xs)) in
    ap (λ l. take a xs ++ (ys ++ l)) none ∙ ap (λ l. take a xs ++ l) (append-nil ys)
