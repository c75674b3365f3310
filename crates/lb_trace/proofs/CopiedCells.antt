-- The copy of the cells of a record, one cell after the other.
use Rattle.std.proofs.Common.{ℕ, ◌≡◌, ◌<◌, Bool, true, false, if◌then◌else◌, List, []}
use Rattle.std.proofs.Common.{◌∷◌}
use Rattle.std.proofs.Common.{◌++◌, length, refl, sym, ap, ◌∙◌, arith, append_assoc}
use Rattle.lb_trace.specs.Lines.{after_line, record_of}
use Rattle.lb_trace.specs.Scan.{after_cell, ends_cell, is_last_cell}
use Rattle.lb_trace.specs.Spelling.{Record}

-- the text after a first cell that is not the last one of its record is shorter
after-shorter : (text : List ℕ) → is_last_cell text ≡ false → length (after_cell text) < length text
unfolding after_cell is_last_cell
after-shorter [] inner = cc inner
after-shorter (b ∷ rest) inner = by (ends_cell b) refl (after-shorter rest) inner
  where
    by : (e : Bool) → ends_cell b ≡ e →
        (is_last_cell rest ≡ false → length (after_cell rest) < length rest) →
        is_last_cell (b ∷ rest) ≡ false → length (after_cell (b ∷ rest)) < length (b ∷ rest)
    by true e more inner = rw e (omega arith)
    by false e more inner =
        let less = more (rw e at inner) in rw e (omega arith)

-- `after-shorter` for a cell whose `rest` and `is_last` were found
pub shorter-rest :
    (text rest : List ℕ) (is_last : Bool) → rest ≡ after_cell text → is_last ≡ is_last_cell text →
    is_last ≡ false → length rest < length text
shorter-rest text rest is_last after last inner =
    rw after (after-shorter text (sym last ∙ inner))

-- the record is copied whole with its last cell
pub cells-last :
    (copied : Record) (text : List ℕ) (bytes pushed : List ℕ) (rest : Record) (next : Record)
    (is_last : Bool) →
    record_of text ≡ bytes ∷ (if is_last then [] else rest) → is_last ≡ true →
    pushed ≡ bytes → next ≡ copied ++ (pushed ∷ []) →
    copied ++ record_of text ≡ next
cells-last copied text bytes pushed rest next is_last first last same more =
    ap (λ cells. copied ++ cells) (first ∙ ap (λ t. bytes ∷ (if t then [] else rest)) last)
    ∙ ap (λ cell. copied ++ (cell ∷ [])) (sym same) ∙ sym more

-- where the cell that is copied is not the last one, the rest of the record is left to copy
pub cells-more :
    (copied : Record) (text : List ℕ) (bytes pushed : List ℕ) (rest : Record) (next : Record)
    (is_last : Bool) →
    record_of text ≡ bytes ∷ (if is_last then [] else rest) → is_last ≡ false →
    pushed ≡ bytes → next ≡ copied ++ (pushed ∷ []) →
    copied ++ record_of text ≡ next ++ rest
cells-more copied text bytes pushed rest next is_last first inner same more =
    ap (λ cells. copied ++ cells) (first ∙ ap (λ t. bytes ∷ (if t then [] else rest)) inner)
    ∙ ap (λ cell. copied ++ (cell ∷ rest)) (sym same)
    ∙ sym (append_assoc copied (pushed ∷ []) rest)
    ∙ ap (λ cells. cells ++ rest) (sym more)

-- the text after the line is `rest` where the first cell is its last one
pub line-last :
    (text rest : List ℕ) (is_last : Bool) →
    after_line text ≡ (if is_last then rest else after_line rest) → is_last ≡ true →
    after_line text ≡ rest
line-last text rest is_last after last =
    after ∙ ap (λ t. if t then rest else after_line rest) last

-- the text after the line is the text after the line of `rest` where the first cell is not its last
pub line-more :
    (text rest : List ℕ) (is_last : Bool) →
    after_line text ≡ (if is_last then rest else after_line rest) → is_last ≡ false →
    after_line text ≡ after_line rest
line-more text rest is_last after inner =
    after ∙ ap (λ t. if t then rest else after_line rest) inner
