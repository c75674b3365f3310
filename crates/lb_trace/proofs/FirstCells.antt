-- The first cell of a text, found byte by byte, and its place in its record.
use Rattle.std.proofs.Common.{ℕ, suc, ◌≡◌, ◌+◌, ◌<◌, ◌≤◌, Bool, true, false, if◌then◌else◌, List}
use Rattle.std.proofs.Common.{[], ◌∷◌, ◌++◌, ◌-◌, length, get_or, take, drop, refl, sym, ap, ◌∙◌}
use Rattle.std.proofs.Common.{arith, append_assoc}
use Rattle.std.proofs.lemmas.List.{append-nil, drop_all, drop_more, take_all, take_more, take_rest}
use Rattle.lb_trace.specs.Plain.{at_front, ends_line, is_comma, plain_records, split_at}
use Rattle.lb_trace.specs.Lines.{after_line, line_of, record_of}
use Rattle.lb_trace.specs.Scan.{after_cell, begun_records, cell_of, ends_cell, is_last_cell}
use Rattle.lb_trace.proofs.Lines.{comma-inside, plain-line, plain-none, plain-skip}

-- the first `i` bytes of `text` stand in its first cell
pub record Walked (text : List ℕ) (i : ℕ) : Type 0 where
  pub cell : cell_of text ≡ take i text ++ cell_of (drop i text)
  pub after : after_cell text ≡ after_cell (drop i text)
  pub last : is_last_cell text ≡ is_last_cell (drop i text)

pub walked-start : (text : List ℕ) → Walked text 0
walked-start text = record { cell = refl; after = refl; last = refl }

-- a text from place `i` on is the byte there, and then the text from `i + 1` on
at_place : (text : List ℕ) (i b : ℕ) → i < length text → b ≡ get_or text i 0
    → drop i text ≡ b ∷ drop (i + 1) text
at_place text i b h e = drop_more text i 0 h ∙ ap (λ x. x ∷ drop (i + 1) text) (sym e)

pub cell-more : (b : ℕ) (rest : List ℕ) → ends_cell b ≡ false
    → cell_of (b ∷ rest) ≡ b ∷ cell_of rest
unfolding cell_of
cell-more b rest e = rw e refl

pub after-cell-more : (b : ℕ) (rest : List ℕ) → ends_cell b ≡ false
    → after_cell (b ∷ rest) ≡ after_cell rest
unfolding after_cell
after-cell-more b rest e = rw e refl

pub last-more : (b : ℕ) (rest : List ℕ) → ends_cell b ≡ false
    → is_last_cell (b ∷ rest) ≡ is_last_cell rest
unfolding is_last_cell
last-more b rest e = rw e refl

pub cell-end : (b : ℕ) (rest : List ℕ) → ends_cell b ≡ true → cell_of (b ∷ rest) ≡ []
unfolding cell_of
cell-end b rest e = rw e refl

pub after-cell-end : (b : ℕ) (rest : List ℕ) → ends_cell b ≡ true → after_cell (b ∷ rest) ≡ rest
unfolding after_cell
after-cell-end b rest e = rw e refl

pub last-end : (b : ℕ) (rest : List ℕ) → ends_cell b ≡ true → is_last_cell (b ∷ rest) ≡ ends_line b
unfolding is_last_cell
last-end b rest e = rw e refl

-- one more byte that ends no cell stands in the first cell
pub walked-more : (text : List ℕ) (i b : ℕ) → i < length text → b ≡ get_or text i 0
    → ends_cell b ≡ false → Walked text i → Walked text (i + 1)
walked-more text i b h e in_cell w =
    let at = at_place text i b h e in
    let front : take (i + 1) text ≡ take i text ++ b ∷ [] =
    take_more text i 0 h ∙ ap (λ x. take i text ++ x ∷ []) (sym e) in record {
      cell = w.cell ∙ ap (λ t. take i text ++ cell_of t) at
          ∙ ap (λ t. take i text ++ t) (cell-more b (drop (i + 1) text) in_cell)
          ∙ sym (append_assoc (take i text) (b ∷ []) (cell_of (drop (i + 1) text)))
          ∙ ap (λ t. t ++ cell_of (drop (i + 1) text)) (sym front);
      after = w.after ∙ ap after_cell at ∙ after-cell-more b (drop (i + 1) text) in_cell;
      last = w.last ∙ ap is_last_cell at ∙ last-more b (drop (i + 1) text) in_cell;
    }

-- one more byte at the front, which ends no cell, stands in the first cell
pub walked-front : (b : ℕ) (rest : List ℕ) (i : ℕ) → ends_cell b ≡ false → Walked rest i
    → Walked (b ∷ rest) (suc i)
walked-front b rest i in_cell w = record {
  cell = cell-more b rest in_cell ∙ ap (λ t. b ∷ t) w.cell;
  after = after-cell-more b rest in_cell ∙ w.after;
  last = last-more b rest in_cell ∙ w.last;
}

-- the first cell of a text, the text after it, and whether it is the last, where byte `i` ends it
pub walked-end : (text : List ℕ) (i b : ℕ) → i < length text → b ≡ get_or text i 0
    → ends_cell b ≡ true → Walked text i
    → (cell_of text ≡ take i text) × (after_cell text ≡ drop (i + 1) text)
    × (is_last_cell text ≡ ends_line b)
walked-end text i b h e end w =
    let at = at_place text i b h e in (
      w.cell ∙ ap (λ t. take i text ++ cell_of t) at
          ∙ ap (λ t. take i text ++ t) (cell-end b (drop (i + 1) text) end)
          ∙ append-nil (take i text),
      w.after ∙ ap after_cell at ∙ after-cell-end b (drop (i + 1) text) end,
      w.last ∙ ap is_last_cell at ∙ last-end b (drop (i + 1) text) end,
    )

-- the first cell of a text that ends with it is the text, and is the last one
pub walked-all : (text : List ℕ) (i : ℕ) → length text ≤ i → Walked text i
    → (cell_of text ≡ text) × (after_cell text ≡ []) × (is_last_cell text ≡ true)
unfolding cell_of after_cell is_last_cell
walked-all text i h w =
    let none = drop_all i text h in (
      w.cell ∙ ap (λ t. take i text ++ cell_of t) none ∙ append-nil (take i text)
          ∙ take_all i text h,
      w.after ∙ ap after_cell none,
      w.last ∙ ap is_last_cell none,
    )

-- a record is its first cell, and then the cells of the record of the text after that cell
pub record-cell : (text : List ℕ)
    → record_of text ≡ cell_of text
    ∷ (if is_last_cell text then [] else record_of (after_cell text))
unfolding cell_of after_cell is_last_cell line_of split_at
record-cell [] = refl
record-cell (b ∷ rest) = by (is_comma b) refl (ends_line b) refl (record-cell rest)
  where
    by : (comma : Bool) → is_comma b ≡ comma → (end : Bool) → ends_line b ≡ end
        → record_of rest ≡ cell_of rest
        ∷ (if is_last_cell rest then [] else record_of (after_cell rest))
        → record_of (b ∷ rest) ≡ cell_of (b ∷ rest)
        ∷ (if is_last_cell (b ∷ rest) then [] else record_of (after_cell (b ∷ rest)))
    by true comma end is more =
        let within = comma-inside b comma in rw (within, comma) refl
    by false comma true is more = rw (is, comma) refl
    by false comma false is more = rw (is, comma) (ap (at_front b) more)

pub after-cell : (text : List ℕ)
    → after_line text ≡ (if is_last_cell text then after_cell text else after_line
    (after_cell text))
unfolding after_line after_cell is_last_cell
after-cell [] = refl
after-cell (b ∷ rest) = by (is_comma b) refl (ends_line b) refl (after-cell rest)
  where
    by : (comma : Bool) → is_comma b ≡ comma → (end : Bool) → ends_line b ≡ end
        → after_line rest ≡ (if is_last_cell rest then after_cell rest else after_line
        (after_cell rest))
        → after_line (b ∷ rest) ≡ (if is_last_cell (b ∷ rest) then after_cell (b ∷ rest) else
        after_line (after_cell (b ∷ rest)))
    by true comma end is more =
        let within = comma-inside b comma in rw (within, comma) refl
    by false comma true is more = rw (is, comma) refl
    by false comma false is more = rw (is, comma) more

-- if `drop i text` has the records of `text` and byte `i` ends a line, `drop (i + 1) text` has them
pub skipped-more : (text : List ℕ) (i b : ℕ) → i < length text → b ≡ get_or text i 0
    → ends_line b ≡ true
    → plain_records text ≡ plain_records (drop i text)
    → plain_records text ≡ plain_records (drop (i + 1) text)
skipped-more text i b h e end so_far =
    so_far ∙ ap plain_records (at_place text i b h e) ∙ plain-skip b (drop (i + 1) text) end

pub skipped-to : (text : List ℕ) (i b : ℕ) → i < length text → b ≡ get_or text i 0
    → ends_line b ≡ false
    → plain_records text ≡ plain_records (drop i text)
    → plain_records text ≡ begun_records (drop i text)
skipped-to text i b h e in_line so_far =
    so_far ∙ ap plain_records (at_place text i b h e) ∙ plain-line b (drop (i + 1) text) in_line
    ∙ ap begun_records (sym (at_place text i b h e))

pub skipped-all : (text : List ℕ) (i : ℕ) → length text ≤ i
    → plain_records text ≡ plain_records (drop i text) → plain_records text ≡ []
skipped-all text i h so_far = so_far ∙ ap plain_records (drop_all i text h) ∙ plain-none

-- the first cell of `text`, the text after it, and whether it is the last one of its record
pub record IsFirst (text bytes rest : List ℕ) (is_last : Bool) : Type 0 where
  pub same_bytes : bytes ≡ cell_of text
  pub same_rest : rest ≡ after_cell text
  pub same_last : is_last ≡ is_last_cell text

pub first-record : (text bytes rest : List ℕ) (is_last : Bool) → IsFirst text bytes rest is_last
    → record_of text ≡ bytes ∷ (if is_last then [] else record_of rest)
first-record text bytes rest is_last f =
    rw (f.same_bytes, f.same_rest, f.same_last) (record-cell text)

pub first-after : (text bytes rest : List ℕ) (is_last : Bool) → IsFirst text bytes rest is_last
    → after_line text ≡ (if is_last then rest else after_line rest)
first-after text bytes rest is_last f = rw (f.same_rest, f.same_last) (after-cell text)

-- the first cell, as slices give it, where the byte at place `i` ends it
pub first-ended : (text : List ℕ) (i b : ℕ) (is_last : Bool) → i < length text → b ≡ get_or text i 0
    → (ends_cell b ≡ true) × (is_last ≡ ends_line b)
    → Walked text i → IsFirst text (take i text) (take (length text - (i + 1)) (drop (i + 1) text))
    is_last
first-ended text i b is_last h e end w =
    let at = walked-end text i b h e end.0 w in
    record {
      same_bytes = sym at.0;
      same_rest =
          take_rest text (i + 1) ∙ sym at.1;
      same_last = end.1 ∙ sym at.2;
    }

pub first-all : (text : List ℕ) (i : ℕ) → length text ≤ i → Walked text i
    → IsFirst text text (take (length text - length text) (drop (length text) text)) true
first-all text i h w =
    let at = walked-all text i h w in
    record {
      same_bytes = sym at.0;
      same_rest = take_rest text (length text)
          ∙ drop_all (length text) text (omega arith) ∙ sym at.1;
      same_last = sym at.2;
    }
