-- The rows that integers and words hold, after more rows and after a row that was pushed.
use Rattle.std.proofs.Common.{ℕ, zero, suc, ◌≡◌, ◌+◌, ◌-◌, ◌*◌, ◌/◌, ◌%◌, ◌<◌, ◌≤◌, ◌==◌}
use Rattle.std.proofs.Common.{false, ◌⊎◌, inl, inr, List, [], ◌∷◌, ◌++◌, ℤ, pos, length, get_or}
use Rattle.std.proofs.Common.{drop, refl, sym, ap, ap₂, ◌∙◌, subst, arith, below_more}
use Rattle.std.proofs.Common.{length-append}
use Rattle.std.proofs.lemmas.List.{get_or_append_left, get_or-append-add, get_or-drop, get_or-map}
use Rattle.std.proofs.lemmas.Bool.{cases_lt}
use Rattle.std.proofs.lemmas.List.{same_lists, length-map, get_or_default}
use Rattle.std.specs.Prelude.{int_le}
use Rattle.std.specs.Int.{bit_at}
use Rattle.std.proofs.lemmas.Simd.{get_or-zip2}
use Rattle.lb_syntax.specs.declared.tree.Kind.{Kind}
use Rattle.lb_syntax.specs.declared.tree.Kind.TheVariants.{Int as Int_kind, Bool as Bool_kind}
use Rattle.lb_syntax.specs.Lists.{zip2}
use Rattle.lb_static.specs.Signature.{Element, Elements, kinds_of}
use Rattle.lb_traces.specs.Traces.{Row, IsRow, IsCell}
use Rattle.lb_traces.specs.Stored.{row_of}
use Rattle.lb_traces.specs.Packed.{truth_columns, number_columns, places_from, words_of_row, bit_in}
use Rattle.lb_traces.specs.Packed.{truth_in, ArePacked, numbers_in, truth_cell, cell_held, row_held}
use Rattle.lb_traces.specs.Packed.{numbers_of, words_of, nth_row, cells_held, AreFilled}
use Rattle.lb_traces.proofs.KindColumns.{length-places, int_place, bool_place, rows_agree}
use Rattle.lb_traces.proofs.StoredRows.{row_of-append, row_of-grown, row_within}
use Rattle.lb_traces.proofs.Storing.{length-row}

pub length-zip2 : {A B C : Type 0} (f : A → B → C) (n : ℕ) (xs : List A) (ys : List B) →
    length xs ≡ n → length ys ≡ n → length (zip2 f xs ys) ≡ n
length-zip2 f n [] ys p q = p
length-zip2 f n (x ∷ xs) [] p q = q
length-zip2 f zero (x ∷ xs) (y ∷ ys) p q = absurd (omega arith)
length-zip2 f (suc n) (x ∷ xs) (y ∷ ys) p q =
    ap suc (length-zip2 f n xs ys (omega arith) (omega arith))

pub length-kinds : (elements : Elements) → length (kinds_of elements) ≡ length elements
length-kinds elements = length-map elements (λ (e : Element). e.1)

-- ## One row

pub length-row_held :
    (kinds : List Kind) (numbers : List ℤ) (words : List ℕ) →
    length (row_held kinds numbers words) ≡ length kinds
length-row_held kinds numbers words =
    length-zip2 (cell_held numbers words) (length kinds) kinds (places_from 0 0 kinds) refl
    (length-places 0 0 kinds)

-- a cell of a row is the one that is held by the kind and the place of its column
pub cell_of_row :
    (kinds : List Kind) (numbers : List ℤ) (words : List ℕ) (c : ℕ) (d : ℤ) → c < length kinds →
    get_or (row_held kinds numbers words) c d
    ≡ cell_held numbers words (get_or kinds c Int_kind) (get_or (places_from 0 0 kinds) c 0)
cell_of_row kinds numbers words c d l =
    get_or-zip2 (cell_held numbers words) kinds (places_from 0 0 kinds) c Int_kind 0 d l
    (omega (arith, l, length-places 0 0 kinds))

-- the same integers and words hold the same row
pub same_held :
    (kinds : List Kind) (n n' : List ℤ) (w w' : List ℕ) →
    ((p : ℕ) → p < numbers_of kinds → get_or n p (pos 0) ≡ get_or n' p (pos 0)) →
    ((g : ℕ) → g < words_of kinds → get_or w g 0 ≡ get_or w' g 0) →
    row_held kinds n w ≡ row_held kinds n' w'
same_held kinds n n' w w' ints words =
    rows_agree 0 0 0 kinds (cell_held n w) (cell_held n' w') (λ p l. ints p (omega (arith, l)))
    (λ p l.
    let inside : p / 64 < words_of_row (length (truth_columns 0 kinds)) = omega (arith, l) in
    ap (λ x. truth_cell (bit_at x (p % 64) == 1)) (words (p / 64) inside))

-- a place of a row stays as it is when more is appended
kept_at :
    {A : Type 0} (xs more : List A) (width rows r p : ℕ) (d : A) → length xs ≡ rows * width →
    r < rows → p < width →
    get_or (drop (r * width) (xs ++ more)) p d ≡ get_or (drop (r * width) xs) p d
kept_at xs more width rows r p d long l lp =
    let inside : r * width + p < length xs = omega (arith, row_within width r rows l, long, lp) in
    get_or-drop (r * width) (xs ++ more) p d
    ∙ get_or_append_left xs more d (r * width + p) inside
    ∙ sym (get_or-drop (r * width) xs p d)

-- the places of the rows behind `rows` are those of what is appended
come_at :
    {A : Type 0} (xs more : List A) (width rows j p : ℕ) (d : A) → length xs ≡ rows * width →
    get_or (drop ((rows + j) * width) (xs ++ more)) p d ≡ get_or (drop (j * width) more) p d
come_at xs more width rows j p d long =
    let there : (rows + j) * width + p ≡ length xs + (j * width + p) = omega (arith, long) in
    get_or-drop ((rows + j) * width) (xs ++ more) p d
    ∙ ap (λ k. get_or (xs ++ more) k d) there
    ∙ get_or-append-add xs more (j * width + p) d
    ∙ sym (get_or-drop (j * width) more p d)

module _ (kinds : List Kind) (rows : ℕ) (numbers : List ℤ) (words : List ℕ)
    (h : AreFilled kinds rows numbers words) (more : List ℤ) (more_words : List ℕ) where
  -- a row stays as it is when more integers and words are appended
  pub row_kept : (r : ℕ) → r < rows →
      nth_row kinds (numbers ++ more) (words ++ more_words) r ≡ nth_row kinds numbers words r
  row_kept r l =
      same_held _ _ _ _ _
      (λ p lp. kept_at numbers more (numbers_of kinds) rows r p (pos 0) h.numbers_long l lp)
      (λ g lg. kept_at words more_words (words_of kinds) rows r g 0 h.words_long l lg)

  -- the rows behind `rows` are those of the integers and words that are appended
  pub row_come : (j : ℕ) →
      nth_row kinds (numbers ++ more) (words ++ more_words) (rows + j)
      ≡ nth_row kinds more more_words j
  row_come j =
      same_held _ _ _ _ _
      (λ p lp. come_at numbers more (numbers_of kinds) rows j p (pos 0) h.numbers_long)
      (λ g lg. come_at words more_words (words_of kinds) rows j g 0 h.words_long)

-- ## The row that was pushed

bit_cell : (v : ℤ) → IsCell Bool_kind v → truth_cell (int_le (pos 1) v) ≡ v
bit_cell v (inl e) = ap (λ x. truth_cell (int_le (pos 1) x)) e ∙ sym e
bit_cell v (inr e) = ap (λ x. truth_cell (int_le (pos 1) x)) e ∙ sym e

-- a Boolean of a lawful row is 0 or 1
pub lawful_cell :
    (elements : Elements) (row : Row) (c : ℕ) → IsRow elements row → c < length row →
    get_or (kinds_of elements) c Int_kind ≡ Bool_kind → IsCell Bool_kind (get_or row c (pos 0))
lawful_cell [] [] c h l is = absurd (omega (arith, l))
lawful_cell [] (v ∷ row) c h l is = absurd h
lawful_cell (e ∷ elements) [] c h l is = absurd h
lawful_cell (e ∷ elements) (v ∷ row) zero h l is = subst (λ k. IsCell k v) is h.0
lawful_cell (e ∷ elements) (v ∷ row) (suc c) h l is =
    lawful_cell elements row c h.1 (omega (arith, l)) is

module _ (elements : Elements) (row : Row) (follows : IsRow elements row) (words : List ℕ)
    (packed : ArePacked row (truth_columns 0 (kinds_of elements)) words) where
  abbrev kinds : List Kind
  kinds = kinds_of elements

  abbrev numbers : List ℤ
  numbers = numbers_in row (number_columns 0 (kinds_of elements))

  full : length row ≡ length (kinds_of elements)
  full = length-row elements row follows ∙ sym (length-kinds elements)

  -- the integer that is held for a column is that of the row
  integer_at : (c : ℕ) → c < length kinds → get_or kinds c Int_kind ≡ Int_kind →
      cell_held numbers words Int_kind (get_or (places_from 0 0 kinds) c 0) ≡ get_or row c (pos 0)
  integer_at c l is =
      let h = int_place 0 0 0 kinds c l is in
      let place : get_or (places_from 0 0 kinds) c 0 ≡ h.number = h.place ∙ omega arith in
      let column : get_or (number_columns 0 kinds) h.number 0 ≡ c = h.is ∙ omega arith in
      ap (λ p. get_or numbers p (pos 0)) place
      ∙ get_or-map (λ (j : ℕ). get_or row j (pos 0)) (number_columns 0 kinds) h.number 0 (pos 0)
      h.below
      ∙ ap (λ j. get_or row j (pos 0)) column

  -- the Boolean that is held for a column is that of the row
  truth_at : (c : ℕ) → c < length kinds → get_or kinds c Int_kind ≡ Bool_kind →
      cell_held numbers words Bool_kind (get_or (places_from 0 0 kinds) c 0) ≡ get_or row c (pos 0)
  truth_at c l is =
      let h = bool_place 0 0 0 kinds c l is in
      let place : get_or (places_from 0 0 kinds) c 0 ≡ h.number = h.place ∙ omega arith in
      let column : get_or (truth_columns 0 kinds) h.number (length row) ≡ c =
      get_or_default (truth_columns 0 kinds) h.number (length row) 0 h.below ∙ h.is
      ∙ omega arith in
      let whole : 64 * (h.number / 64) + h.number % 64 ≡ h.number = omega arith in
      let inside : h.number / 64 < length words = omega (arith, h.below, packed.as_long) in
      let small : h.number % 64 < 64 = omega arith in
      ap (λ p. truth_cell (bit_in words p)) place
      ∙ ap truth_cell
      (packed.bits (h.number / 64) (h.number % 64) inside small
      ∙ ap (truth_in row (truth_columns 0 kinds)) whole
      ∙ ap (λ j. int_le (pos 1) (get_or row j (pos 0))) column)
      ∙ bit_cell (get_or row c (pos 0))
      (lawful_cell elements row c follows (omega (arith, l, full)) is)

  by_kind : (c : ℕ) → c < length kinds → (k : Kind) → get_or kinds c Int_kind ≡ k →
      cell_held numbers words (get_or kinds c Int_kind) (get_or (places_from 0 0 kinds) c 0)
      ≡ get_or row c (pos 0)
  by_kind c l Int_kind is =
      ap (λ k. cell_held numbers words k (get_or (places_from 0 0 kinds) c 0)) is
      ∙ integer_at c l is
  by_kind c l Bool_kind is =
      ap (λ k. cell_held numbers words k (get_or (places_from 0 0 kinds) c 0)) is
      ∙ truth_at c l is

  pub row_pushed : row_held (kinds_of elements)
      (numbers_in row (number_columns 0 (kinds_of elements))) words ≡ row
  row_pushed =
      let long : length (row_held kinds numbers words) ≡ length kinds =
      length-row_held kinds numbers words in
      same_lists (row_held kinds numbers words) row (long ∙ sym full)
      (λ c d l.
      let below : c < length kinds = omega (arith, l, long) in
      cell_of_row _ _ _ _ _ below ∙ by_kind c below (get_or kinds c Int_kind) refl
      ∙ get_or_default row c (pos 0) d (omega (arith, below, full)))

-- ## All cells

pub length-cells :
    (kinds : List Kind) (numbers : List ℤ) (words : List ℕ) (n : ℕ) →
    length (cells_held kinds numbers words n) ≡ n * length kinds
length-cells kinds numbers words zero = let e : 0 ≡ 0 * length kinds = omega arith in e
length-cells kinds numbers words (suc n) =
    let sum = length-append (cells_held kinds numbers words n) (nth_row kinds numbers words n) in
    let last : length (nth_row kinds numbers words n) ≡ length kinds =
    length-row_held kinds (drop (n * numbers_of kinds) numbers) (drop (n * words_of kinds) words) in
    let e : n * length kinds + length kinds ≡ suc n * length kinds = omega arith in
    sum ∙ ap₂ (λ a b. a + b) (length-cells kinds numbers words n) last ∙ e

-- two sets of rows have the same cells where each row is the same
pub same_cells :
    (kinds : List Kind) (n n' : List ℤ) (w w' : List ℕ) (rows : ℕ) →
    ((r : ℕ) → r < rows → nth_row kinds n w r ≡ nth_row kinds n' w' r) →
    cells_held kinds n w rows ≡ cells_held kinds n' w' rows
same_cells kinds n n' w w' zero same = refl
same_cells kinds n n' w w' (suc rows) same =
    ap₂ (λ a b. a ++ b)
    (same_cells kinds n n' w w' rows (λ r l. same r (omega (arith, l))))
    (same rows (omega arith))

-- row number `r` of all cells is `nth_row`
pub row_of-held :
    (kinds : List Kind) (numbers : List ℤ) (words : List ℕ) (n r : ℕ) → r < n →
    row_of (length kinds) (cells_held kinds numbers words n) r ≡ nth_row kinds numbers words r
row_of-held kinds numbers words zero r l = absurd (omega (arith, l))
row_of-held kinds numbers words (suc n) r l =
    let all : length (cells_held kinds numbers words n) ≡ n * length kinds =
    length-cells kinds numbers words n in
    below_more
    (λ k.
    row_of (length kinds) (cells_held kinds numbers words (suc n)) k
    ≡ nth_row kinds numbers words k) n
    (λ k m.
    row_of-append (length kinds) (cells_held kinds numbers words n)
    (nth_row kinds numbers words n) k (omega (arith, row_within (length kinds) k n m, all))
    ∙ row_of-held kinds numbers words n k m)
    (row_of-grown (length kinds) (cells_held kinds numbers words n)
    (nth_row kinds numbers words n) n (sym all)
    (length-row_held kinds (drop (n * numbers_of kinds) numbers)
    (drop (n * words_of kinds) words)))
    r (omega (arith, l))

-- the cells after one more row are the cells before it and then the row
pub cells_more :
    (kinds : List Kind) (rows : ℕ) (numbers more : List ℤ) (words more_words : List ℕ)
    (row : Row) → AreFilled kinds rows numbers words → row_held kinds more more_words ≡ row →
    cells_held kinds (numbers ++ more) (words ++ more_words) (rows + 1)
    ≡ cells_held kinds numbers words rows ++ row
cells_more kinds rows numbers more words more_words row h is =
    let next : rows + 1 ≡ suc rows = omega arith in
    let last : rows ≡ rows + 0 = omega arith in
    let none : 0 * numbers_of kinds ≡ 0 = omega arith in
    let none_words : 0 * words_of kinds ≡ 0 = omega arith in
    ap (cells_held kinds (numbers ++ more) (words ++ more_words)) next
    ∙ ap₂ (λ a b. a ++ b)
    (same_cells _ _ _ _ _ _ (row_kept kinds rows numbers words h more more_words))
    (ap (nth_row kinds (numbers ++ more) (words ++ more_words)) last
    ∙ row_come kinds rows numbers words h more more_words 0
    ∙ ap₂ (λ a b. row_held kinds (drop a more) (drop b more_words)) none none_words
    ∙ is)

-- ## The bits past the Booleans

module _ (kinds : List Kind) (rows : ℕ) (numbers : List ℤ) (words : List ℕ)
    (h : AreFilled kinds rows numbers words) (more : List ℤ) (more_words : List ℕ) (n : ℕ)
    (long : length more ≡ n * numbers_of kinds)
    (long_words : length more_words ≡ n * words_of kinds)
    (past : (r b : ℕ) → r < n → length (truth_columns 0 kinds) ≤ b → b < 64 * words_of kinds →
    bit_in (drop (r * words_of kinds) more_words) b ≡ false) where
  -- integers and words stay filled when `n` more rows are appended
  pub filled_more : AreFilled kinds (rows + n) (numbers ++ more) (words ++ more_words)
  filled_more = record {
    numbers_long =
        length-append numbers more ∙ ap₂ (λ a b. a + b) h.numbers_long long
        ∙ (let e : rows * numbers_of kinds + n * numbers_of kinds ≡ (rows + n) * numbers_of kinds =
        omega arith in e);
    words_long =
        length-append words more_words ∙ ap₂ (λ a b. a + b) h.words_long long_words
        ∙ (let e : rows * words_of kinds + n * words_of kinds ≡ (rows + n) * words_of kinds =
        omega arith in e);
    past = λ r b l le lb. by r b l le lb (cases_lt r rows);
  }
    where
      by : (r b : ℕ) → r < rows + n → length (truth_columns 0 kinds) ≤ b → b < 64 * words_of kinds →
          (r < rows) ⊎ (rows ≤ r) →
          bit_in (drop (r * words_of kinds) (words ++ more_words)) b ≡ false
      by r b l le lb (inl m) =
          let g : b / 64 < words_of kinds = omega (arith, lb) in
          ap (λ x. bit_at x (b % 64) == 1)
          (kept_at words more_words (words_of kinds) rows r (b / 64) 0 h.words_long m g)
          ∙ h.past r b m le lb
      by r b l le lb (inr m) =
          let at : r ≡ rows + (r - rows) = omega (arith, m) in
          ap (λ k. bit_in (drop (k * words_of kinds) (words ++ more_words)) b) at
          ∙ ap (λ x. bit_at x (b % 64) == 1)
          (come_at words more_words (words_of kinds) rows (r - rows) (b / 64) 0 h.words_long)
          ∙ past (r - rows) b (omega (arith, l, m)) le lb
