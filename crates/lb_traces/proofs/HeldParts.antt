-- A row whose integers and whose Booleans, as the bits of one word, lie in memory.
use Rattle.std.proofs.Common.{ℕ, zero, suc, ◌≡◌, ◌+◌, ◌*◌, ◌/◌, ◌%◌, ◌^◌, ◌<◌, ◌≤◌, ◌==◌}
use Rattle.std.proofs.Common.{List, [], ◌∷◌, ◌++◌, ℤ, pos, length, get_or, set, take, refl}
use Rattle.std.proofs.Common.{sym, ap, ap₂, ◌∙◌, ⊎_elim, All, arith, subst}
use Rattle.std.proofs.lemmas.Bool.{cases_lt}
use Rattle.std.proofs.lemmas.Int.{ints}
use Rattle.std.proofs.lemmas.List.{get_or-map, get_or_default, get_or_past, length-map, same_lists}
use Rattle.std.proofs.lemmas.Nat.Bits.{bit_at_above}
use Rattle.std.specs.Prelude.{int_le}
use Rattle.std.specs.Int.{bit_at}
use Rattle.lb_syntax.specs.declared.tree.Kind.{Kind}
use Rattle.lb_syntax.specs.declared.tree.Kind.TheVariants.{Int as Int_kind, Bool as Bool_kind}
use Rattle.lb_syntax.specs.Lists.{zip2}
use Rattle.lb_static.specs.Signature.{Elements, kinds_of}
use Rattle.lb_traces.specs.Ledger.{last_place}
use Rattle.lb_traces.specs.Packed.{HasPushed, IsSet, bit_in, cell_held, cells_of, number_columns}
use Rattle.lb_traces.specs.Packed.{numbers_in, numbers_of, places_from, row_held}
use Rattle.lb_traces.specs.Packed.{truth_columns, truth_in, words_of_row}
use Rattle.lb_traces.specs.Stored.{stored}
use Rattle.lb_traces.specs.Traces.{HasRoom, IsInt, IsRow, Recording, Row, last_rows, with_row}
use Rattle.lb_traces.proofs.AddedRows.{Changed, set_pushed}
use Rattle.lb_traces.proofs.BitRows.{cell_truth, lawful-bit}
use Rattle.lb_traces.proofs.HeldRows.{cell_of_row}
use Rattle.lb_traces.proofs.KindColumns.{bool_column, int_column}
use Rattle.lb_traces.proofs.PackedRows.{no_truth}

-- ## The row follows the signature

-- integers are integers at each place, since past the last one stands 0
int-at : (numbers : List ℤ) → All IsInt numbers → (p : ℕ) → IsInt (get_or numbers p (pos 0))
int-at numbers all p =
    ⊎_elim (λ (l : p < length numbers). all p (pos 0) l)
    (λ (le : length numbers ≤ p).
    subst IsInt (sym (get_or_past numbers p (pos 0) le)) (omega (arith, ints), omega (arith, ints)))
    (cases_lt p (length numbers))

-- the cells are lawful, where `u` integers and `v` Booleans stand before the first one
follows-from : (elements : Elements) (numbers : List ℤ) (words : List ℕ) (u v : ℕ) →
    All IsInt numbers →
    IsRow elements
    (zip2 (cell_held numbers words) (kinds_of elements) (places_from u v (kinds_of elements)))
follows-from [] numbers words u v all = tt
follows-from ((name, Int_kind) ∷ elements) numbers words u v all =
    (int-at numbers all u, follows-from elements numbers words (suc u) v all)
follows-from ((name, Bool_kind) ∷ elements) numbers words u v all =
    (lawful-bit (bit_in words v), follows-from elements numbers words u (suc v) all)

-- the row follows the signature
pub held-follows : (elements : Elements) (numbers : List ℤ) (words : List ℕ) → All IsInt numbers →
    IsRow elements (row_held (kinds_of elements) numbers words)
held-follows elements numbers words all = follows-from elements numbers words 0 0 all

-- ## Its integers

-- an integer of the row is the one that lies in memory
number-at : (kinds : List Kind) (numbers : List ℤ) (words : List ℕ) (w : ℕ) →
    w < numbers_of kinds →
    get_or (row_held kinds numbers words) (get_or (number_columns 0 kinds) w 0) (pos 0)
    ≡ get_or numbers w (pos 0)
number-at kinds numbers words w l =
    let h = int_column 0 0 0 kinds w l in
    let column : get_or (number_columns 0 kinds) w 0 ≡ h.column = h.is ∙ omega arith in
    let place : get_or (places_from 0 0 kinds) h.column 0 ≡ w = h.place ∙ omega arith in
    ap (λ c. get_or (row_held kinds numbers words) c (pos 0)) column
    ∙ cell_of_row kinds numbers words h.column (pos 0) h.below
    ∙ ap₂ (cell_held numbers words) h.kind place

-- the integers of the row are those that lie in memory
pub numbers-held : (kinds : List Kind) (numbers : List ℤ) (words : List ℕ) →
    length numbers ≡ numbers_of kinds →
    numbers_in (row_held kinds numbers words) (number_columns 0 kinds) ≡ numbers
numbers-held kinds numbers words long =
    let row = row_held kinds numbers words in
    let columns = number_columns 0 kinds in
    let count : length (numbers_in row columns) ≡ length columns =
    length-map columns (λ (j : ℕ). get_or row j (pos 0)) in
    same_lists (numbers_in row columns) numbers (count ∙ sym long)
    (λ w d l.
    let below : w < length columns = omega (arith, l, count) in
    let inside : w < length numbers = omega (arith, below, long) in
    get_or_default (numbers_in row columns) w d (pos 0) l
    ∙ get_or-map (λ (j : ℕ). get_or row j (pos 0)) columns w 0 (pos 0) below
    ∙ number-at kinds numbers words w below
    ∙ get_or_default numbers w (pos 0) d inside)

-- ## Its Booleans

module _ (kinds : List Kind) (numbers : List ℤ) (word : ℕ)
    (few : length (truth_columns 0 kinds) ≤ 64)
    (small : word < 2 ^ length (truth_columns 0 kinds)) where
  abbrev columns : List ℕ
  columns = truth_columns 0 kinds

  abbrev row : Row
  row = row_held kinds numbers (word ∷ [])

  -- a Boolean of one word is a bit of it
  bit-of : (b : ℕ) → b < 64 → bit_in (word ∷ []) b ≡ (bit_at word b == 1)
  bit-of b l =
      let first : b / 64 ≡ 0 = omega (arith, l) in
      let same : b % 64 ≡ b = omega (arith, l) in
      ap₂ (λ g i. bit_at (get_or (word ∷ []) g 0) i == 1) first same

  -- a bit of the word is a Boolean of the row
  bit-inside : (b : ℕ) → b < length columns → (bit_at word b == 1) ≡ truth_in row columns b
  bit-inside b l =
      let h = bool_column 0 0 0 kinds b l in
      let column : get_or columns b (length row) ≡ h.column =
      get_or_default columns b (length row) 0 l ∙ h.is ∙ omega arith in
      let place : get_or (places_from 0 0 kinds) h.column 0 ≡ b = h.place ∙ omega arith in
      sym (ap (λ c. int_le (pos 1) (get_or row c (pos 0))) column
      ∙ ap (int_le (pos 1))
      (cell_of_row kinds numbers (word ∷ []) h.column (pos 0) h.below
      ∙ ap₂ (cell_held numbers (word ∷ [])) h.kind place)
      ∙ cell_truth (bit_in (word ∷ []) b)
      ∙ bit-of b (omega (arith, l, few)))

  -- a bit past the last Boolean is 0, as the row has no Boolean there
  bit-past : (b : ℕ) → length columns ≤ b → (bit_at word b == 1) ≡ truth_in row columns b
  bit-past b le =
      ap (λ n. n == 1) (bit_at_above word (length columns) b small le)
      ∙ sym (no_truth row columns b le)

  -- so each bit of the word is as the row says
  bit-is : (b : ℕ) → (bit_at word b == 1) ≡ truth_in row columns b
  bit-is b =
      ⊎_elim (λ (l : b < length columns). bit-inside b l)
      (λ (le : length columns ≤ b). bit-past b le) (cases_lt b (length columns))

  -- one word is taken whole
  one-word : (n : ℕ) → take (suc n) (word ∷ []) ≡ word ∷ []
  one-word zero = refl
  one-word (suc n) = refl

  -- the row has no word if it has no Booleans, and one otherwise
  as-long : (n : ℕ) → n ≤ 64 → length (take n (word ∷ [])) ≡ words_of_row n
  as-long zero le = refl
  as-long (suc n) le =
      let one : 1 ≡ words_of_row (suc n) = omega (arith, le) in
      ap length (one-word n) ∙ one

  -- each word of the row is the first one, which is `word`
  first-word : (n g : ℕ) → g < length (take n (word ∷ [])) →
      (g ≡ 0) × (get_or (take n (word ∷ [])) g 0 ≡ word)
  first-word zero g l = absurd (omega (arith, l))
  first-word (suc n) zero l = (refl, refl)
  first-word (suc n) (suc g) l = absurd (omega (arith, l, ap length (one-word n)))

  -- the word is pushed if there are Booleans
  pub word-held : (old truths : List ℕ) → truths ≡ truth_columns 0 kinds →
      HasPushed old (row_held kinds numbers (word ∷ [])) truths
      (old ++ take (length truths) (word ∷ []))
  word-held old truths truths_are = record {
    more = take (length truths) (word ∷ []);
    is = refl;
    packed = record {
      as_long =
          let count : length truths ≡ length columns = ap length truths_are in
          as-long (length truths) (omega (arith, count, few));
      bits = λ g i l m.
          let first = first-word (length truths) g l in
          let place : i ≡ 64 * g + i = omega (arith, first.0) in
          ap (λ w. bit_at w i == 1) first.1
          ∙ bit-is i
          ∙ ap (truth_in row columns) place
          ∙ ap (λ ts. truth_in row ts (64 * g + i)) (sym truths_are);
    };
  }

-- ## The set

-- a set with the integers and the Booleans of a row has that row at the end of the last trace
pub held-pushed :
    (old : Recording) (elements : Elements) (names : List (List ℕ)) (numbers : List ℤ)
    (words ends integers truths places : List ℕ) (more : List ℤ) (word last : ℕ) →
    stored elements names (cells_of elements numbers words ends) ends ≡ old →
    IsSet elements names numbers words ends integers truths places →
    0 < length old.traces → All IsInt more → length more ≡ numbers_of (kinds_of old.signature) →
    length (truth_columns 0 (kinds_of old.signature)) ≤ 64 →
    word < 2 ^ length (truth_columns 0 (kinds_of old.signature)) →
    length (last_rows old.traces) < 1000000 → HasRoom old → last + 1 ≡ length ends →
    Changed elements names (numbers ++ more) (words ++ take (length truths) (word ∷ []))
    (set ends last (last_place ends + 1)) integers truths places
    (record {
      signature = old.signature;
      traces = with_row old.traces (row_held (kinds_of old.signature) more (word ∷ []));
    })
held-pushed old elements names numbers words ends integers truths places more word last view is some
    lawful long few small instants room at_end =
    let kinds = kinds_of old.signature in
    let row : Row = row_held (kinds_of old.signature) more (word ∷ []) in
    let new : Recording = record {
      signature = old.signature;
      traces = with_row old.traces row;
    } in
    let new_words : List ℕ = words ++ take (length truths) (word ∷ []) in
    let same : old.signature ≡ elements = sym (ap (λ (r : Recording). r.signature) view) in
    let columns : truths ≡ truth_columns 0 (kinds_of old.signature) =
    is.columns.truths_are ∙ ap (λ es. truth_columns 0 (kinds_of es)) (sym same) in
    let numbers_are : numbers_in row integers ≡ more =
    ap (numbers_in row)
    (is.columns.integers_are ∙ ap (λ es. number_columns 0 (kinds_of es)) (sym same))
    ∙ numbers-held kinds more (word ∷ []) long in
    subst
    (λ ns. Changed elements names (numbers ++ ns) new_words (set ends last (last_place ends + 1))
    integers truths places new)
    numbers_are
    (set_pushed old elements names numbers words ends integers truths places row last new_words
    view is some (held-follows old.signature more (word ∷ []) lawful) instants room at_end
    (word-held kinds more word few small words truths columns))
