-- A row that is all Booleans, whose bits are pushed as one word.
use Rattle.std.proofs.Common.{ℕ, zero, suc, ◌≡◌, ◌+◌, ◌*◌, ◌^◌, ◌<◌, ◌≤◌, ◌==◌, Bool, true, false}
use Rattle.std.proofs.Common.{List, [], ◌∷◌, ◌++◌, ℤ, pos, length, get_or, map, set, refl, sym, ap}
use Rattle.std.proofs.Common.{◌∙◌, inl, inr, ⊎_elim, arith, subst}
use Rattle.std.proofs.lemmas.Bool.{cases_lt}
use Rattle.std.proofs.lemmas.List.{append-nil, length-map}
use Rattle.std.proofs.lemmas.List.Elements.{All-head, All-tail}
use Rattle.std.proofs.lemmas.List.FromFn.{get_or-map-range_with_len, get_or-range_with_len}
use Rattle.std.proofs.lemmas.List.FromFn.{length-map-range_with_len}
use Rattle.std.proofs.lemmas.Nat.Bits.{bit_at_above}
use Rattle.std.specs.Prelude.{int_le}
use Rattle.std.specs.Int.{bit_at}
use Rattle.std.specs.List.{All, range_with_len}
use Rattle.lb_syntax.specs.declared.tree.Kind.TheVariants.{Int as Int_kind, Bool as Bool_kind}
use Rattle.lb_static.specs.Signature.{Element, Elements, kinds_of}
use Rattle.lb_traces.specs.BitRows.{AreTruths, row_of_bits}
use Rattle.lb_traces.specs.Ledger.{last_place}
use Rattle.lb_traces.specs.Packed.{HasPushed, IsSet, cells_of, number_columns, numbers_in}
use Rattle.lb_traces.specs.Packed.{truth_cell, truth_columns, truth_in}
use Rattle.lb_traces.specs.Stored.{stored}
use Rattle.lb_traces.specs.Traces.{HasRoom, IsCell, IsRow, Recording, last_rows, with_row}
use Rattle.lb_traces.proofs.AddedRows.{Changed, set_pushed}
use Rattle.lb_traces.proofs.PackedRows.{no_truth}

abbrev bit_cell : ℕ → ℕ → ℤ
bit_cell word b = truth_cell (bit_at word b == 1)

-- where all columns are Booleans, the columns of Booleans are all columns
all-truths : (elements : Elements) (j : ℕ) → All (λ e. e.1 ≡ Bool_kind) elements
    → truth_columns j (kinds_of elements) ≡ range_with_len j (length elements)
all-truths [] j all = refl
all-truths ((name, Bool_kind) ∷ elements) j all =
    ap (λ l. j ∷ l)
    (all-truths elements (suc j) (All-tail (λ (e : Element). e.1 ≡ Bool_kind) _ elements all)
    ∙ ap (λ n. range_with_len n (length elements)) (let e : suc j ≡ j + 1 = omega arith in e))
all-truths ((name, Int_kind) ∷ elements) j all =
    cc (All-head (λ (e : Element). e.1 ≡ Bool_kind) _ elements all)

no-integers : (elements : Elements) (j : ℕ) → All (λ e. e.1 ≡ Bool_kind) elements
    → number_columns j (kinds_of elements) ≡ []
no-integers [] j all = refl
no-integers ((name, Bool_kind) ∷ elements) j all =
    no-integers elements (suc j) (All-tail (λ (e : Element). e.1 ≡ Bool_kind) _ elements all)
no-integers ((name, Int_kind) ∷ elements) j all =
    cc (All-head (λ (e : Element). e.1 ≡ Bool_kind) _ elements all)

pub lawful-bit : (b : Bool) → IsCell Bool_kind (truth_cell b)
lawful-bit true = inr refl
lawful-bit false = inl refl

lawful-bits : (elements : Elements) (word j : ℕ) → All (λ e. e.1 ≡ Bool_kind) elements
    → IsRow elements (map (bit_cell word) (range_with_len j (length elements)))
lawful-bits [] word j all = tt
lawful-bits (e ∷ elements) word j all = (
  subst (λ k. IsCell k (bit_cell word j))
      (sym (All-head (λ (e : Element). e.1 ≡ Bool_kind) e elements all))
      (lawful-bit (bit_at word j == 1)),
  lawful-bits elements word (j + 1) (All-tail (λ (e : Element). e.1 ≡ Bool_kind) e elements all),
)

pub bits-follow : (elements : Elements) (word : ℕ) → AreTruths elements
    → IsRow elements (row_of_bits (length elements) word)
unfolding row_of_bits
bits-follow elements word are = lawful-bits elements word 0 are.booleans

pub cell_truth : (b : Bool) → int_le (pos 1) (truth_cell b) ≡ b
cell_truth true = refl
cell_truth false = refl

module _ (elements : Elements) (word : ℕ) (are : AreTruths elements)
    (small : word < 2 ^ length elements) where
  abbrev row : List ℤ
  row = map (bit_cell word) (range_with_len 0 (length elements))

  abbrev columns : List ℕ
  columns = truth_columns 0 (kinds_of elements)

  as-many : length columns ≡ length elements
  as-many = ap length (all-truths elements 0 are.booleans)
      ∙ sym (length-map (range_with_len 0 (length elements)) (λ (b : ℕ). b))
      ∙ length-map-range_with_len (λ b. b) 0 (length elements)

  bit-inside : (b : ℕ) → b < length elements → (bit_at word b == 1) ≡ truth_in row columns b
  bit-inside b l =
      let column : get_or columns b (length row) ≡ b =
      ap (λ l. get_or l b (length row)) (all-truths elements 0 are.booleans)
      ∙ get_or-range_with_len 0 (length elements) b (length row) l ∙ omega arith in
      sym (ap (λ j. int_le (pos 1) (get_or row j (pos 0))) column
      ∙ ap (int_le (pos 1))
      (get_or-map-range_with_len (bit_cell word) 0 (length elements) b b (pos 0) l (omega arith))
      ∙ cell_truth (bit_at word b == 1))

  bit-past : (b : ℕ) → length elements ≤ b → (bit_at word b == 1) ≡ truth_in row columns b
  bit-past b le =
      ap (λ n. n == 1) (bit_at_above word (length elements) b small le)
      ∙ sym (no_truth row columns b (omega (arith, le, as-many)))

  bit-in : (b : ℕ) → (bit_at word b == 1) ≡ truth_in row columns b
  bit-in b =
      ⊎_elim (λ (l : b < length elements). bit-inside b l)
      (λ (le : length elements ≤ b). bit-past b le) (cases_lt b (length elements))

  pub word-pushed : (old truths : List ℕ) → truths ≡ truth_columns 0 (kinds_of elements)
      → HasPushed old (row_of_bits (length elements) word) truths (old ++ word ∷ [])
  unfolding row_of_bits
  word-pushed old truths truths_are = record {
    more = word ∷ [];
    is = refl;
    packed = record {
      as_long =
          let count : length truths ≡ length elements = ap length truths_are ∙ as-many in
          omega (arith, count, are.some, are.few);
      bits = λ g i l m.
          let place : i ≡ 64 * g + i = omega (arith, l) in
          ap (λ w. bit_at w i == 1) (first g l)
          ∙ bit-in i
          ∙ ap (truth_in row columns) place
          ∙ ap (λ ts. truth_in row ts (64 * g + i)) (sym truths_are);
    };
  }
    where
      first : (g : ℕ) → g < length (word ∷ []) → get_or (word ∷ []) g 0 ≡ word
      first zero l = refl
      first (suc g) l = absurd (omega (arith, l))

-- a row that is all Booleans adds no integers
pub nothing-pushed : (elements : Elements) (numbers row : List ℤ) (integers : List ℕ)
    → AreTruths elements → integers ≡ number_columns 0 (kinds_of elements)
    → numbers ++ numbers_in row integers ≡ numbers
nothing-pushed elements numbers row integers are is =
    ap (λ l. numbers ++ numbers_in row l) (is ∙ no-integers elements 0 are.booleans)
    ∙ append-nil numbers

-- a set with one more word has the row of its bits at the end of the last trace
pub bits-pushed :
    (old : Recording) (elements : Elements) (names : List (List ℕ)) (numbers : List ℤ)
    (words ends integers truths places : List ℕ) (word last : ℕ) →
    stored elements names (cells_of elements numbers words ends) ends ≡ old →
    IsSet elements names numbers words ends integers truths places →
    0 < length old.traces → AreTruths old.signature → word < 2 ^ length old.signature →
    length (last_rows old.traces) < 1000000 → HasRoom old → last + 1 ≡ length ends →
    Changed elements names numbers (words ++ word ∷ []) (set ends last (last_place ends + 1))
    integers truths places
    (record {
      signature = old.signature;
      traces = with_row old.traces (row_of_bits (length old.signature) word);
    })
bits-pushed old elements names numbers words ends integers truths places word last view is some are
    small instants room at_end =
    let new : Recording = record {
      signature = old.signature;
      traces = with_row old.traces (row_of_bits (length old.signature) word);
    } in
    let row : List ℤ = row_of_bits (length old.signature) word in
    let same : old.signature ≡ elements = sym (ap (λ (r : Recording). r.signature) view) in
    let columns : truths ≡ truth_columns 0 (kinds_of old.signature) =
    is.columns.truths_are ∙ ap (λ es. truth_columns 0 (kinds_of es)) (sym same) in
    let none : integers ≡ number_columns 0 (kinds_of old.signature) =
    is.columns.integers_are ∙ ap (λ es. number_columns 0 (kinds_of es)) (sym same) in
    subst
    (λ ns. Changed elements names ns (words ++ word ∷ []) (set ends last (last_place ends + 1))
    integers truths places new)
    (nothing-pushed old.signature numbers row integers are none)
    (set_pushed old elements names numbers words ends integers truths places row last
    (words ++ word ∷ []) view is some (bits-follow old.signature word are) instants room at_end
    (word-pushed old.signature word are small words truths columns))
