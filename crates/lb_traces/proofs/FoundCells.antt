-- The places of the cells of an instant among the integers and the words of a set.
use Rattle.std.proofs.Common.{ℕ, ◌≡◌, ◌+◌, ◌-◌, ◌*◌, ◌/◌, ◌%◌, ◌<◌, ◌≤◌, ◌==◌, Bool, true, false}
use Rattle.std.proofs.Common.{List, [], ℤ, pos, Some, length, map, get_or, take, drop, refl, sym}
use Rattle.std.proofs.Common.{ap, ap₂, ◌∙◌, subst, arith, slice_get, length-drop}
use Rattle.std.proofs.lemmas.Bool.{true≢false}
use Rattle.std.proofs.lemmas.List.{get_or_read, get_or-take, get_or-drop, length-take-le}
use Rattle.std.proofs.lemmas.List.{same_lists}
use Rattle.std.proofs.lemmas.List.FromFn.{length-map-range_with_len, get_or-map-range_with_len}
use Rattle.std.proofs.lemmas.Option.{get_or_from_slice_get, slice_get_within}
use Rattle.std.proofs.Math.Nat.{mul-le-mul_right}
use Rattle.std.specs.Prelude.{int_le, ◌↔◌, IsTrue}
use Rattle.std.specs.Int.{bit_at}
use Rattle.std.specs.List.{range_with_len}
use Rattle.lb_syntax.specs.declared.tree.Kind.{Kind}
use Rattle.lb_syntax.specs.declared.tree.Kind.TheVariants.{Int as Int_kind, Bool as Bool_kind}
use Rattle.lb_static.specs.Signature.{Elements, kinds_of}
use Rattle.lb_traces.specs.Traces.{Trace, Recording, trace_at, cell_at}
use Rattle.lb_traces.specs.Traces.{rows_from}
use Rattle.lb_traces.specs.Ledger.{place, last_place}
use Rattle.lb_traces.specs.Stored.{row_of, stored}
use Rattle.lb_traces.specs.Packed.{truth_columns, number_columns, places_from, words_of_row, bit_in}
use Rattle.lb_traces.specs.Packed.{truth_cell, cell_held, numbers_of, words_of, nth_row}
use Rattle.lb_traces.specs.Packed.{cells_of, IsSet}
use Rattle.lb_traces.proofs.Ledgers.{place-le-last}
use Rattle.lb_traces.proofs.StoredRows.{trace_at-stored, row_within}
use Rattle.lb_traces.proofs.Storing.{count_of, instants_at}
use Rattle.lb_traces.proofs.KindColumns.{length-places, int_column, bool_column, int_place}
use Rattle.lb_traces.proofs.KindColumns.{bool_place}
use Rattle.lb_traces.proofs.HeldRows.{length-kinds, cell_of_row, row_of-held}
use Rattle.lb_traces.proofs.BitRows.{cell_truth}

-- a Boolean is true where its cell is 1
pub truth_is : (b : Bool) (v : ℤ) → v ≡ truth_cell b → IsTrue b ↔ (v ≡ pos 1)
truth_is true v e = (λ h. e, λ h. refl)
truth_is false v e = (
  λ h. absurd (true≢false (sym h)),
  λ h. absurd (true≢false (sym (ap (int_le (pos 1)) (sym e ∙ h)))),
)

-- two functions that agree on a range give the same list on it
ranges_agree :
    {A : Type 0} (f g : ℕ → A) (a n : ℕ) → ((r : ℕ) → a ≤ r → r < a + n → f r ≡ g r) →
    map f (range_with_len a n) ≡ map g (range_with_len a n)
ranges_agree f g a n same =
    same_lists (map f (range_with_len a n)) (map g (range_with_len a n))
    (length-map-range_with_len f a n ∙ sym (length-map-range_with_len g a n))
    (λ j d l.
    let below : j < n = omega (arith, l, length-map-range_with_len f a n) in
    get_or-map-range_with_len f a n j (a + j) d below refl
    ∙ same (a + j) (omega arith) (omega (arith, below))
    ∙ sym (get_or-map-range_with_len g a n j (a + j) d below refl))

-- the list of a function on a range, without the first `from`, is that on the rest of the range
drop_range :
    {A : Type 0} (f : ℕ → A) (a n from : ℕ) → from ≤ n →
    drop from (map f (range_with_len a n)) ≡ map f (range_with_len (a + from) (n - from))
drop_range f a n from le =
    let long = length-map-range_with_len f a n in
    let rest = length-map-range_with_len f (a + from) (n - from) in
    let short : length (drop from (map f (range_with_len a n))) ≡ n - from =
    length-drop from (map f (range_with_len a n)) ∙ ap (λ m. m - from) long in
    same_lists (drop from (map f (range_with_len a n)))
    (map f (range_with_len (a + from) (n - from))) (short ∙ sym rest)
    (λ j d l.
    let below : j < n - from = omega (arith, l, short) in
    let inside : from + j < n = omega (arith, below) in
    let there : a + (from + j) ≡ a + from + j = omega arith in
    get_or-drop from (map f (range_with_len a n)) j d
    ∙ get_or-map-range_with_len f a n (from + j) (a + from + j) d inside there
    ∙ sym (get_or-map-range_with_len f (a + from) (n - from) j (a + from + j) d below refl))

-- trace `k` of a set
module _ (old : Recording) (elements : Elements) (names : List (List ℕ)) (numbers : List ℤ)
    (words ends integers truths places : List ℕ) (k : ℕ)
    (view : stored elements names (cells_of elements numbers words ends) ends ≡ old)
    (is : IsSet elements names numbers words ends integers truths places)
    (below : k < length old.traces) where
  abbrev kinds : List Kind
  kinds = kinds_of elements

  same_kinds : kinds_of elements ≡ kinds_of old.signature
  same_kinds = ap (λ (r : Recording). kinds_of r.signature) view

  named : k < length names
  named = omega (arith, below, count_of _ _ _ _ _ view)

  -- the place at the end of the trace is at most the last place
  pub within_last : place ends (k + 1) ≤ last_place ends
  within_last =
      place-le-last ends is.parts.rows.ledger (k + 1) (omega (arith, named, is.parts.rows.paired))

  pub length_is : length (trace_at old.traces k).1 ≡ place ends (k + 1) - place ends k
  length_is =
      instants_at _ _ _ _ _ _ view named

  pub starts : (from : ℕ) → from ≡ get_or ends k from → from ≡ place ends k
  starts from read = get_or_read ends k from (omega (arith, named, is.parts.rows.paired)) read 0

  column_in : (column : ℕ) (kind : Kind) →
      slice_get (kinds_of old.signature) column ≡ Some kind → column < length (kinds_of elements)
  column_in column kind h =
      let lt = slice_get_within (kinds_of old.signature) column kind h in
      subst (λ ks. column < length ks) (sym same_kinds) lt

  kind_is : (column : ℕ) (kind : Kind) →
      slice_get (kinds_of old.signature) column ≡ Some kind →
      get_or (kinds_of elements) column Int_kind ≡ kind
  kind_is column kind h =
      ap (λ ks. get_or ks column Int_kind) same_kinds
      ∙ get_or_from_slice_get (kinds_of old.signature) column kind Int_kind h

  -- the places have one for each column
  pub place_in : (column : ℕ) (kind : Kind) →
      slice_get (kinds_of old.signature) column ≡ Some kind → column < length places
  place_in column kind h = omega (
    arith,
    column_in column kind h,
    ap length is.columns.places_are,
    length-places 0 0 kinds,
  )

  -- the rows of the trace are those from its first place up to its last
  pub rows_are :
      (trace_at old.traces k).1
      ≡ map (nth_row (kinds_of elements) numbers words)
      (range_with_len (place ends k) (place ends (k + 1) - place ends k))
  rows_are =
      let cells = cells_of elements numbers words ends in
      let n = place ends (k + 1) - place ends k in
      ap (λ (r : Recording). (trace_at r.traces k).1) (sym view)
      ∙ ap (λ (t : Trace). t.1) (trace_at-stored (length elements) names cells ends k named)
      ∙ ranges_agree (row_of (length elements) cells) (nth_row kinds numbers words) (place ends k) n
      (λ r le l.
      ap (λ w. row_of w cells r) (sym (length-kinds elements))
      ∙ row_of-held kinds numbers words (last_place ends) r (omega (arith, le, l, within_last)))

  -- the rows of the trace from row `from` on
  pub rest_is :
      (from : ℕ) → from ≤ length (trace_at old.traces k).1 →
      rows_from old.traces k from
      ≡ map (nth_row (kinds_of elements) numbers words)
      (range_with_len (place ends k + from) (length (trace_at old.traces k).1 - from))
  rest_is from le =
      let n = place ends (k + 1) - place ends k in
      ap (drop from) rows_are
      ∙ drop_range (nth_row kinds numbers words) (place ends k) n from
      (omega (arith, le, length_is))
      ∙ ap (λ m. map (nth_row kinds numbers words)
      (range_with_len (place ends k + from) (m - from)))
      (sym length_is)

  -- the rows of the trace from row `from` on end at most at the last place
  pub rest_fits :
      (from r : ℕ) → from ≤ length (trace_at old.traces k).1 → r ≡ get_or ends k r →
      r + from + (length (trace_at old.traces k).1 - from) ≤ last_place ends
  rest_fits from r le read =
      let climb : place ends k < place ends (k + 1) =
      is.parts.rows.ledger.climbs k (k + 1) (omega arith)
      (omega (arith, named, is.parts.rows.paired)) in
      omega (arith, le, starts r read, length_is, within_last, climb)

  -- instant `t` of the trace
  module _ (t from : ℕ) (inside : t < length (trace_at old.traces k).1)
      (read : from ≡ get_or ends k from) where
    pub row_below : from + t < last_place ends
    row_below = omega (arith, starts from read, inside, length_is, within_last)

    pub row_is :
        get_or (trace_at old.traces k).1 t [] ≡ nth_row (kinds_of elements) numbers words (from + t)
    row_is =
        ap (λ rows. get_or rows t []) rows_are
        ∙ get_or-map-range_with_len (nth_row kinds numbers words) (place ends k)
        (place ends (k + 1) - place ends k) t (from + t) []
        (omega (arith, inside, length_is))
        (omega (arith, starts from read))

    -- the integers and the words of the instant lie within all
    pub numbers_fit : (from + t) * length integers + length integers ≤ length numbers
    numbers_fit =
        let wide : length integers ≡ numbers_of kinds = ap length is.columns.integers_are in
        let fit : (from + t) * length integers + length integers
        ≤ last_place ends * length integers =
        row_within _ _ _ row_below in
        let all : length numbers ≡ last_place ends * length integers =
        is.filled.numbers_long ∙ ap (λ w. last_place ends * w) (sym wide) in
        omega (arith, fit, all)

    pub words_fit :
        (from + t) * words_of_row (length truths) + words_of_row (length truths) ≤ length words
    words_fit =
        let wide : words_of_row (length truths) ≡ words_of kinds =
        ap (λ l. words_of_row (length l)) is.columns.truths_are in
        let count = words_of_row (length truths) in
        let fit : (from + t) * words_of_row (length truths) + words_of_row (length truths)
        ≤ last_place ends * words_of_row (length truths) =
        row_within _ _ _ row_below in
        let all : length words ≡ last_place ends * words_of_row (length truths) =
        is.filled.words_long ∙ ap (λ w. last_place ends * w) (sym wide) in
        omega (arith, fit, all)

    -- a cell of the instant, among the integers and words from its row on
    cell_is :
        (column : ℕ) → column < length (kinds_of elements) →
        cell_at old.traces k t column
        ≡ cell_held (drop ((from + t) * numbers_of (kinds_of elements)) numbers)
        (drop ((from + t) * words_of (kinds_of elements)) words)
        (get_or (kinds_of elements) column Int_kind)
        (get_or (places_from 0 0 (kinds_of elements)) column 0)
    cell_is column l =
        ap (λ row. get_or row column (pos 0)) row_is
        ∙ cell_of_row _ _ _ _ _ l

    -- the integer, and the Boolean, of a column with the number `p` among those of its kind
    number_is :
        (column p : ℕ) → column < length (kinds_of elements) →
        get_or (kinds_of elements) column Int_kind ≡ Int_kind →
        get_or (places_from 0 0 (kinds_of elements)) column 0 ≡ p →
        cell_at old.traces k t column
        ≡ get_or (drop ((from + t) * length integers) numbers) p (pos 0)
    number_is column p l kind place =
        let ns = drop ((from + t) * numbers_of kinds) numbers in
        let ws = drop ((from + t) * words_of kinds) words in
        cell_is column l
        ∙ ap₂ (λ a b. cell_held ns ws a b) kind place
        ∙ ap (λ w. get_or (drop ((from + t) * w) numbers) p (pos 0))
        (sym (ap length is.columns.integers_are))

    bit_is :
        (column p : ℕ) → column < length (kinds_of elements) →
        get_or (kinds_of elements) column Int_kind ≡ Bool_kind →
        get_or (places_from 0 0 (kinds_of elements)) column 0 ≡ p →
        cell_at old.traces k t column
        ≡ truth_cell (bit_in (drop ((from + t) * words_of_row (length truths)) words) p)
    bit_is column p l kind place =
        let ns = drop ((from + t) * numbers_of kinds) numbers in
        let ws = drop ((from + t) * words_of kinds) words in
        cell_is column l
        ∙ ap₂ (λ a b. cell_held ns ws a b) kind place
        ∙ ap (λ w. truth_cell (bit_in (drop ((from + t) * w) words) p))
        (sym (ap (λ c. words_of_row (length c)) is.columns.truths_are))

    -- a column whose place `p` has been read
    module _ (column p : ℕ) (at : p ≡ get_or places column p) where
      place_is : (kind : Kind) → slice_get (kinds_of old.signature) column ≡ Some kind →
          get_or (places_from 0 0 (kinds_of elements)) column 0 ≡ p
      place_is kind h =
          ap (λ l. get_or l column 0) (sym is.columns.places_are)
          ∙ sym (get_or_read places column p (place_in column kind h) at 0)

      pub number_within : slice_get (kinds_of old.signature) column ≡ Some Int_kind →
          p < length integers
      number_within h =
          let f = int_place 0 0 0 kinds column (column_in column Int_kind h)
          (kind_is column Int_kind h) in
          let same : p ≡ f.number = sym (place_is Int_kind h) ∙ f.place ∙ omega arith in
          omega (arith, f.below, same, ap length is.columns.integers_are)

      pub number_found : slice_get (kinds_of old.signature) column ≡ Some Int_kind →
          get_or numbers ((from + t) * length integers + p) (pos 0) ≡ cell_at old.traces k t column
      number_found h =
          sym (number_is column p (column_in column Int_kind h) (kind_is column Int_kind h)
          (place_is Int_kind h)
          ∙ get_or-drop ((from + t) * length integers) numbers p (pos 0))

      pub bit_within : slice_get (kinds_of old.signature) column ≡ Some Bool_kind →
          p / 64 < words_of_row (length truths)
      bit_within h =
          let f = bool_place 0 0 0 kinds column (column_in column Bool_kind h)
          (kind_is column Bool_kind h) in
          let same : p ≡ f.number = sym (place_is Bool_kind h) ∙ f.place ∙ omega arith in
          omega (arith, f.below, same, ap length is.columns.truths_are)

      pub bit_found : slice_get (kinds_of old.signature) column ≡ Some Bool_kind →
          cell_at old.traces k t column
          ≡ truth_cell
          (bit_at (get_or words ((from + t) * words_of_row (length truths) + p / 64) 0) (p % 64)
          == 1)
      bit_found h =
          bit_is column p (column_in column Bool_kind h) (kind_is column Bool_kind h)
          (place_is Bool_kind h)
          ∙ ap (λ w. truth_cell (bit_at w (p % 64) == 1))
          (get_or-drop ((from + t) * words_of_row (length truths)) words (p / 64) 0)

    -- the number of integers of the instant
    pub numbers_count :
        length (take (length integers) (drop ((from + t) * length integers) numbers))
        ≡ length (number_columns 0 (kinds_of old.signature))
    numbers_count =
        length-take-le (length integers) (drop ((from + t) * length integers) numbers)
        (omega (arith, numbers_fit, length-drop ((from + t) * length integers) numbers))
        ∙ ap length is.columns.integers_are
        ∙ ap (λ ks. length (number_columns 0 ks)) same_kinds

    pub numbers_found :
        (w : ℕ) → w < length (number_columns 0 (kinds_of old.signature)) →
        get_or (take (length integers) (drop ((from + t) * length integers) numbers)) w (pos 0)
        ≡ cell_at old.traces k t (get_or (number_columns 0 (kinds_of old.signature)) w 0)
    numbers_found w l =
        let lt : w < length (number_columns 0 kinds) =
        subst (λ ks. w < length (number_columns 0 ks)) (sym same_kinds) l in
        let f = int_column 0 0 0 kinds w lt in
        let inside : w < length integers = omega (arith, lt, ap length is.columns.integers_are) in
        let place : get_or (places_from 0 0 kinds) f.column 0 ≡ w = f.place ∙ omega arith in
        let column : f.column ≡ get_or (number_columns 0 kinds) w 0 =
        sym (f.is ∙ omega arith) in
        get_or-take (length integers) (drop ((from + t) * length integers) numbers) w (pos 0) inside
        ∙ sym (number_is f.column w f.below f.kind place)
        ∙ ap (cell_at old.traces k t) column
        ∙ ap (λ ks. cell_at old.traces k t (get_or (number_columns 0 ks) w 0)) same_kinds

    -- the bits of the instant are its Booleans
    pub bits_found :
        (b : ℕ) → b < length (truth_columns 0 (kinds_of old.signature)) →
        bit_in (drop ((from + t) * words_of_row (length truths)) words) b
        ≡ int_le (pos 1)
        (cell_at old.traces k t (get_or (truth_columns 0 (kinds_of old.signature)) b 0))
    bits_found b l =
        let lt : b < length (truth_columns 0 kinds) =
        subst (λ ks. b < length (truth_columns 0 ks)) (sym same_kinds) l in
        let f = bool_column 0 0 0 kinds b lt in
        let place : get_or (places_from 0 0 kinds) f.column 0 ≡ b = f.place ∙ omega arith in
        let column : f.column ≡ get_or (truth_columns 0 kinds) b 0 = sym (f.is ∙ omega arith) in
        sym (ap (int_le (pos 1)) (bit_is f.column b f.below f.kind place) ∙ cell_truth _)
        ∙ ap (λ c. int_le (pos 1) (cell_at old.traces k t c)) column
        ∙ ap (λ ks. int_le (pos 1) (cell_at old.traces k t (get_or (truth_columns 0 ks) b 0)))
        same_kinds

    -- the bits past the Booleans of the instant are false
    pub past_found :
        (b : ℕ) → length (truth_columns 0 (kinds_of old.signature)) ≤ b →
        b < 64 * words_of_row (length truths) →
        bit_in (drop ((from + t) * words_of_row (length truths)) words) b ≡ false
    past_found b le l =
        let past : length (truth_columns 0 kinds) ≤ b =
        subst (λ ks. length (truth_columns 0 ks) ≤ b) (sym same_kinds) le in
        let wide : words_of_row (length truths) ≡ words_of kinds =
        ap (λ c. words_of_row (length c)) is.columns.truths_are in
        let all : b < 64 * words_of kinds = omega (arith, l, wide) in
        ap (λ w. bit_in (drop ((from + t) * w) words) b) wide
        ∙ is.filled.past (from + t) b row_below past all

  -- `n` instants of the trace from `t` on
  module _ (t n from : ℕ) (within : t + n ≤ length (trace_at old.traces k).1)
      (read : from ≡ get_or ends k from) where
    abbrev count : ℕ
    count = words_of_row (length truths)

    -- the words of these instants
    abbrev part : List ℕ
    part = take (n * count) (drop ((from + t) * count) words)

    count_is : count ≡ words_of_row (length (truth_columns 0 (kinds_of old.signature)))
    count_is =
        ap (λ c. words_of_row (length c)) is.columns.truths_are
        ∙ ap (λ ks. words_of_row (length (truth_columns 0 ks))) same_kinds

    -- the words of these instants lie within all words
    pub part_fits :
        (width : ℕ) → width ≡ words_of_row (length truths) →
        ((from + t + n) * width ≤ length words) × ((from + t) * width ≤ (from + t + n) * width)
    part_fits width same =
        let rows : from + t + n ≤ last_place ends =
        omega (arith, rest_fits t from (omega (arith, within)) read, within) in
        let fit : (from + t + n) * width ≤ last_place ends * width =
        mul-le-mul_right width rows in
        let wide : width ≡ words_of kinds =
        same ∙ ap (λ c. words_of_row (length c)) is.columns.truths_are in
        let all : length words ≡ last_place ends * width =
        is.filled.words_long ∙ ap (λ w. last_place ends * w) (sym wide) in
        (omega (arith, fit, all), mul-le-mul_right width (omega arith))

    pub part_count :
        length
        (take (n * words_of_row (length truths))
        (drop ((from + t) * words_of_row (length truths)) words))
        ≡ n * words_of_row (length (truth_columns 0 (kinds_of old.signature)))
    part_count =
        let split : (from + t + n) * count ≡ (from + t) * count + n * count = omega arith in
        length-take-le (n * count) (drop ((from + t) * count) words)
        (omega (arith, (part_fits count refl).0, split, length-drop ((from + t) * count) words))
        ∙ ap (λ w. n * w) count_is

    -- bit `b` of instant `d` among these is that bit of instant `t + d` of the trace
    bit_moved :
        (d b : ℕ) → d < n → b < 64 * count →
        bit_in part (64 * (d * count) + b) ≡ bit_in (drop ((from + (t + d)) * count) words) b
    bit_moved d b ld l =
        let inside : (d + 1) * count ≤ n * count = mul-le-mul_right count (omega (arith, ld)) in
        let q : (64 * (d * count) + b) / 64 ≡ d * count + b / 64 = omega arith in
        let m : (64 * (d * count) + b) % 64 ≡ b % 64 = omega arith in
        let lt : d * count + b / 64 < n * count = omega (arith, inside, l) in
        let there : (from + t) * count + (d * count + b / 64)
        ≡ (from + (t + d)) * count + b / 64 = omega arith in
        ap₂ (λ x y. bit_at (get_or part x 0) y == 1) q m
        ∙ ap (λ w. bit_at w (b % 64) == 1)
        (get_or-take (n * count) (drop ((from + t) * count) words) (d * count + b / 64) 0 lt
        ∙ get_or-drop ((from + t) * count) words (d * count + b / 64) 0
        ∙ ap (λ x. get_or words x 0) there
        ∙ sym (get_or-drop ((from + (t + d)) * count) words (b / 64) 0))

    pub part_bits :
        (d b : ℕ) → d < n → b < length (truth_columns 0 (kinds_of old.signature)) →
        bit_in
        (take (n * words_of_row (length truths))
        (drop ((from + t) * words_of_row (length truths)) words))
        (64 * (d * words_of_row (length (truth_columns 0 (kinds_of old.signature)))) + b)
        ≡ int_le (pos 1)
        (cell_at old.traces k (t + d) (get_or (truth_columns 0 (kinds_of old.signature)) b 0))
    part_bits d b ld l =
        ap (λ w. bit_in part (64 * (d * w) + b)) (sym count_is)
        ∙ bit_moved d b ld (omega (arith, l, count_is))
        ∙ bits_found (t + d) from (omega (arith, ld, within)) read b l

    pub part_past :
        (d b : ℕ) → d < n → length (truth_columns 0 (kinds_of old.signature)) ≤ b →
        b < 64 * words_of_row (length (truth_columns 0 (kinds_of old.signature))) →
        bit_in
        (take (n * words_of_row (length truths))
        (drop ((from + t) * words_of_row (length truths)) words))
        (64 * (d * words_of_row (length (truth_columns 0 (kinds_of old.signature)))) + b)
        ≡ false
    part_past d b ld le l =
        let under : b < 64 * count = omega (arith, l, count_is) in
        ap (λ w. bit_in part (64 * (d * w) + b)) (sym count_is)
        ∙ bit_moved d b ld under
        ∙ past_found (t + d) from (omega (arith, ld, within)) read b le under
