-- Rows by their parts: integers, and Booleans as the bits of a word.
use Rattle.std.proofs.Common.{ℕ, zero, suc, ◌≡◌, ◌+◌, ◌*◌, ◌/◌, ◌%◌, ◌^◌, ◌<◌, ◌≤◌, ◌==◌, Bool, false}
use Rattle.std.proofs.Common.{List, [], ◌∷◌, ◌++◌, length, get_or, map, take, drop, replicate, ℤ, pos}
use Rattle.std.proofs.Common.{refl, sym, ap, ◌∙◌, arith, append_assoc, append-nil}
use Rattle.std.proofs.lemmas.List.{map-append, same_lists}
use Rattle.std.proofs.lemmas.List.FromFn.{get_or-map-range_with_len, length-map-range_with_len}
use Rattle.std.proofs.lemmas.List.FromFn.{map-range_with_len_more}
use Rattle.std.proofs.lemmas.Nat.Bits.{bit_at_cat_high, bit_at_cat_low}
use Rattle.std.specs.Int.{bit_at}
use Rattle.std.specs.List.{range_with_len}
use Rattle.lb_syntax.specs.Lists.{zip2}
use Rattle.lb_syntax.specs.declared.tree.Kind.{Kind}
use Rattle.lb_syntax.specs.declared.tree.Kind.TheVariants as kind
use Rattle.lb_static.specs.Signature.{Elements, kinds_of}
use Rattle.lb_traces.specs.Packed.{bit_in, cell_held, number_columns, places_from, row_held}
use Rattle.lb_traces.specs.Packed.{truth_cell, truth_columns}
use Rattle.lb_trace.specs.Groups.{AreBooleans}
use Rattle.lb_trace.specs.HeldLines.{bits_of, booleans_in, integers_in, kinds_in, row_of_parts}
use Rattle.lb_trace.specs.Mirrors.{column_of}
use Rattle.lb_trace.specs.Numbers.{AreIntegers}
use Rattle.lb_trace.specs.Spelling.{Record}
use Rattle.lb_trace.specs.declared.header.Column.{Column}

-- ## Counts

pub integers-append : (ks ls : List Kind)
    → integers_in (ks ++ ls) ≡ integers_in ks + integers_in ls
integers-append [] ls = omega arith
integers-append (kind.Int ∷ ks) ls = ap suc (integers-append ks ls) ∙ omega arith
integers-append (kind.Bool ∷ ks) ls = integers-append ks ls

pub booleans-append : (ks ls : List Kind)
    → booleans_in (ks ++ ls) ≡ booleans_in ks + booleans_in ls
booleans-append [] ls = omega arith
booleans-append (kind.Int ∷ ks) ls = booleans-append ks ls
booleans-append (kind.Bool ∷ ks) ls = ap suc (booleans-append ks ls) ∙ omega arith

-- ## Rows

-- the parts of two rows, one after the other, are those of the whole row
pub parts-append : (ks ls : List Kind) (ns ms : List ℤ) (bs cs : List Bool)
    → length ns ≡ integers_in ks → length bs ≡ booleans_in ks
    → row_of_parts (ks ++ ls) (ns ++ ms) (bs ++ cs) ≡ row_of_parts ks ns bs ++ row_of_parts ls ms cs
parts-append [] ls [] ms [] cs ints bools = refl
parts-append [] ls (n ∷ ns) ms bs cs ints bools = absurd (omega (arith, ints))
parts-append [] ls [] ms (b ∷ bs) cs ints bools = absurd (omega (arith, bools))
parts-append (kind.Int ∷ ks) ls [] ms bs cs ints bools = absurd (omega (arith, ints))
parts-append (kind.Int ∷ ks) ls (n ∷ ns) ms bs cs ints bools =
    ap (λ r. n ∷ r) (parts-append ks ls ns ms bs cs (omega (arith, ints)) bools)
parts-append (kind.Bool ∷ ks) ls ns ms [] cs ints bools = absurd (omega (arith, bools))
parts-append (kind.Bool ∷ ks) ls ns ms (b ∷ bs) cs ints bools =
    ap (λ r. truth_cell b ∷ r) (parts-append ks ls ns ms bs cs ints (omega (arith, bools)))

-- the parts of a row of Booleans alone
pub parts-booleans : (n : ℕ) (bs : List Bool) → length bs ≡ n
    → row_of_parts (replicate n kind.Bool) [] bs ≡ map truth_cell bs
parts-booleans zero [] long = refl
parts-booleans zero (b ∷ bs) long = absurd (omega (arith, long))
parts-booleans (suc n) [] long = absurd (omega (arith, long))
parts-booleans (suc n) (b ∷ bs) long =
    ap (λ r. truth_cell b ∷ r) (parts-booleans n bs (omega (arith, long)))

-- the parts of a row are those that its cells are found by
parts-found : (ks : List Kind) (u v : ℕ) (ns : List ℤ) (bs : List Bool) (numbers : List ℤ)
    (words : List ℕ) → length ns ≡ integers_in ks → length bs ≡ booleans_in ks
    → ((k : ℕ) → k < length ns → get_or ns k (pos 0) ≡ get_or numbers (u + k) (pos 0))
    → ((k : ℕ) → k < length bs → get_or bs k false ≡ bit_in words (v + k))
    → row_of_parts ks ns bs ≡ zip2 (cell_held numbers words) ks (places_from u v ks)
parts-found [] u v ns bs numbers words ints bools at bit = refl
parts-found (kind.Int ∷ ks) u v [] bs numbers words ints bools at bit = absurd (omega (arith, ints))
parts-found (kind.Int ∷ ks) u v (n ∷ ns) bs numbers words ints bools at bit =
    let here : n ≡ get_or numbers u (pos 0) =
    at 0 (omega arith) ∙ ap (λ i. get_or numbers i (pos 0)) (omega arith) in
    ap (λ x. x ∷ row_of_parts ks ns bs) here
    ∙ ap (λ r. get_or numbers u (pos 0) ∷ r)
    (parts-found ks (suc u) v ns bs numbers words (omega (arith, ints)) bools
    (λ k l. at (suc k) (omega (arith, l)) ∙ ap (λ i. get_or numbers i (pos 0)) (omega arith)) bit)
parts-found (kind.Bool ∷ ks) u v ns [] numbers words ints bools at bit =
    absurd (omega (arith, bools))
parts-found (kind.Bool ∷ ks) u v ns (b ∷ bs) numbers words ints bools at bit =
    let here : b ≡ bit_in words v =
    bit 0 (omega arith) ∙ ap (bit_in words) (omega arith) in
    ap (λ x. truth_cell x ∷ row_of_parts ks ns bs) here
    ∙ ap (λ r. truth_cell (bit_in words v) ∷ r)
    (parts-found ks u (suc v) ns bs numbers words ints (omega (arith, bools)) at
    (λ k l. bit (suc k) (omega (arith, l)) ∙ ap (bit_in words) (omega arith)))

pub length-bits : (n word : ℕ) → length (bits_of n word) ≡ n
length-bits n word = length-map-range_with_len (λ b. bit_at word b == 1) 0 n

-- a row whose Booleans are the bits of one word is held by that word
pub parts-held : (ks : List Kind) (ns : List ℤ) (word : ℕ) → length ns ≡ integers_in ks
    → booleans_in ks ≤ 64
    → row_of_parts ks ns (bits_of (booleans_in ks) word) ≡ row_held ks ns (word ∷ [])
parts-held ks ns word ints few =
    let n : ℕ = booleans_in ks in
    parts-found ks 0 0 ns (bits_of n word) ns (word ∷ []) ints (length-bits n word)
    (λ k l. ap (λ i. get_or ns i (pos 0)) (omega arith))
    (λ k l.
    let below : k < n = omega (arith, l, length-bits n word) in
    get_or-map-range_with_len (λ b. bit_at word b == 1) 0 n k k false below (omega arith)
    ∙ in-word k (omega (arith, below, few)))
  where
    in-word : (k : ℕ) → k < 64 → (bit_at word k == 1) ≡ bit_in (word ∷ []) (0 + k)
    in-word k l =
        let first : (0 + k) / 64 ≡ 0 = omega (arith, l) in
        let place : (0 + k) % 64 ≡ k = omega (arith, l) in
        ap (λ i. bit_at word i == 1) (sym place)
        ∙ ap (λ g. bit_at (get_or (word ∷ []) g 0) ((0 + k) % 64) == 1) (sym first)

-- ## Bits

-- the bits of a word behind those of another one
pub bits-cat : (n m word more : ℕ) → word < 2 ^ n
    → bits_of (n + m) (word + more * 2 ^ n) ≡ bits_of n word ++ bits_of m more
bits-cat n zero word more small =
    let whole : ℕ = word + more * 2 ^ n in
    let order : whole ≡ more * 2 ^ n + word = omega arith in
    let f : ℕ → Bool = λ b. bit_at whole b == 1 in
    let g : ℕ → Bool = λ b. bit_at word b == 1 in
    ap (λ k. bits_of k whole) (omega arith)
    ∙ same_lists (map f (range_with_len 0 n)) (map g (range_with_len 0 n))
    (length-map-range_with_len f 0 n ∙ sym (length-map-range_with_len g 0 n))
    (λ k d l.
    let below : k < n = omega (arith, l, length-map-range_with_len f 0 n) in
    get_or-map-range_with_len f 0 n k k d below (omega arith)
    ∙ ap (λ w. bit_at w k == 1) order
    ∙ ap (λ b. b == 1) (bit_at_cat_low more n word k below)
    ∙ sym (get_or-map-range_with_len g 0 n k k d below (omega arith)))
    ∙ sym (append-nil (bits_of n word))
bits-cat n (suc m) word more small =
    let whole : ℕ = word + more * 2 ^ n in
    let order : whole ≡ more * 2 ^ n + word = omega arith in
    let f : ℕ → Bool = λ b. bit_at whole b == 1 in
    let g : ℕ → Bool = λ b. bit_at more b == 1 in
    let last : f (n + m) ≡ g m =
    ap (λ w. bit_at w (n + m) == 1) order
    ∙ ap (λ b. b == 1) (bit_at_cat_high more n word (n + m) small (omega arith)
    ∙ ap (bit_at more) (omega arith)) in
    ap (λ k. bits_of k whole) (omega arith)
    ∙ map-range_with_len_more f 0 (n + m) (n + m) (omega arith)
    ∙ ap (λ l. l ++ f (n + m) ∷ []) (bits-cat n m word more small)
    ∙ append_assoc (bits_of n word) (bits_of m more) (f (n + m) ∷ [])
    ∙ ap (λ b. bits_of n word ++ (bits_of m more ++ b ∷ [])) last
    ∙ ap (λ l. bits_of n word ++ l)
    (sym (ap (λ k. bits_of k more) (let e : suc m ≡ m + 1 = omega arith in e)
    ∙ map-range_with_len_more g 0 m m (omega arith)))

-- ## The kinds of groups

take-none : {A : Type 0} (n : ℕ) (xs : List A) → xs ≡ [] → take n xs ≡ []
take-none zero [] none = refl
take-none (suc n) [] none = refl
take-none n (x ∷ xs) none = cc none

pub take-both : {A : Type 0} (i n : ℕ) (xs : List A)
    → take (i + n) xs ≡ take i xs ++ take n (drop i xs)
take-both zero n xs = ap (λ k. take k xs) (omega arith)
take-both (suc i) n [] = take-none (suc i + n) [] refl ∙ sym (take-none n [] refl)
take-both (suc i) n (x ∷ xs) =
    ap (λ k. take k (x ∷ xs)) (let e : suc i + n ≡ suc (i + n) = omega arith in e)
    ∙ ap (λ l. x ∷ l) (take-both i n xs)

pub kinds-both : (i n : ℕ) (columns : List Column)
    → kinds_in (take (i + n) columns)
    ≡ kinds_in (take i columns) ++ kinds_in (take n (drop i columns))
kinds-both i n columns =
    ap kinds_in (take-both i n columns)
    ∙ map-append (λ column. column.kind) (take i columns) (take n (drop i columns))

pub kinds-integers : (columns : List Column) → AreIntegers columns
    → kinds_in (take 4 columns) ≡ kind.Int ∷ kind.Int ∷ kind.Int ∷ kind.Int ∷ []
kinds-integers (a ∷ b ∷ c ∷ d ∷ columns) ints =
    λ j. ints.0 j ∷ ints.1 j ∷ ints.2 j ∷ ints.3 j ∷ []
kinds-integers [] ints = absurd ints
kinds-integers (a ∷ []) ints = absurd ints
kinds-integers (a ∷ b ∷ []) ints = absurd ints
kinds-integers (a ∷ b ∷ c ∷ []) ints = absurd ints

pub kinds-booleans : (n : ℕ) (columns : List Column) → n ≤ length columns → AreBooleans n columns
    → kinds_in (take n columns) ≡ replicate n kind.Bool
kinds-booleans zero columns room are = refl
kinds-booleans (suc n) [] room are = absurd (omega (arith, room))
kinds-booleans (suc n) (column ∷ columns) room are =
    ap (λ k. k ∷ kinds_in (take n columns)) (are 0 column (omega arith))
    ∙ ap (λ ks. kind.Bool ∷ ks)
    (kinds-booleans n columns (omega (arith, room)) (λ k d l. are (suc k) d (omega (arith, l))))

pub booleans-replicate : (n : ℕ)
    → (booleans_in (replicate n kind.Bool) ≡ n) × (integers_in (replicate n kind.Bool) ≡ 0)
booleans-replicate zero = (refl, refl)
booleans-replicate (suc n) =
    let more = booleans-replicate n in (ap suc more.0, more.1)

-- ## Columns of a signature

pub number-count : (j : ℕ) (ks : List Kind) → length (number_columns j ks) ≡ integers_in ks
number-count j [] = refl
number-count j (kind.Int ∷ ks) = ap suc (number-count (suc j) ks)
number-count j (kind.Bool ∷ ks) = number-count (suc j) ks

pub truth-count : (j : ℕ) (ks : List Kind) → length (truth_columns j ks) ≡ booleans_in ks
truth-count j [] = refl
truth-count j (kind.Int ∷ ks) = truth-count (suc j) ks
truth-count j (kind.Bool ∷ ks) = ap suc (truth-count (suc j) ks)

-- the columns of a table have the kinds of its signature
pub kinds-same : (elements : Elements) (columns : List Column) (header : Record)
    → columns ≡ map (column_of header) elements → kinds_in columns ≡ kinds_of elements
kinds-same elements columns header is = ap kinds_in is ∙ by elements
  where
    by : (es : Elements) → kinds_in (map (column_of header) es) ≡ kinds_of es
    by [] = refl
    by (e ∷ es) = ap (λ ks. e.1 ∷ ks) (by es)
