-- Sixteen neighbours of a row at once.
use Rattle.std.proofs.Common.{ℕ, zero, suc, ◌≡◌, ◌+◌, ◌-◌, ◌*◌, ◌^◌, ◌%◌, ◌<◌, ◌≤◌, ◌==◌, ◌⊎◌, inl}
use Rattle.std.proofs.Common.{inr, List, [], ◌∷◌, ◌++◌, ℤ, pos, length, get_or, map, max}
use Rattle.std.proofs.Common.{take, drop, All, sym, ap, ◌∙◌, subst, arith, length-drop}
use Rattle.std.proofs.Math.Nat.{mul-le-mul_right, pow-le-pow_right}
use Rattle.std.proofs.Math.Seq.{take-add}
use Rattle.std.proofs.lemmas.Bool.{cases_lt}
use Rattle.std.proofs.lemmas.Int.{ints}
use Rattle.std.proofs.lemmas.List.{get_or-drop, get_or-map, get_or-take, get_or_default, length-map}
use Rattle.std.proofs.lemmas.List.{length-take-le, map-append, same_lists}
use Rattle.std.proofs.lemmas.Nat.{pow-add, pow_pos}
use Rattle.std.proofs.lemmas.Nat.Bits.{bit_at-zero, bit_at_above, bit_at_cat_high, bit_at_cat_low}
use Rattle.std.proofs.lemmas.Nat.Bits.{bit_at_or}
use Rattle.std.specs.Int.{bit_at}
use Rattle.std.specs.Prelude.{bit_or, int_le}
use Rattle.lb_syntax.specs.declared.tree.Kind.{Kind}
use Rattle.lb_syntax.specs.declared.tree.Kind.TheVariants.{Int as Int_kind, Bool as Bool_kind}
use Rattle.lb_static.specs.Signature.{Elements}
use Rattle.lb_traces.specs.Packed.{numbers_in, truth_in, AreTogether}
use Rattle.lb_traces.specs.Traces.{IsCell, IsInt, IsRow, Row}
use Rattle.lb_traces.proofs.PackedRows.{Packing}

-- ## Cells

int-of : (k : Kind) (v : ℤ) → IsCell k v → IsInt v
int-of Int_kind v is = is
int-of Bool_kind v (inl none) = subst IsInt (sym none) (omega (arith, ints), omega (arith, ints))
int-of Bool_kind v (inr one) = subst IsInt (sym one) (omega (arith, ints), omega (arith, ints))

-- the cells of a row are integers
pub ints-of : (elements : Elements) (row : Row) → IsRow elements row → All IsInt row
ints-of [] [] is k d below = absurd (omega (arith, below))
ints-of [] (v ∷ row) is k d below = absurd is
ints-of (e ∷ elements) [] is k d below = absurd is
ints-of (e ∷ elements) (v ∷ row) is zero d below = int-of e.1 v is.0
ints-of (e ∷ elements) (v ∷ row) is (suc k) d below =
    ints-of elements row is.1 k d (omega (arith, below))

-- sixteen columns stand side by side
abbrev pub AreNeighbours : List ℕ → ℕ → Type 0
AreNeighbours columns first =
    (k : ℕ) → k < 16 → get_or columns (first + k) 0 ≡ get_or columns first 0 + k

-- ## Booleans

shifted : (bits n : ℕ) → bits < 65536 → n + 16 ≤ 64 → bits * 2 ^ n % 2 ^ 64 ≡ bits * 2 ^ n
shifted bits n small room =
    let whole : 2 ^ 16 * 2 ^ n ≡ 2 ^ (16 + n) = sym (pow-add 2 16 n) in
    let two : 0 < 2 = omega arith in
    let most : 16 + n ≤ 64 = omega (arith, room) in
    let power : 2 ^ (16 + n) ≤ 2 ^ 64 = pow-le-pow_right two most in
    let some : 0 < 2 ^ n = pow_pos n in
    let less : bits + 1 ≤ 65536 = omega (arith, small) in
    let below : bits * 2 ^ n < 2 ^ 64 =
    omega (arith, mul-le-mul_right (2 ^ n) less, whole, power, some) in
    omega (arith, below)

low-bit : (bits n j : ℕ) → j < n → bit_at (bits * 2 ^ n) j ≡ 0
low-bit bits n j below =
    let same : bits * 2 ^ n ≡ bits * 2 ^ n + 0 = omega arith in
    ap (λ x. bit_at x j) same ∙ bit_at_cat_low bits n 0 j below ∙ bit_at-zero j

high-bit : (bits n j : ℕ) → n ≤ j → bit_at (bits * 2 ^ n) j ≡ bit_at bits (j - n)
high-bit bits n j above =
    let same : bits * 2 ^ n ≡ bits * 2 ^ n + 0 = omega arith in
    ap (λ x. bit_at x j) same ∙ bit_at_cat_high bits n 0 j (pow_pos n) above

-- Boolean `i` of sixteen neighbours is Boolean `first + i` of the row
neighbour-truth : (row : List ℤ) (columns : List ℕ) (first i : ℕ) → first + 16 ≤ length columns
    → AreNeighbours columns first → i < 16
    → int_le (pos 1) (get_or (drop (get_or columns first 0) row) i (pos 0))
    ≡ truth_in row columns (first + i)
neighbour-truth row columns first i room near below =
    ap (int_le (pos 1)) (get_or-drop (get_or columns first 0) row i (pos 0)
    ∙ ap (λ j. get_or row j (pos 0))
    (sym (near i below) ∙ get_or_default columns (first + i) 0 (length row)
    (omega (arith, below, room))))

-- a word packs sixteen more Booleans with their bits moved up
pub packing_sixteen :
    (row : List ℤ) (columns : List ℕ) (first word bits n : ℕ) → Packing row columns first word n
    → n + 16 ≤ 64 → first + n + 16 ≤ length columns → AreNeighbours columns (first + n)
    → ((i : ℕ) → i < 16 → (bit_at bits i == 1)
    ≡ int_le (pos 1) (get_or (drop (get_or columns (first + n) 0) row) i (pos 0)))
    → bits < 65536 → Packing row columns first (bit_or word (bits * 2 ^ n % 2 ^ 64)) (n + 16)
packing_sixteen row columns first word bits n h most room near each small = record {
  done = λ j below. by j below (cases_lt j n);
  rest = λ j above.
      let past : n ≤ j = omega (arith, above) in
      let none : bit_at word j ≡ 0 = h.rest j past in
      let no : bit_at bits (j - n) ≡ 0 =
      bit_at_above bits 16 (j - n) small (omega (arith, above)) in
      joined j ∙ omega (arith, none, high-bit bits n j past, no);
}
  where
    joined : (j : ℕ) → bit_at (bit_or word (bits * 2 ^ n % 2 ^ 64)) j
        ≡ max (bit_at word j) (bit_at (bits * 2 ^ n) j)
    joined j =
        ap (λ s. bit_at (bit_or word s) j) (shifted bits n small most)
        ∙ bit_at_or word (bits * 2 ^ n) j

    by : (j : ℕ) → j < n + 16 → (j < n) ⊎ (n ≤ j)
        → (bit_at (bit_or word (bits * 2 ^ n % 2 ^ 64)) j == 1) ≡ truth_in row columns (first + j)
    by j below (inl low) =
        let same : max (bit_at word j) (bit_at (bits * 2 ^ n) j) ≡ bit_at word j =
        omega (arith, low-bit bits n j low) in
        ap (λ b. b == 1) (joined j ∙ same) ∙ h.done j low
    by j below (inr high) =
        let none : bit_at word j ≡ 0 = h.rest j high in
        let same : max (bit_at word j) (bit_at (bits * 2 ^ n) j) ≡ bit_at bits (j - n) =
        omega (arith, none, high-bit bits n j high) in
        let few : j - n < 16 = omega (arith, below, high) in
        let place : first + n + (j - n) ≡ first + j = omega (arith, high) in
        ap (λ b. b == 1) (joined j ∙ same) ∙ each (j - n) few
        ∙ neighbour-truth _ _ _ _ room near few ∙ ap (truth_in row columns) place

-- ## Integers

-- the integers of `n` more columns, which stand side by side, are the `n` cells from the first of
-- them on
pub more-together : (row : List ℤ) (columns : List ℕ) (w n : ℕ) → w + n ≤ length columns
    → ((k : ℕ) → k < n → get_or columns (w + k) 0 ≡ get_or columns w 0 + k)
    → get_or columns w 0 + n ≤ length row
    → numbers_in row (take (w + n) columns)
    ≡ numbers_in row (take w columns) ++ take n (drop (get_or columns w 0) row)
more-together row columns w n room near inside =
    let f : ℕ → ℤ = λ j. get_or row j (pos 0) in
    let start : ℕ = get_or columns w 0 in
    let some : List ℕ = take n (drop w columns) in
    let size : length some ≡ n =
    length-take-le n (drop w columns) (omega (arith, length-drop w columns, room)) in
    let cells : List ℤ = take n (drop start row) in
    let long : length cells ≡ n =
    length-take-le n (drop start row) (omega (arith, length-drop start row, inside)) in
    ap (map f) (take-add w n columns)
    ∙ map-append f (take w columns) some
    ∙ ap (λ l. map f (take w columns) ++ l)
    (same_lists (map f some) cells (length-map some f ∙ size ∙ sym long)
    (λ k d l.
    let below : k < n = omega (arith, l, length-map some f, size) in
    get_or-map f some k 0 d (omega (arith, below, size))
    ∙ ap f (get_or-take n (drop w columns) k 0 below ∙ get_or-drop w columns k 0 ∙ near k below)
    ∙ sym (get_or-take n (drop start row) k d below
    ∙ get_or-drop start row k d
    ∙ get_or_default row (start + k) d (pos 0) (omega (arith, below, inside)))))

-- the integers of the first `n` columns, which stand side by side, are `n` cells
pub together-cells : (row : List ℤ) (columns : List ℕ) (n : ℕ) → AreTogether columns n
    → get_or columns 0 0 + n ≤ length row
    → numbers_in row (take n columns) ≡ take n (drop (get_or columns 0 0) row)
together-cells row columns n near inside =
    let few = near.within in
    ap (λ m. numbers_in row (take m columns)) (omega arith)
    ∙ more-together row columns 0 n (omega (arith, few))
    (λ k below. ap (λ m. get_or columns m 0) (omega arith) ∙ near.side k below) inside
