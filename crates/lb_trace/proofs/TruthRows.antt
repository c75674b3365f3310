-- The row of a record whose cells are all Booleans.
use Rattle.std.proofs.Common.{ℕ, zero, suc, ◌≡◌, ◌+◌, ◌-◌, ◌*◌, ◌%◌, ◌^◌, ◌<◌, ◌≤◌, Bool, true}
use Rattle.std.proofs.Common.{false, ◌==◌, ◌||◌, if◌then◌else◌, List, [], ◌∷◌, ◌++◌, length, get_or}
use Rattle.std.proofs.Common.{map, drop, Some, ℤ, pos, refl, sym, ap, ◌∙◌, subst, arith}
use Rattle.std.proofs.Common.{⊎_elim, length-drop, replicate, append_assoc, None, Option}
use Rattle.std.proofs.lemmas.Bool.{cases_lt}
use Rattle.std.proofs.lemmas.Bool.Decides.{nat_tests}
use Rattle.std.proofs.lemmas.List.{drop-drop, get_or-drop, length-replicate, same_lists}
use Rattle.std.proofs.lemmas.List.{take_rest}
use Rattle.std.proofs.lemmas.List.Elements.{All-replicate}
use Rattle.std.proofs.lemmas.List.FromFn.{get_or-map-range_with_len, length-map-range_with_len}
use Rattle.std.proofs.lemmas.List.FromFn.{map-range_with_len_more}
use Rattle.std.proofs.lemmas.Nat.Bits.{bit_at_cat_high, bit_at_cat_low}
use Rattle.std.proofs.lemmas.Simd.{map-map}
use Rattle.std.specs.Int.{bit_at}
use Rattle.std.specs.List.{All, range_with_len}
use Rattle.lb_syntax.specs.declared.tree.Kind.TheVariants as kind
use Rattle.lb_traces.specs.BitRows.{row_of_bits}
use Rattle.lb_traces.specs.Packed.{truth_cell}
use Rattle.lb_trace.specs.declared.header.Column.{Column}
use Rattle.lb_trace.specs.Groups.{AreBooleans}
use Rattle.lb_trace.specs.HeldLines.{bits_of}
use Rattle.lb_trace.specs.Lines.{after_line, record_of}
use Rattle.lb_trace.specs.Plain.{ends_line}
use Rattle.lb_trace.specs.PlainRows.{BeginsWith, onto, plain_row}
use Rattle.lb_trace.specs.Scan.{ends_cell}
use Rattle.lb_trace.specs.TruthBits.{AreTruthColumns, HasBits, is_one}
use Rattle.lb_trace.specs.TruthCells.{GoesOn, IsTruth}
use Rattle.lb_trace.proofs.PlainValues.{after-last, after-more, onto-nil, row-full, row-more}
use Rattle.lb_trace.proofs.SmallNumbers.{bool-ended, equal-from}
use Rattle.lb_trace.proofs.TruthBits.{bits-fit}
use Rattle.lb_trace.proofs.TruthCells.{truth-begins}

-- the Booleans of the first `n` cells
abbrev pub ones : List ℕ → ℕ → List ℤ
ones text n = map (λ k. truth_cell (is_one text (2 * k))) (range_with_len 0 n)

ones-more : (text : List ℕ) (n : ℕ)
    → ones text (n + 1) ≡ ones text n ++ truth_cell (is_one text (2 * n)) ∷ []
ones-more text n =
    map-range_with_len_more (λ k. truth_cell (is_one text (2 * k))) 0 n n (omega arith)

chosen : (b : Bool) → (if b then pos 1 else pos 0) ≡ truth_cell b
chosen true = refl
chosen false = refl

abbrev some_column : Column
some_column = record { at = 0; kind = kind.Bool }

first-of : (text : List ℕ) (n : ℕ) → get_or (drop (2 * n) text) 0 0 ≡ get_or text (2 * n) 0
first-of text n =
    get_or-drop (2 * n) text 0 0 ∙ ap (λ i. get_or text i 0) (omega arith)

next-of : (text : List ℕ) (n : ℕ) → drop 2 (drop (2 * n) text) ≡ drop (2 * (n + 1)) text
next-of text n =
    drop-drop 2 (2 * n) text ∙ ap (λ i. drop i text) (omega arith)

-- the text from cell `n` on begins with its Boolean, which a comma ends
inner-begins : (text : List ℕ) (count bits n : ℕ) → HasBits text count bits → n < count
    → BeginsWith kind.Bool (drop (2 * n) text) (truth_cell (is_one text (2 * n)))
    (drop (2 * (n + 1)) text) false
inner-begins text count bits n has l =
    let here : List ℕ = drop (2 * n) text in
    let is : IsTruth here 0 = (
      ap (λ b. (b == 48) || (b == 49)) (first-of text n) ∙ has.digits n l,
      equal-from (get_or here 1 0) 44
          (ap (λ b. b == 44) (get_or-drop (2 * n) text 1 0) ∙ has.inner n l),
    ) in
    let begins = truth-begins here
    (omega (arith, l, has.within, length-drop (2 * n) text)) is in
    subst (λ v. BeginsWith kind.Bool here v (drop (2 * (n + 1)) text) false)
    (chosen (get_or here 0 0 == 49) ∙ ap (λ b. truth_cell (b == 49)) (first-of text n))
    (subst
    (λ t. BeginsWith kind.Bool here (if get_or here 0 0 == 49 then pos 1 else pos 0) t false)
    (next-of text n) begins)

-- the first `n` cells of `text` have been read
record Walked (columns : List Column) (text : List ℕ) (n : ℕ) : Type 0 where
  pub row :
      plain_row columns (record_of text)
      ≡ onto (ones text n) (plain_row (drop n columns) (record_of (drop (2 * n) text)))
  pub line : after_line text ≡ after_line (drop (2 * n) text)

one-more : (columns : List Column) (text : List ℕ) (count bits n : ℕ)
    → AreBooleans count columns → HasBits text count bits → n < count
    → count ≤ length columns → Walked columns text n → Walked columns text (n + 1)
one-more columns text count bits n booleans has l room so_far =
    let inside : n < length columns = omega (arith, l, room) in
    let column = get_or columns n some_column in
    let begins = subst (λ k. BeginsWith k (drop (2 * n) text) (truth_cell (is_one text (2 * n)))
    (drop (2 * (n + 1)) text) false) (sym (booleans n some_column l))
    (inner-begins text count bits n has l) in
    record {
      row =
          so_far.row
          ∙ row-more _ _ _ _ _ _ _ _ _ inside refl begins refl
          ∙ ap (λ r. onto r (plain_row (drop (n + 1) columns) (record_of (drop (2 * (n + 1))
          text))))
          (sym (ones-more text n));
      line =
          so_far.line
          ∙ after-more _ _ _ _ _ begins refl;
    }

walked : (columns : List Column) (text : List ℕ) (count bits n : ℕ)
    → AreBooleans count columns → HasBits text count bits → n ≤ count
    → count ≤ length columns → Walked columns text n
walked columns text count bits zero booleans has le room =
    record { row = sym (onto-nil (plain_row columns (record_of text))); line = refl }
walked columns text count bits (suc n) booleans has le room =
    let up : n + 1 ≡ suc n = omega arith in
    subst (Walked columns text) up
    (one-more _ _ _ _ _ booleans has (omega (arith, le)) room
    (walked _ _ _ _ _ booleans has (omega (arith, le)) room))

all-booleans : (columns : List Column) (count : ℕ) → count ≤ length columns
    → All (λ column. column.kind ≡ kind.Bool) columns → AreBooleans count columns
all-booleans columns count room all k d l = all k d (omega (arith, l, room))

onto-both : (row more : List ℤ) (rest : Option (List ℤ))
    → onto row (onto more rest) ≡ onto (row ++ more) rest
onto-both row more None = refl
onto-both row more (Some values) = ap Some (sym (append_assoc row more values))

-- the first `count` columns are Booleans, and so are the cells before the others
pub booleans-on : (columns : List Column) (text : List ℕ) (count bits : ℕ)
    → AreBooleans count columns → count ≤ length columns → HasBits text count bits
    → GoesOn columns text (ones text count) (drop count columns) (drop (2 * count) text)
booleans-on columns text count bits booleans room has =
    let w = walked _ _ _ _ _ booleans has (omega arith) room in (
      λ row. ap (onto row) w.row
          ∙ onto-both row (ones text count)
          (plain_row (drop count columns) (record_of (drop (2 * count) text))),
      w.line,
    )

-- the bits of the cells are their Booleans
pub ones-bits : (text : List ℕ) (count bits : ℕ) → HasBits text count bits
    → map truth_cell (bits_of count bits) ≡ ones text count
ones-bits text count bits has =
    map-map truth_cell (λ b. bit_at bits b == 1) (range_with_len 0 count)
    ∙ same_lists (map f (range_with_len 0 count)) (map g (range_with_len 0 count))
    (length-map-range_with_len f 0 count ∙ sym (length-map-range_with_len g 0 count))
    (λ k d l.
    let below : k < count = omega (arith, l, length-map-range_with_len f 0 count) in
    get_or-map-range_with_len f 0 count k k d below (omega arith)
    ∙ ap truth_cell (has.bits_are k below)
    ∙ sym (get_or-map-range_with_len g 0 count k k d below (omega arith)))
  where
    f : ℕ → ℤ
    f b = truth_cell (bit_at bits b == 1)

    g : ℕ → ℤ
    g k = truth_cell (is_one text (2 * k))

-- a text begins with the Boolean of its first byte, which the end of a line ends
last-begins : (text : List ℕ) → 2 ≤ length text
    → ((get_or text 0 0 == 48) || (get_or text 0 0 == 49)) ≡ true
    → ends_line (get_or text 1 0) ≡ true
    → BeginsWith kind.Bool text (truth_cell (get_or text 0 0 == 49)) (drop 2 text) true
last-begins text long digit end =
    subst (λ rest. BeginsWith kind.Bool text (truth_cell (get_or text 0 0 == 49)) rest true)
    (take_rest text 2)
    (bool-ended _ _ _ long digit
    (sym (chosen (get_or text 0 0 == 49))) (or-right (get_or text 1 0) end, sym end))
  where
    or-right : (b : ℕ) → ends_line b ≡ true → ends_cell b ≡ true
    or-right b e = by (b == 44) e
      where
        by : (a : Bool) → ends_line b ≡ true → (a || ends_line b) ≡ true
        by true e = refl
        by false e = e

-- the bits of the first `last` cells and of the last cell are those of all cells
all-bits : (text : List ℕ) (last bits one k : ℕ) → HasBits text last bits → k < last + 1
    → (one == 1) ≡ is_one text (2 * last) → one < 2
    → (bit_at (bits + one * 2 ^ last) k == 1) ≡ is_one text (2 * k)
all-bits text last bits one k has l is small =
    let order : bits + one * 2 ^ last ≡ one * 2 ^ last + bits = omega arith in
    ap (λ n. bit_at n k == 1) order
    ∙ ⊎_elim
    (λ (lt : k < last).
    ap (λ n. n == 1) (bit_at_cat_low one last bits k lt) ∙ has.bits_are k lt)
    (λ (le : last ≤ k).
    let same : k ≡ last = omega (arith, le, l) in
    let bit : bit_at one (k - last) ≡ one =
    ap (bit_at one) (let none : k - last ≡ 0 = omega (arith, same) in none) ∙ omega (arith, small)
    in
    ap (λ n. n == 1) (bit_at_cat_high one last bits k has.small le ∙ bit)
    ∙ is ∙ ap (λ i. is_one text (2 * i)) (sym same))
    (cases_lt k last)

bits-row : (text : List ℕ) (last bits one : ℕ) → HasBits text last bits
    → (one == 1) ≡ is_one text (2 * last) → one < 2
    → ones text (last + 1) ≡ row_of_bits (last + 1) (bits + one * 2 ^ last)
unfolding row_of_bits
bits-row text last bits one has is small =
    let word : ℕ = bits + one * 2 ^ last in
    let f : ℕ → ℤ = λ k. truth_cell (is_one text (2 * k)) in
    let g : ℕ → ℤ = λ k. truth_cell (bit_at word k == 1) in
    let n : ℕ = last + 1 in
    same_lists (map f (range_with_len 0 n)) (map g (range_with_len 0 n))
    (length-map-range_with_len f 0 n ∙ sym (length-map-range_with_len g 0 n))
    (λ k d l.
    let below : k < n = omega (arith, l, length-map-range_with_len f 0 n) in
    get_or-map-range_with_len f 0 n k k d below (omega arith)
    ∙ ap truth_cell (sym (all-bits text last bits one k has below is small))
    ∙ sym (get_or-map-range_with_len g 0 n k k d below (omega arith)))

digit-one : (b : ℕ) → ((b == 48) || (b == 49)) ≡ true
    → (48 ≤ b) × (b - 48 < 2) × ((b - 48 == 1) ≡ (b == 49))
digit-one b e = (
  grind (arith, nat_tests),
  grind (arith, nat_tests),
  grind (arith, nat_tests),
)

-- the row that the `count` cells of a record spell, the bits of `word`, and the end of its line
pub record Spelled (text : List ℕ) (count word : ℕ) : Type 0 where
  pub fits : word < 2 ^ 64
  pub row :
      (columns : List Column) → AreTruthColumns count columns
      → plain_row columns (record_of text) ≡ Some (row_of_bits count word)
  pub line : drop 2 (drop (2 * (count - 1)) text) ≡ after_line text
  pub small : word < 2 ^ count

whole-row : (columns : List Column) (text : List ℕ) (last bits : ℕ)
    → AreTruthColumns (last + 1) columns → HasBits text last bits
    → BeginsWith kind.Bool (drop (2 * last) text) (truth_cell (is_one text (2 * last)))
    (drop 2 (drop (2 * last) text)) true
    → (plain_row columns (record_of text) ≡ Some (ones text (last + 1)))
whole-row columns text last bits are has begins =
    let inside : last < length columns = omega (arith, are.as_many) in
    let column = get_or columns last some_column in
    let v : ℤ = truth_cell (is_one text (2 * last)) in
    let here : List ℕ = drop (2 * last) text in
    let begins' = subst (λ k. BeginsWith k here v (drop 2 here) true)
    (sym (are.booleans last some_column inside)) begins in
    (walked _ _ _ _ _
    (all-booleans columns last (omega (arith, inside)) are.booleans) has (omega arith)
    (omega (arith, inside))).row
    ∙ row-full _ _ _ _ _ _ _ _ _ inside refl begins' refl (omega (arith, are.as_many))
    ∙ ap Some (sym (ones-more text last))

whole-line : (text : List ℕ) (last bits : ℕ) → HasBits text last bits
    → BeginsWith kind.Bool (drop (2 * last) text) (truth_cell (is_one text (2 * last)))
    (drop 2 (drop (2 * last) text)) true
    → drop 2 (drop (2 * last) text) ≡ after_line text
whole-line text last bits has begins =
    let here : List ℕ = drop (2 * last) text in
    let columns : List Column = replicate (last + 1) some_column in
    let long : length columns ≡ last + 1 = length-replicate (last + 1) some_column in
    let all : All (λ column. column.kind ≡ kind.Bool) columns =
    All-replicate (λ (column : Column). column.kind ≡ kind.Bool) (last + 1) some_column refl in
    after-last kind.Bool here (drop 2 here) (truth_cell (is_one text (2 * last))) true begins refl
    ∙ sym (walked columns text last bits last
    (all-booleans columns last (omega (arith, long)) all) has (omega arith)
    (omega (arith, long))).line

spelled : (text : List ℕ) (last bits one : ℕ) → last < 64 → HasBits text last bits
    → 2 ≤ length (drop (2 * last) text)
    → ((get_or (drop (2 * last) text) 0 0 == 48) || (get_or (drop (2 * last) text) 0 0 == 49)) ≡
    true
    → ends_line (get_or (drop (2 * last) text) 1 0) ≡ true
    → one ≡ get_or (drop (2 * last) text) 0 0 - 48
    → Spelled text (last + 1) (bits + one * 2 ^ last % 2 ^ 64)
spelled text last bits one few has long digit end is =
    let here : List ℕ = drop (2 * last) text in
    let d = digit-one (get_or here 0 0) digit in
    let bit : (one == 1) ≡ is_one text (2 * last) =
    ap (λ n. n == 1) is ∙ d.2 ∙ ap (λ b. b == 49) (first-of text last) in
    let small : one < 2 = omega (arith, is, d.1) in
    let fit = bits-fit bits one last 1 has.small (omega (arith, small)) (omega (arith, few)) in
    let begins = subst (λ b. BeginsWith kind.Bool here (truth_cell (b == 49)) (drop 2 here) true)
    (first-of text last) (last-begins here long digit end) in
    let back : last + 1 - 1 ≡ last = omega arith in
    rw fit.0 (record {
      fits = fit.2;
      row = λ columns are.
          whole-row columns text last bits are has begins
          ∙ ap Some (bits-row text last bits one has bit small);
      line = rw back (whole-line text last bits has begins);
      small = fit.1;
    })

-- the bits of `count - 1` cells and of the last one spell the row of all `count` cells
pub spells : (text rest : List ℕ) (count done bits one : ℕ) → 0 < count → count ≤ 64
    → done ≤ count - 1 → count - 1 ≤ done → HasBits text done bits → rest ≡ drop (2 * done) text
    → 2 ≤ length rest → ((get_or rest 0 0 == 48) || (get_or rest 0 0 == 49)) ≡ true
    → ends_line (get_or rest 1 0) ≡ true → one ≡ get_or rest 0 0 - 48
    → Spelled text count (bits + one * 2 ^ (count - 1) % 2 ^ 64)
spells text rest count done bits one some few most all has is long digit end one_is =
    let same : done ≡ count - 1 = omega (arith, most, all) in
    let back : count - 1 + 1 ≡ count = omega (arith, some) in
    let rest_is : rest ≡ drop (2 * (count - 1)) text = is ∙ ap (λ n. drop (2 * n) text) same in
    subst (λ n. Spelled text n (bits + one * 2 ^ (count - 1) % 2 ^ 64)) back
    (spelled text (count - 1) bits one (omega (arith, some, few))
    (subst (λ n. HasBits text n bits) same has)
    (subst (λ t. 2 ≤ length t) rest_is long)
    (subst (λ t. ((get_or t 0 0 == 48) || (get_or t 0 0 == 49)) ≡ true) rest_is digit)
    (subst (λ t. ends_line (get_or t 1 0) ≡ true) rest_is end)
    (subst (λ t. one ≡ get_or t 0 0 - 48) rest_is one_is))
