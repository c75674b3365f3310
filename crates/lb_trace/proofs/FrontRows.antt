-- The row of a record, read group by group.
use Rattle.std.proofs.Common.{ℕ, zero, suc, ◌≡◌, ◌+◌, ◌-◌, ◌*◌, ◌%◌, ◌^◌, ◌<◌, ◌≤◌, ◌==◌, Bool, true}
use Rattle.std.proofs.Common.{false, inl, inr, List, [], ◌∷◌, ◌++◌, length, get_or, take, drop}
use Rattle.std.proofs.Common.{replicate, ℤ, pos, Some, refl, sym, ap, ◌∙◌, subst, arith}
use Rattle.std.proofs.Common.{append_assoc, append-nil, length-drop, eqb, w32}
use Rattle.std.proofs.lemmas.List.{drop-drop, drop_more, get_or-drop, get_or-take, length-take-le}
use Rattle.std.proofs.lemmas.List.{take_all, take_more}
use Rattle.lb_syntax.specs.declared.tree.Kind.{Kind}
use Rattle.lb_syntax.specs.declared.tree.Kind.TheVariants as kind
use Rattle.std.specs.Int.{bit_at}
use Rattle.std.specs.Option.{option_map}
use mir.Val.{bool_byte, of_z}
use Rattle.std.specs.List.{All}
use Rattle.lb_static.specs.Signature.{Elements, kinds_of}
use Rattle.lb_traces.specs.Packed.{numbers_of, row_held, truth_cell, truth_columns}
use Rattle.lb_traces.specs.Traces.{IsCell, IsTrace, Traces}
use Rattle.lb_trace.specs.Groups.{AreBooleans}
use Rattle.lb_trace.specs.HeldLines.{AreParts, IsFront, bits_of, booleans_in, front_row, integers_in}
use Rattle.lb_trace.specs.HeldLines.{IsHeldLine, kinds_in, row_of_parts}
use Rattle.lb_trace.specs.Cells.{cell_value}
use Rattle.lb_trace.specs.Lines.{EndsRecord, after_line, record_of}
use Rattle.lb_trace.specs.Numbers.{AreIntegers, IsWhole}
use Rattle.lb_trace.specs.Mirrors.{go_on_by, record_by}
use Rattle.lb_trace.specs.Nexts.{IsNext}
use Rattle.lb_trace.specs.PlainRows.{AreInOrder, onto, plain_row}
use Rattle.lb_trace.specs.TruthBits.{HasBits}
use Rattle.lb_trace.specs.TruthCells.{GoesOn}
use Rattle.lb_trace.specs.declared.header.Column.{Column}
use Rattle.lb_trace.proofs.HeldParts.{bits-cat, booleans-append, booleans-replicate, integers-append}
use Rattle.lb_trace.proofs.HeldParts.{kinds-booleans, kinds-both, kinds-integers, length-bits}
use Rattle.lb_trace.proofs.HeldParts.{number-count, parts-append, parts-booleans, parts-held}
use Rattle.lb_trace.proofs.HeldParts.{truth-count}
use Rattle.lb_trace.proofs.Nexts.{next-added}
use Rattle.lb_trace.proofs.PlainRecordings.{row_in_order}
use Rattle.lb_trace.proofs.Lines.{after-ends, after-short}
use Rattle.lb_trace.proofs.PlainValues.{onto-nil}
use Rattle.lb_trace.proofs.Soundness.{IsCell-value, and_then_some, map_some}
use Rattle.lb_trace.proofs.TruthBits.{bits-fit}
use Rattle.lb_trace.proofs.TruthRows.{booleans-on, ones, ones-bits}

-- the parts of a front have their counts
parts-long : (columns : List Column) (numbers : List ℤ) (i at truths bits : ℕ)
    → length numbers ≡ length columns → AreParts columns numbers i at truths bits
    → (length (take at numbers) ≡ integers_in (kinds_in (take i columns)))
    × (length (bits_of truths bits) ≡ booleans_in (kinds_in (take i columns)))
parts-long columns numbers i at truths bits room parts = (
  length-take-le at numbers (omega (arith, room, parts.few, parts.within)) ∙ parts.integers,
  length-bits truths bits ∙ parts.booleans,
)

-- the row with more columns, whose integers are `more` and whose Booleans are the bits of `group`
pub front-more : (columns : List Column) (numbers new : List ℤ) (i at truths bits n m count group : ℕ)
    (ks : List Kind) (more : List ℤ) → length numbers ≡ length columns
    → AreParts columns numbers i at truths bits → kinds_in (take n (drop i columns)) ≡ ks
    → take (at + m) new ≡ take at numbers ++ more
    → front_row columns new (i + n) (at + m) (truths + count) (bits + group * 2 ^ truths)
    ≡ front_row columns numbers i at truths bits ++ row_of_parts ks more (bits_of count group)
front-more columns numbers new i at truths bits n m count group ks more room parts kinds written =
    let long = parts-long _ _ _ _ _ _ room parts in
    ap (λ l. row_of_parts l (take (at + m) new) (bits_of (truths + count) (bits + group * 2 ^ truths)))
    (kinds-both i n columns ∙ ap (λ l. kinds_in (take i columns) ++ l) kinds)
    ∙ ap (λ ns. row_of_parts (kinds_in (take i columns) ++ ks) ns
    (bits_of (truths + count) (bits + group * 2 ^ truths))) written
    ∙ ap (row_of_parts (kinds_in (take i columns) ++ ks) (take at numbers ++ more))
    (bits-cat _ _ _ _ parts.small) ∙ parts-append _ _ _ _ _ _ long.0 long.1

-- the counts with more columns
pub parts-more : (columns : List Column) (numbers new : List ℤ) (i at truths bits n m count word : ℕ)
    (ks : List Kind) → AreParts columns numbers i at truths bits → i + n ≤ length columns → m ≤ n
    → kinds_in (take n (drop i columns)) ≡ ks → m ≡ integers_in ks → count ≡ booleans_in ks
    → word < 2 ^ (truths + count) → truths + count ≤ 64
    → AreParts columns new (i + n) (at + m) (truths + count) word
parts-more columns numbers new i at truths bits n m count word ks parts within few kinds ints bools
    small most =
    let both : kinds_in (take (i + n) columns) ≡ kinds_in (take i columns) ++ ks =
    kinds-both i n columns ∙ ap (λ l. kinds_in (take i columns) ++ l) kinds in
    let first = ap integers_in both ∙ integers-append (kinds_in (take i columns)) ks in
    let second = ap booleans_in both ∙ booleans-append (kinds_in (take i columns)) ks in
    record {
      within = within;
      integers = omega (arith, first, ints, parts.integers);
      booleans = omega (arith, second, bools, parts.booleans);
      few = omega (arith, parts.few, few);
      most = most;
      small = small;
    }

integers-row : (values : List ℤ) → length values ≡ 4
    → row_of_parts (kind.Int ∷ kind.Int ∷ kind.Int ∷ kind.Int ∷ []) values [] ≡ values
integers-row (a ∷ b ∷ c ∷ d ∷ []) long = refl
integers-row [] long = absurd (omega (arith, long))
integers-row (a ∷ []) long = absurd (omega (arith, long))
integers-row (a ∷ b ∷ []) long = absurd (omega (arith, long))
integers-row (a ∷ b ∷ c ∷ []) long = absurd (omega (arith, long))
integers-row (a ∷ b ∷ c ∷ d ∷ e ∷ more) long = absurd (omega (arith, long))

-- cells behind a row are the next ones of the columns from place `i` on
goes-further : (columns some : List Column) (i n : ℕ) (text rest further : List ℕ)
    (values row next : List ℤ) → some ≡ drop i columns → rest ≡ further
    → next ≡ row ++ values → GoesOn some text values (drop n some) further
    → (onto row (plain_row (drop i columns) (record_of text))
    ≡ onto next (plain_row (drop (i + n) columns) (record_of rest)))
    × (after_line text ≡ after_line rest)
goes-further columns some i n text rest further values row next is past added on =
    let left : drop n some ≡ drop (i + n) columns =
    ap (drop n) is ∙ drop-drop n i columns in (
      ap (λ ks. onto row (plain_row ks (record_of text))) (sym is) ∙ on.0 row
          ∙ ap (λ r. onto r (plain_row (drop n some) (record_of further))) (sym added)
          ∙ ap (λ ks. onto next (plain_row ks (record_of further))) left
          ∙ ap (λ t. onto next (plain_row (drop (i + n) columns) (record_of t))) (sym past),
      on.1 ∙ ap after_line (sym past),
    )

-- four integers behind a front
pub front-numbers : (columns some : List Column) (text rest further : List ℕ)
    (numbers new values : List ℤ) (i at truths bits : ℕ) → length numbers ≡ length columns
    → IsFront columns text numbers i at truths bits rest → some ≡ drop i columns
    → AreIntegers (drop i columns) → i + 4 ≤ length columns → length values ≡ 4
    → take (at + 4) new ≡ take at numbers ++ values
    → GoesOn some rest values (drop 4 some) further
    → IsFront columns text new (i + 4) (at + 4) truths bits further
front-numbers columns some text rest further numbers new values i at truths bits room front is ints
    within long written on =
    let none : truths + 0 ≡ truths = omega arith in
    let same : bits + 0 * 2 ^ truths ≡ bits = omega arith in
    let kinds = kinds-integers (drop i columns) ints in
    let row : front_row columns new (i + 4) (at + 4) truths bits
    ≡ front_row columns numbers i at truths bits ++ values =
    sym (ap (λ b. front_row columns new (i + 4) (at + 4) truths b) same)
    ∙ sym (ap (λ t. front_row columns new (i + 4) (at + 4) t (bits + 0 * 2 ^ truths)) none)
    ∙ front-more columns numbers new i at truths bits 4 4 0 0
    (kind.Int ∷ kind.Int ∷ kind.Int ∷ kind.Int ∷ []) values room front.parts kinds written
    ∙ ap (λ l. front_row columns numbers i at truths bits ++ l) (integers-row values long) in
    let next = goes-further columns some i 4 rest further further values
    (front_row columns numbers i at truths bits) (front_row columns new (i + 4) (at + 4) truths bits)
    is refl row on in
    record {
      parts = subst (λ t. AreParts columns new (i + 4) (at + 4) t bits) none
          (parts-more columns numbers new i at truths bits 4 4 0 bits
          (kind.Int ∷ kind.Int ∷ kind.Int ∷ kind.Int ∷ []) front.parts within
          (omega arith) kinds refl refl (subst (λ t. bits < 2 ^ t) (sym none) front.parts.small)
          (omega (arith, front.parts.most)));
      cells = front.cells ∙ next.0;
      after = front.after ∙ next.1;
    }

-- `count` Booleans behind a front
pub front-truths : (columns some : List Column) (text rest further : List ℕ) (numbers : List ℤ)
    (i at truths bits count group word : ℕ) → length numbers ≡ length columns
    → IsFront columns text numbers i at truths bits rest → some ≡ drop i columns
    → AreBooleans count (drop i columns) → i + count ≤ length columns → truths + count ≤ 64
    → HasBits rest count group → word ≡ bits + group * 2 ^ truths % 2 ^ 64
    → further ≡ drop (2 * count) rest
    → (IsFront columns text numbers (i + count) at (truths + count) word further)
    × (bits + group * 2 ^ truths < 2 ^ 64)
front-truths columns some text rest further numbers i at truths bits count group word room front is
    booleans within most has sum past =
    let there : count ≤ length (drop i columns) =
    omega (arith, within, length-drop i columns) in
    let fit = bits-fit bits group truths count front.parts.small has.small most in
    let whole : word ≡ bits + group * 2 ^ truths = sum ∙ ap (λ n. bits + n) fit.0 in
    let kinds = kinds-booleans count (drop i columns) there booleans in
    let counts = booleans-replicate count in
    let none : at + 0 ≡ at = omega arith in
    let row : front_row columns numbers (i + count) at (truths + count) word
    ≡ front_row columns numbers i at truths bits ++ ones rest count =
    ap (front_row columns numbers (i + count) at (truths + count)) whole
    ∙ sym (ap (λ a. front_row columns numbers (i + count) a (truths + count)
    (bits + group * 2 ^ truths)) none)
    ∙ front-more columns numbers numbers i at truths bits count 0 count group
    (replicate count kind.Bool) [] room front.parts kinds
    (ap (λ a. take a numbers) none ∙ sym (append-nil (take at numbers)))
    ∙ ap (λ l. front_row columns numbers i at truths bits ++ l)
    (parts-booleans count (bits_of count group) (length-bits count group)
    ∙ ones-bits rest count group has) in
    let next = goes-further columns some i count rest further (drop (2 * count) rest)
    (ones rest count) (front_row columns numbers i at truths bits)
    (front_row columns numbers (i + count) at (truths + count) word) is past row
    (subst (λ ks. GoesOn ks rest (ones rest count) (drop count ks) (drop (2 * count) rest)) (sym is)
    (booleans-on (drop i columns) rest count group booleans there has)) in (
      record {
        parts = subst (λ a. AreParts columns numbers (i + count) a (truths + count) word) none
            (parts-more columns numbers numbers i at truths bits count 0 count word
            (replicate count kind.Bool) front.parts within (omega arith) kinds
            (sym counts.1) (sym counts.0)
            (subst (λ n. n < 2 ^ (truths + count)) (sym whole) fit.1) most);
        cells = front.cells ∙ next.0;
        after = front.after ∙ next.1;
      },
      fit.2,
    )

-- ## The last cells

-- the values of cells are lawful for their columns
pub row-lawful : (ks : List Column) (cells : List (List ℕ)) (values : List ℤ)
    → plain_row ks cells ≡ Some values → (k : ℕ) (d : Column) → k < length ks
    → IsCell (get_or ks k d).kind (get_or values k (pos 0))
unfolding plain_row
row-lawful [] cells values is k d l = absurd (omega (arith, l))
row-lawful (c ∷ ks) [] values is k d l = cc is
row-lawful (c ∷ ks) (cell ∷ cells) values is zero d l =
    let first = and_then_some (λ v. option_map (λ row. v ∷ row) (plain_row ks cells))
    (cell_value c.kind cell) values is in
    let rest = map_some (λ row. first.0 ∷ row) (plain_row ks cells) values first.2 in
    subst (λ vs. IsCell c.kind (get_or vs 0 (pos 0))) rest.2
    (IsCell-value c.kind cell first.0 first.1)
row-lawful (c ∷ ks) (cell ∷ cells) values is (suc k) d l =
    let first = and_then_some (λ v. option_map (λ row. v ∷ row) (plain_row ks cells))
    (cell_value c.kind cell) values is in
    let rest = map_some (λ row. first.0 ∷ row) (plain_row ks cells) values first.2 in
    subst (λ vs. IsCell (get_or ks k d).kind (get_or vs (suc k) (pos 0))) rest.2
    (row-lawful ks cells rest.0 rest.1 k d (omega (arith, l)))

-- the values of a record's last cells, as far as they are Booleans
pub last-boolean : (columns some : List Column) (rest : List ℕ) (values : List ℤ) (after : List ℕ)
    (i k : ℕ) (d : Column) → some ≡ drop i columns → i + k < length columns
    → IsWhole some rest (take (length some) values) after
    → (get_or columns (i + k) d).kind ≡ kind.Bool
    → truth_cell (eqb (of_z w32 (get_or values k (pos 0))) 1) ≡ get_or values k (pos 0)
last-boolean columns some rest values after i k d is within whole bool =
    let there : k < length some =
    omega (arith, ap length is, length-drop i columns, within) in
    let row : plain_row some (record_of rest) ≡ Some (take (length some) values) =
    sym (onto-nil (plain_row some (record_of rest))) ∙ whole.0 [] in
    let kind-is : (get_or some k d).kind ≡ kind.Bool =
    ap (λ (ks : List Column). (get_or ks k d).kind) is
    ∙ ap (λ (c : Column). c.kind) (get_or-drop i columns k d) ∙ bool in
    let value : get_or (take (length some) values) k (pos 0) ≡ get_or values k (pos 0) =
    get_or-take (length some) values k (pos 0) there in
    by-value (get_or values k (pos 0)) (subst (λ v. IsCell kind.Bool v) value
    (subst (λ t. IsCell t (get_or (take (length some) values) k (pos 0))) kind-is
    (row-lawful some (record_of rest) (take (length some) values) row k d there)))
  where
    by-value : (v : ℤ) → IsCell kind.Bool v → truth_cell (eqb (of_z w32 v) 1) ≡ v
    by-value v (inl is) = rw is refl
    by-value v (inr is) = rw is refl

kinds-one : (columns : List Column) (n : ℕ) (d : Column) → n < length columns
    → kinds_in (take 1 (drop n columns)) ≡ (get_or columns n d).kind ∷ []
kinds-one columns n d room =
    ap (λ ks. kinds_in (take 1 ks)) (drop_more columns n d room)

-- one more integer behind the parts of a row
pub parts-integer : (columns : List Column) (numbers new front values : List ℤ)
    (i at truths bits k : ℕ) (d : Column) → length numbers ≡ length columns
    → AreParts columns numbers i at truths bits → i < length columns
    → (get_or columns i d).kind ≡ kind.Int
    → take (at + 1) new ≡ take at numbers ++ get_or values k (pos 0) ∷ [] → k < length values
    → front_row columns numbers i at truths bits ≡ front ++ take k values
    → AreParts columns new (i + 1) (at + 1) truths bits
    × (front_row columns new (i + 1) (at + 1) truths bits ≡ front ++ take (k + 1) values)
parts-integer columns numbers new front values i at truths bits k d room parts within int written
    there so_far =
    let none : truths + 0 ≡ truths = omega arith in
    let same : bits + 0 * 2 ^ truths ≡ bits = omega arith in
    let v : ℤ = get_or values k (pos 0) in
    let kinds : kinds_in (take 1 (drop i columns)) ≡ kind.Int ∷ [] =
    kinds-one columns i d within ∙ ap (λ x. x ∷ []) int in (
      subst (λ t. AreParts columns new (i + 1) (at + 1) t bits) none
          (parts-more columns numbers new i at truths bits 1 1 0 bits (kind.Int ∷ []) parts
          (omega (arith, within)) (omega arith) kinds refl refl
          (subst (λ t. bits < 2 ^ t) (sym none) parts.small) (omega (arith, parts.most))),
      sym (ap (λ b. front_row columns new (i + 1) (at + 1) truths b) same)
          ∙ sym (ap (λ t. front_row columns new (i + 1) (at + 1) t (bits + 0 * 2 ^ truths)) none)
          ∙ front-more columns numbers new i at truths bits 1 1 0 0 (kind.Int ∷ []) (v ∷ []) room
          parts kinds written
          ∙ ap (λ l. l ++ v ∷ []) so_far ∙ append_assoc front (take k values) (v ∷ [])
          ∙ ap (λ l. front ++ l) (sym (take_more values k (pos 0) there)),
    )

bit-cell : (b : Bool) (n : ℕ) → n ≡ bool_byte b → truth_cell (bit_at n 0 == 1) ≡ truth_cell b
bit-cell true n is = rw is refl
bit-cell false n is = rw is refl

byte-small : (b : Bool) (n : ℕ) → n ≡ bool_byte b → n < 2 ^ 1
byte-small true n is = omega (arith, is)
byte-small false n is = omega (arith, is)

-- one more Boolean behind the parts of a row
pub parts-boolean : (columns : List Column) (numbers front values : List ℤ)
    (i at truths bits k one word : ℕ) (b : Bool) (d : Column) → length numbers ≡ length columns
    → AreParts columns numbers i at truths bits → i < length columns
    → (get_or columns i d).kind ≡ kind.Bool → truths < 64 → one ≡ bool_byte b
    → truth_cell b ≡ get_or values k (pos 0) → k < length values
    → word ≡ bits + one * 2 ^ truths % 2 ^ 64
    → front_row columns numbers i at truths bits ≡ front ++ take k values
    → AreParts columns numbers (i + 1) at (truths + 1) word
    × (front_row columns numbers (i + 1) at (truths + 1) word ≡ front ++ take (k + 1) values)
parts-boolean columns numbers front values i at truths bits k one word b d room parts within bool
    few is value there sum so_far =
    let none : at + 0 ≡ at = omega arith in
    let v : ℤ = get_or values k (pos 0) in
    let fit = bits-fit bits one truths 1 parts.small (byte-small b one is) (omega (arith, few)) in
    let whole : word ≡ bits + one * 2 ^ truths = sum ∙ ap (λ n. bits + n) fit.0 in
    let kinds : kinds_in (take 1 (drop i columns)) ≡ kind.Bool ∷ [] =
    kinds-one columns i d within ∙ ap (λ x. x ∷ []) bool in (
      subst (λ a. AreParts columns numbers (i + 1) a (truths + 1) word) none
          (parts-more columns numbers numbers i at truths bits 1 0 1 word (kind.Bool ∷ []) parts
          (omega (arith, within)) (omega arith) kinds refl refl
          (subst (λ n. n < 2 ^ (truths + 1)) (sym whole) fit.1) (omega (arith, few))),
      ap (front_row columns numbers (i + 1) at (truths + 1)) whole
          ∙ sym (ap (λ a. front_row columns numbers (i + 1) a (truths + 1)
          (bits + one * 2 ^ truths)) none)
          ∙ front-more columns numbers numbers i at truths bits 1 0 1 one (kind.Bool ∷ []) [] room
          parts kinds (ap (λ a. take a numbers) none ∙ sym (append-nil (take at numbers)))
          ∙ ap (λ x. front_row columns numbers i at truths bits ++ x ∷ [])
          (bit-cell b one is ∙ value)
          ∙ ap (λ l. l ++ v ∷ []) so_far ∙ append_assoc front (take k values) (v ∷ [])
          ∙ ap (λ l. front ++ l) (sym (take_more values k (pos 0) there)),
    )

-- the parts of all columns are a whole line
pub line-held : (columns : List Column) (text rest after : List ℕ) (numbers first front : List ℤ)
    (i at truths bits : ℕ) → length numbers ≡ length columns
    → AreParts columns numbers (length columns) at truths bits
    → plain_row columns (record_of text) ≡ onto front (plain_row (drop i columns) (record_of rest))
    → after_line text ≡ after_line rest → IsWhole (drop i columns) rest first after
    → front_row columns numbers (length columns) at truths bits ≡ front ++ first
    → IsHeldLine columns text (take at numbers) bits (length text - length after)
line-held columns text rest after numbers first front i at truths bits room parts cells line
    whole row =
    let all : take (length columns) columns ≡ columns = take_all (length columns) columns (omega arith)
    in
    let long = parts-long columns numbers (length columns) at truths bits room parts in
    let ints : length (take at numbers) ≡ integers_in (kinds_in columns) =
    long.0 ∙ ap (λ ks. integers_in (kinds_in ks)) all in
    let bools : truths ≡ booleans_in (kinds_in columns) =
    parts.booleans ∙ ap (λ ks. booleans_in (kinds_in ks)) all in
    let few : booleans_in (kinds_in columns) ≤ 64 = omega (arith, parts.most, bools) in
    record {
      integers = ints;
      few = few;
      small = subst (λ n. bits < 2 ^ n) bools parts.small;
      spelled =
          cells ∙ whole.0 front
          ∙ ap Some (sym row
          ∙ ap (λ ks. row_of_parts (kinds_in ks) (take at numbers) (bits_of truths bits)) all
          ∙ ap (λ n. row_of_parts (kinds_in columns) (take at numbers) (bits_of n bits)) bools
          ∙ parts-held (kinds_in columns) (take at numbers) bits ints few);
      ends =
          subst (λ (t : List ℕ). EndsRecord text (length text - length t))
          (sym (whole.1 ∙ sym line)) (after-ends text);
    }

pub rest-short : (text rest after : List ℕ) → after_line text ≡ after_line rest
    → after ≡ after_line rest → length after ≤ length text
rest-short text rest after line is =
    subst (λ (t : List ℕ). length t ≤ length text) (sym (is ∙ sym line)) (after-short text)

-- ## The recording

-- what a set asks for of the parts of a row
pub held-counts : (elements : Elements) (columns : List Column) (text : List ℕ) (numbers : List ℤ)
    (word past : ℕ) → IsHeldLine columns text numbers word past
    → kinds_in columns ≡ kinds_of elements
    → (length numbers ≡ numbers_of (kinds_of elements))
    × (length (truth_columns 0 (kinds_of elements)) ≤ 64)
    × (word < 2 ^ length (truth_columns 0 (kinds_of elements)))
held-counts elements columns text numbers word past line kinds =
    let truths : length (truth_columns 0 (kinds_of elements)) ≡ booleans_in (kinds_in columns) =
    truth-count 0 (kinds_of elements) ∙ ap booleans_in (sym kinds) in (
      line.integers ∙ ap integers_in kinds ∙ sym (number-count 0 (kinds_of elements)),
      omega (arith, truths, line.few),
      subst (λ n. word < 2 ^ n) (sym truths) line.small,
    )

-- a record that is held is one more instant of the last trace
pub held-added : (elements : Elements) (columns : List Column) (count : ℕ) (traces : Traces)
    (text name rest : List ℕ) (numbers : List ℤ) (word past : ℕ)
    → IsHeldLine columns rest numbers word past → kinds_in columns ≡ kinds_of elements
    → (length columns ≡ count) × AreInOrder 0 columns → IsNext traces text name rest
    → All (IsTrace elements) traces
    → record_by elements columns count traces (record_of text)
    ≡ go_on_by elements traces (Some (row_held (kinds_of elements) numbers (word ∷ [])))
held-added elements columns count traces text name rest numbers word past line kinds order next each =
    let row = row_held (kinds_of elements) numbers (word ∷ []) in
    let read : plain_row columns (record_of rest) ≡ Some row =
    line.spelled ∙ ap (λ ks. Some (row_held ks numbers (word ∷ []))) kinds in
    let both = row_in_order columns [] (record_of rest) row order.1 read in
    next-added _ _ _ _ _ _ _ _ next each (both.0 ∙ order.0) both.1
