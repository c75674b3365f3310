-- Short cells one after the other, found by their ends.
use Rattle.std.proofs.Common.{ℕ, zero, suc, ◌≡◌, ◌+◌, ◌-◌, ◌*◌, ◌/◌, ◌%◌, ◌^◌, ◌<◌, ◌≤◌, ◌==◌}
use Rattle.std.proofs.Common.{⊎_elim, Bool, true, false, min, List, [], ◌∷◌, ◌++◌, length, get_or}
use Rattle.std.proofs.Common.{map, take, drop, All, ℤ, Some, refl, sym, ap, ◌∙◌, subst, arith}
use Rattle.std.proofs.Common.{append_assoc, ◌||◌, length-drop}
use Rattle.std.proofs.lemmas.Bool.{cases_lt}
use Rattle.std.proofs.lemmas.List.{get_or-drop, length-map, length-take-le}
use Rattle.std.proofs.lemmas.List.Elements.{All-replicate}
use Rattle.std.proofs.lemmas.Nat.Bits.{bit_at_above, bit_at_and, bit_at_xor}
use Rattle.std.proofs.lemmas.Simd.{mask_l-lt}
use Rattle.std.specs.Char.{is_ascii_digit}
use Rattle.std.specs.Int.{bit_at, bit_not, w64}
use lib.Bits.{bit_and}
use lib.Lanes.{mask_l}
use Rattle.lb_syntax.specs.declared.tree.Kind.{Kind}
use Rattle.lb_syntax.specs.declared.tree.Kind.TheVariants as kind
use Rattle.lb_trace.specs.declared.header.Column.{Column}
use Rattle.lb_trace.specs.Fronts.{others}
use Rattle.lb_trace.specs.Numbers.{AreEnds, AreIntegers, IsCellIn, IsInside, IsLowest, IsShortCell}
use Rattle.lb_trace.specs.Numbers.{AreLastWords, IsSmall, IsWhole}
use Rattle.lb_trace.specs.Plain.{ends_line, is_comma}
use Rattle.lb_trace.specs.PlainRows.{BeginsWith}
use Rattle.lb_trace.specs.Scan.{ends_cell}
use Rattle.lb_trace.specs.TruthCells.{GoesOn}
use Rattle.lb_trace.specs.WordValues.{value_in}
use Rattle.lb_trace.proofs.JoinedDigits.{bytes-eight}
use Rattle.lb_trace.proofs.NumberEnds.{differ, ends_of, number-in}
use Rattle.lb_trace.proofs.NumberWords.{IsWordOf, word-begins, word-small}
use Rattle.lb_trace.proofs.PlainValues.{after-last, after-more, row-full, row-more}
use Rattle.lb_trace.proofs.SmallNumbers.{bool-int, digit-inside}
use Rattle.lb_trace.proofs.TruthCells.{both-go_on}

-- ## The ends of cells

-- the ends of numbers among 32 bytes have no bit past 31
pub ends-past : (text : List ℕ) (o m i : ℕ) → 31 < length text → o ≡ others (take 32 text)
    → m ≡ mask_l (map (λ b. b == 45) (take 32 text)) → 31 < i → bit_at (ends_of o m) i ≡ 0
ends-past text o m i long is minus above =
    let size : length (take 32 text) ≡ 32 = length-take-le 32 text (omega (arith, long)) in
    let small : (p : ℕ → Bool) → mask_l (map p (take 32 text)) < 2 ^ 32 =
    λ p. subst (λ n. mask_l (map p (take 32 text)) < 2 ^ n) (length-map (take 32 text) p ∙ size)
    (mask_l-lt (map p (take 32 text))) in
    let none : bit_at o i ≡ 0 =
    bit_at_above o 32 i (subst (λ n. n < 2 ^ 32) (sym is) (small _)) (omega (arith, above)) in
    let no : bit_at m i ≡ 0 =
    bit_at_above m 32 i (subst (λ n. n < 2 ^ 32) (sym minus) (small _)) (omega (arith, above)) in
    bit_at_xor o (bit_and (bit_and m (2 * o + 1)) (bit_not w64 (o / 2))) i
    ∙ ap (λ n. (bit_at o i + n) % 2) (bit_at_and (bit_and m (2 * o + 1)) (bit_not w64 (o / 2)) i
    ∙ ap (λ n. min n (bit_at (bit_not w64 (o / 2)) i)) (bit_at_and m (2 * o + 1) i))
    ∙ omega (arith, none, no)

-- the lowest of some ends
pub record IsNextEnd (text : List ℕ) (start place behind : ℕ) : Type 0 where
  pub from : start ≤ place
  pub within : place < 32
  pub inside : (i : ℕ) → start ≤ i → i < place → IsInside text i
  pub others : AreEnds text behind (place + 1)

pub next-end : (text : List ℕ) (ends start place others : ℕ) → AreEnds text ends start
    → IsLowest ends place others → IsNextEnd text start place others
next-end text ends start place others are lowest =
    let from : start ≤ place =
    ⊎_elim
    (λ (below : place < start).
    let none : bit_at ends place ≡ 0 = are.gone place below in
    let set : bit_at ends place ≡ 1 = lowest.set in
    absurd (omega (arith, none, set)))
    (λ (above : start ≤ place). above)
    (cases_lt place start) in
    let within : place < 32 =
    ⊎_elim (λ (below : place < 32). below)
    (λ (above : 32 ≤ place).
    let none : bit_at ends place ≡ 0 = are.past place (omega (arith, above)) in
    let set : bit_at ends place ≡ 1 = lowest.set in
    absurd (omega (arith, none, set)))
    (cases_lt place 32) in
    record {
      from = from;
      within = within;
      inside = λ i above below. are.inside i above (omega (arith, below, within))
          (lowest.below i below);
      others = record {
        inside = λ i above below none. are.inside i (omega (arith, from, above)) below
            (sym (lowest.kept i (omega (arith, above))) ∙ none);
        past = λ i above. lowest.kept i (omega (arith, within, above)) ∙ are.past i above;
        gone = λ i below. lowest.gone i (omega (arith, below));
      };
    }

-- ## Values

line-ends : (b : ℕ) → ends_line b ≡ true → ends_cell b ≡ true
line-ends b is = by (is_comma b)
  where
    by : (t : Bool) → (t || ends_line b) ≡ true
    by true = refl
    by false = is

end-stops : (b : ℕ) → ends_cell b ≡ true → is_ascii_digit b ≡ false
end-stops b is = by (is_ascii_digit b) refl
  where
    by : (t : Bool) → is_ascii_digit b ≡ t → is_ascii_digit b ≡ false
    by true digit = absurd (differ (ends_cell b) is (digit-inside b digit))
    by false digit = digit

int-begins : (text : List ℕ) (start end word : ℕ) → 63 < length text → end < 32
    → ((i : ℕ) → start ≤ i → i < end → IsInside text i) → start < end → end ≤ start + 8
    → IsWordOf text start end word → ends_cell (get_or text end 0) ≡ true
    → BeginsWith kind.Int (drop start text) (value_in word) (drop (end + 1) text)
    (ends_line (get_or text end 0))
int-begins text start end word long within inside some short is stop =
    word-begins _ _ _ _ _ (omega (arith, long)) within
    (number-in text start end inside some short (end-stops (get_or text end 0) stop))
    is (stop, refl)

kind-begins : (k : Kind) (text : List ℕ) (start end : ℕ) (x : ℤ) → end < length text
    → (k ≡ kind.Bool → (end ≡ start + 1)
    × (((get_or text start 0 == 48) || (get_or text start 0 == 49)) ≡ true))
    → ends_cell (get_or text end 0) ≡ true
    → BeginsWith kind.Int (drop start text) x (drop (end + 1) text) (ends_line (get_or text end 0))
    → BeginsWith k (drop start text) x (drop (end + 1) text) (ends_line (get_or text end 0))
kind-begins kind.Int text start end x long of stop int = int
kind-begins kind.Bool text start end x long of stop int =
    let here = of refl in
    let first : get_or (drop start text) 0 0 ≡ get_or text start 0 =
    get_or-drop start text 0 0 ∙ ap (λ k. get_or text k 0) (omega arith) in
    let second : get_or (drop start text) 1 0 ≡ get_or text end 0 =
    get_or-drop start text 1 0 ∙ ap (λ k. get_or text k 0) (sym here.0) in
    bool-int _ _ _ _ (omega (arith, here.0, long, length-drop start text))
    (ap (λ b. (b == 48) || (b == 49)) first ∙ here.1) (ap ends_cell second ∙ stop) int

pub short-cell : (k : Kind) (text : List ℕ) (start end word others : ℕ) → 63 < length text
    → IsNextEnd text start end others → start < end → end ≤ start + 8
    → (k ≡ kind.Bool → (end ≡ start + 1)
    × (((get_or text start 0 == 48) || (get_or text start 0 == 49)) ≡ true))
    → IsWordOf text start end word → IsShortCell k text start word end
short-cell k text start end word others long next some short of is = record {
  within = next.within;
  small = word-small text start end word (omega (arith, long, next.within)) next.inside is;
  begins = λ stop.
      kind-begins _ _ _ _ _ (omega (arith, long, next.within)) of stop
      (int-begins text start end word long next.within next.inside some short is stop);
}

-- a short cell before a comma
pub inner-cell : (k : Kind) (text : List ℕ) (start word end : ℕ)
    → IsShortCell k text start word end → get_or text end 0 ≡ 44
    → IsCellIn k text start word end false
inner-cell k text start word end cell comma =
    let stop : ends_cell (get_or text end 0) ≡ true = rw comma refl in
    let line : ends_line (get_or text end 0) ≡ false = rw comma refl in
    record {
      within = cell.within;
      small = cell.small;
      begins =
          subst (λ last. BeginsWith k (drop start text) (value_in word) (drop (end + 1) text) last)
          line (cell.begins stop);
    }

-- a short cell before the end of a line
pub last-cell : (k : Kind) (text : List ℕ) (start word end : ℕ)
    → IsShortCell k text start word end → ends_line (get_or text end 0) ≡ true
    → IsCellIn k text start word end true
last-cell k text start word end cell line = record {
  within = cell.within;
  small = cell.small;
  begins =
      subst (λ last. BeginsWith k (drop start text) (value_in word) (drop (end + 1) text) last)
      line (cell.begins (line-ends (get_or text end 0) line));
}

pub all-four : {A : Type 0} (P : A → Type 0) (a b c d : A) → P a → P b → P c → P d
    → All P (a ∷ b ∷ c ∷ d ∷ [])
all-four P a b c d pa pb pc pd zero e below = pa
all-four P a b c d pa pb pc pd (suc zero) e below = pb
all-four P a b c d pa pb pc pd (suc (suc zero)) e below = pc
all-four P a b c d pa pb pc pd (suc (suc (suc zero))) e below = pd
all-four P a b c d pa pb pc pd (suc (suc (suc (suc k)))) e below = absurd (omega (arith, below))

no-digits : IsSmall 0
no-digits =
    subst (All (λ b. b - 48 < 10))
    (sym (bytes-eight 0 0 0 0 0 0 0 0 0 (omega arith) (omega arith) (omega arith) (omega arith)
    (omega arith) (omega arith) (omega arith) (omega arith) (omega arith)))
    (All-replicate (λ b. b - 48 < 10) 8 0 (omega arith))

-- ## Rows

pub integers-long : (columns : List Column) → AreIntegers columns → 3 < length columns
integers-long (a ∷ b ∷ c ∷ d ∷ columns) ints = omega arith
integers-long [] ints = absurd ints
integers-long (a ∷ []) ints = absurd ints
integers-long (a ∷ b ∷ []) ints = absurd ints
integers-long (a ∷ b ∷ c ∷ []) ints = absurd ints

-- an inner cell is that of the first column
goes_on : (column : Column) (columns : List Column) (text rest : List ℕ) (v : ℤ)
    → BeginsWith column.kind text v rest false
    → GoesOn (column ∷ columns) text (v ∷ []) columns rest
goes_on column columns text rest v begins = (
  λ row. row-more (column ∷ columns) 0 column column text rest v row false (omega arith) refl
      begins refl,
  after-more column.kind text rest v false begins refl,
)

as-int : (column : Column) (text rest : List ℕ) (v : ℤ) (last : Bool) → column.kind ≡ kind.Int
    → BeginsWith kind.Int text v rest last → BeginsWith column.kind text v rest last
as-int column text rest v last int begins =
    subst (λ k. BeginsWith k text v rest last) (sym int) begins

-- four inner cells are those of the first four columns, all of integers
pub four-on : (columns : List Column) (text : List ℕ) (a b c d e f g h : ℕ) → AreIntegers columns
    → IsCellIn kind.Int text 0 a e false → IsCellIn kind.Int text (e + 1) b f false
    → IsCellIn kind.Int text (f + 1) c g false → IsCellIn kind.Int text (g + 1) d h false
    → GoesOn columns text (map value_in (a ∷ b ∷ c ∷ d ∷ [])) (drop 4 columns) (drop (h + 1) text)
four-on (p ∷ q ∷ r ∷ s ∷ columns) text a b c d e f g h ints one two three four =
    both-go_on (p ∷ q ∷ r ∷ s ∷ columns) (q ∷ r ∷ s ∷ columns) columns text (drop (e + 1) text)
    (drop (h + 1) text) (value_in a ∷ []) (value_in b ∷ value_in c ∷ value_in d ∷ [])
    (goes_on p (q ∷ r ∷ s ∷ columns) text (drop (e + 1) text) (value_in a)
    (as-int p text (drop (e + 1) text) (value_in a) false ints.0 one.begins))
    (both-go_on (q ∷ r ∷ s ∷ columns) (r ∷ s ∷ columns) columns (drop (e + 1) text)
    (drop (f + 1) text) (drop (h + 1) text) (value_in b ∷ []) (value_in c ∷ value_in d ∷ [])
    (goes_on q (r ∷ s ∷ columns) (drop (e + 1) text) (drop (f + 1) text) (value_in b)
    (as-int q (drop (e + 1) text) (drop (f + 1) text) (value_in b) false ints.1 two.begins))
    (both-go_on (r ∷ s ∷ columns) (s ∷ columns) columns (drop (f + 1) text) (drop (g + 1) text)
    (drop (h + 1) text) (value_in c ∷ []) (value_in d ∷ [])
    (goes_on r (s ∷ columns) (drop (f + 1) text) (drop (g + 1) text) (value_in c)
    (as-int r (drop (f + 1) text) (drop (g + 1) text) (value_in c) false ints.2 three.begins))
    (goes_on s columns (drop (g + 1) text) (drop (h + 1) text) (value_in d)
    (as-int s (drop (g + 1) text) (drop (h + 1) text) (value_in d) false ints.3 four.begins))))
four-on [] text a b c d e f g h ints one two three four = absurd ints
four-on (p ∷ []) text a b c d e f g h ints one two three four = absurd ints
four-on (p ∷ q ∷ []) text a b c d e f g h ints one two three four = absurd ints
four-on (p ∷ q ∷ r ∷ []) text a b c d e f g h ints one two three four = absurd ints

-- the last cell of a record is that of the last column
pub whole-one : (column : Column) (text rest : List ℕ) (v : ℤ)
    → BeginsWith column.kind text v rest true → IsWhole (column ∷ []) text (v ∷ []) rest
whole-one column text rest v begins = (
  λ row. row-full (column ∷ []) 0 column column text rest v row true (omega arith) refl begins refl
      refl,
  after-last column.kind text rest v true begins refl,
)

-- an inner cell, and behind it all others of its record
pub whole-more : (column : Column) (columns : List Column) (text rest past : List ℕ) (v : ℤ)
    (values : List ℤ) → BeginsWith column.kind text v rest false
    → IsWhole columns rest values past → IsWhole (column ∷ columns) text (v ∷ values) past
whole-more column columns text rest past v values begins whole =
    let on = goes_on _ _ _ _ _ begins in (
      λ row. on.0 row ∙ whole.0 (row ++ v ∷ []) ∙ ap Some (append_assoc row (v ∷ []) values),
      whole.1 ∙ sym on.1,
    )

-- ## The words of the last cells

-- a record of one cell
pub last-one : (columns : List Column) (p : Column) (text : List ℕ) (a e : ℕ)
    → 1 ≤ length columns → length columns < 2
    → IsCellIn (get_or columns 0 p).kind text 0 a e true
    → AreLastWords columns text (a ∷ 0 ∷ 0 ∷ 0 ∷ []) e
last-one [] p text a e some few one = absurd (omega (arith, some))
last-one (k ∷ []) p text a e some few one = record {
  few = omega arith;
  within = one.within;
  small = all-four IsSmall a 0 0 0 one.small no-digits no-digits no-digits;
  whole = whole-one _ _ _ _ one.begins;
}
last-one (k ∷ l ∷ more) p text a e some few one = absurd (omega (arith, few))

-- a record of two cells
pub last-two : (columns : List Column) (p q : Column) (text : List ℕ) (a b e f : ℕ)
    → 2 ≤ length columns → length columns < 3
    → IsCellIn (get_or columns 0 p).kind text 0 a e false
    → IsCellIn (get_or columns 1 q).kind text (e + 1) b f true
    → AreLastWords columns text (a ∷ b ∷ 0 ∷ 0 ∷ []) f
last-two [] p q text a b e f some few one two = absurd (omega (arith, some))
last-two (k ∷ []) p q text a b e f some few one two = absurd (omega (arith, some))
last-two (k ∷ l ∷ []) p q text a b e f some few one two = record {
  few = omega arith;
  within = two.within;
  small = all-four IsSmall a b 0 0 one.small two.small no-digits no-digits;
  whole =
      whole-more _ _ _ _ _ _ _ one.begins (whole-one _ _ _ _ two.begins);
}
last-two (k ∷ l ∷ m ∷ more) p q text a b e f some few one two = absurd (omega (arith, few))

-- a record of three cells
pub last-three : (columns : List Column) (p q r : Column) (text : List ℕ) (a b c e f g : ℕ)
    → 3 ≤ length columns → length columns < 4
    → IsCellIn (get_or columns 0 p).kind text 0 a e false
    → IsCellIn (get_or columns 1 q).kind text (e + 1) b f false
    → IsCellIn (get_or columns 2 r).kind text (f + 1) c g true
    → AreLastWords columns text (a ∷ b ∷ c ∷ 0 ∷ []) g
last-three [] p q r text a b c e f g some few one two three = absurd (omega (arith, some))
last-three (k ∷ []) p q r text a b c e f g some few one two three = absurd (omega (arith, some))
last-three (k ∷ l ∷ []) p q r text a b c e f g some few one two three =
    absurd (omega (arith, some))
last-three (k ∷ l ∷ m ∷ []) p q r text a b c e f g some few one two three = record {
  few = omega arith;
  within = three.within;
  small = all-four IsSmall a b c 0 one.small two.small three.small no-digits;
  whole =
      whole-more _ _ _ _ _ _ _ one.begins (whole-more _ _ _ _ _ _ _ two.begins
      (whole-one _ _ _ _ three.begins));
}
last-three (k ∷ l ∷ m ∷ n ∷ more) p q r text a b c e f g some few one two three =
    absurd (omega (arith, few))

-- a record of four cells
pub last-four : (columns : List Column) (p q r s : Column) (text : List ℕ) (a b c d e f g h : ℕ)
    → 4 ≤ length columns → length columns < 5
    → IsCellIn (get_or columns 0 p).kind text 0 a e false
    → IsCellIn (get_or columns 1 q).kind text (e + 1) b f false
    → IsCellIn (get_or columns 2 r).kind text (f + 1) c g false
    → IsCellIn (get_or columns 3 s).kind text (g + 1) d h true
    → AreLastWords columns text (a ∷ b ∷ c ∷ d ∷ []) h
last-four [] p q r s text a b c d e f g h some few one two three four =
    absurd (omega (arith, some))
last-four (k ∷ []) p q r s text a b c d e f g h some few one two three four =
    absurd (omega (arith, some))
last-four (k ∷ l ∷ []) p q r s text a b c d e f g h some few one two three four =
    absurd (omega (arith, some))
last-four (k ∷ l ∷ m ∷ []) p q r s text a b c d e f g h some few one two three four =
    absurd (omega (arith, some))
last-four (k ∷ l ∷ m ∷ n ∷ []) p q r s text a b c d e f g h some few one two three four = record {
  few = omega arith;
  within = four.within;
  small = all-four IsSmall a b c d one.small two.small three.small four.small;
  whole =
      whole-more _ _ _ _ _ _ _ one.begins (whole-more _ _ _ _ _ _ _ two.begins
      (whole-more _ _ _ _ _ _ _ three.begins (whole-one _ _ _ _ four.begins)));
}
last-four (k ∷ l ∷ m ∷ n ∷ o ∷ more) p q r s text a b c d e f g h some few one two three four =
    absurd (omega (arith, few))
