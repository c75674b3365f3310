-- The bytes of a cell as the highest bytes of a word, and the value of the cell.
use Rattle.std.proofs.Common.{ℕ, zero, suc, ◌≡◌, ◌+◌, ◌-◌, ◌*◌, ◌%◌, ◌^◌, ◌<◌, ◌≤◌, ◌==◌, ◌||◌}
use Rattle.std.proofs.Common.{nat_le, ⊎_elim, Bool, true, false, List, [], ◌∷◌, ◌++◌}
use Rattle.std.proofs.Common.{length, get_or, map, take, drop, replicate, All, Fits, w8}
use Rattle.std.proofs.Common.{Some, refl, sym, ap, ◌∙◌, subst, arith, length-drop}
use Rattle.std.proofs.lemmas.Bool.Decides.{nat_tests}
use Rattle.std.proofs.lemmas.List.{drop_more, get_or-drop, get_or-take, length-take-le}
use Rattle.std.proofs.lemmas.List.Elements.{All-append, All-from_get_or, All-replicate}
use Rattle.std.proofs.lemmas.List.Folds.{fold-map}
use Rattle.std.specs.Char.{is_ascii_digit}
use Rattle.std.specs.List.{list_all, list_any}
use lib.Lanes.{number_l}
use mir.Val.{bool_byte}
use Rattle.lb_syntax.specs.declared.tree.Kind.TheVariants as kind
use Rattle.lb_trace.specs.Cells.{decimal, signed}
use Rattle.lb_trace.specs.Fronts.{bytes_of, joined, number_of}
use Rattle.lb_trace.specs.Numbers.{IsInside, IsNumberIn, digits_from}
use Rattle.lb_trace.specs.Plain.{ends_line}
use Rattle.lb_trace.specs.PlainRows.{BeginsWith}
use Rattle.lb_trace.specs.Scan.{ends_cell}
use Rattle.lb_trace.specs.WordValues.{eight_of, has_minus, signed_by, value_in}
use Rattle.lb_trace.proofs.FoundNumbers.{number-begins}
use Rattle.lb_trace.proofs.Fronts.{digit-least}
use Rattle.lb_trace.proofs.JoinedDigits.{bytes-eight, digits-small, eight-front}
use Rattle.lb_trace.proofs.SmallNumbers.{below, equal-from}

-- ## The bytes of a word

-- the first `count` of the eight bytes of `x` are those of `text`; moved up, they are the highest
abbrev pub IsMoved : ℕ → List ℕ → ℕ → Type 0
IsMoved count text x =
    bytes_of (x * 2 ^ (64 - 8 * count) % 2 ^ 64) ≡ replicate (8 - count) 0 ++ take count text

module _ (a b c d e f g h x : ℕ) (rest : List ℕ)
    (is : x ≡ a + 256 * (b + 256 * (c + 256 * (d + 256 * (e + 256 * (f + 256 * (g + 256 * h)))))))
    (la : a < 256) (lb : b < 256) (lc : c < 256) (ld : d < 256) (le : e < 256) (lf : f < 256)
    (lg : g < 256) (lh : h < 256) where
  abbrev text : List ℕ
  text = a ∷ b ∷ c ∷ d ∷ e ∷ f ∷ g ∷ h ∷ rest

  one-moved : IsMoved 1 text x
  one-moved =
      let moved : x * 72057594037927936 % 18446744073709551616
      ≡ 72057594037927936 * (a) = omega arith in
      bytes-eight 0 0 0 0 0 0 0 a _ (omega (arith, moved))
      (omega arith) (omega arith) (omega arith) (omega arith) (omega arith) (omega arith)
      (omega arith) la

  two-moved : IsMoved 2 text x
  two-moved =
      let moved : x * 281474976710656 % 18446744073709551616
      ≡ 281474976710656 * (a + 256 * b) = omega arith in
      bytes-eight 0 0 0 0 0 0 a b _ (omega (arith, moved))
      (omega arith) (omega arith) (omega arith) (omega arith) (omega arith) (omega arith) la lb

  three-moved : IsMoved 3 text x
  three-moved =
      let moved : x * 1099511627776 % 18446744073709551616
      ≡ 1099511627776 * (a + 256 * (b + 256 * c)) = omega arith in
      bytes-eight 0 0 0 0 0 a b c _ (omega (arith, moved))
      (omega arith) (omega arith) (omega arith) (omega arith) (omega arith) la lb lc

  four-moved : IsMoved 4 text x
  four-moved =
      let moved : x * 4294967296 % 18446744073709551616
      ≡ 4294967296 * (a + 256 * (b + 256 * (c + 256 * d))) = omega arith in
      bytes-eight 0 0 0 0 a b c d _ (omega (arith, moved))
      (omega arith) (omega arith) (omega arith) (omega arith) la lb lc ld

  five-moved : IsMoved 5 text x
  five-moved =
      let moved : x * 16777216 % 18446744073709551616
      ≡ 16777216 * (a + 256 * (b + 256 * (c + 256 * (d + 256 * e)))) = omega arith in
      bytes-eight 0 0 0 a b c d e _ (omega (arith, moved))
      (omega arith) (omega arith) (omega arith) la lb lc ld le

  six-moved : IsMoved 6 text x
  six-moved =
      let moved : x * 65536 % 18446744073709551616
      ≡ 65536 * (a + 256 * (b + 256 * (c + 256 * (d + 256 * (e + 256 * f))))) = omega arith in
      bytes-eight 0 0 a b c d e f _ (omega (arith, moved))
      (omega arith) (omega arith) la lb lc ld le lf

  seven-moved : IsMoved 7 text x
  seven-moved =
      let moved : x * 256 % 18446744073709551616
      ≡ 256 * (a + 256 * (b + 256 * (c + 256 * (d + 256 * (e + 256 * (f + 256 * g)))))) =
      omega arith in
      bytes-eight 0 a b c d e f g _ (omega (arith, moved))
      (omega arith) la lb lc ld le lf lg

  eight-moved : IsMoved 8 text x
  eight-moved =
      bytes-eight a b c d e f g h _
      (let moved : x * 1 % 18446744073709551616 ≡ x = omega arith in moved ∙ is)
      la lb lc ld le lf lg lh

moved : (a b c d e f g h x count : ℕ) (rest : List ℕ) → 0 < count → count ≤ 8
    → x ≡ a + 256 * (b + 256 * (c + 256 * (d + 256 * (e + 256 * (f + 256 * (g + 256 * h))))))
    → a < 256 → b < 256 → c < 256 → d < 256 → e < 256 → f < 256 → g < 256 → h < 256
    → IsMoved count (a ∷ b ∷ c ∷ d ∷ e ∷ f ∷ g ∷ h ∷ rest) x
moved a b c d e f g h x zero rest some few is la lb lc ld le lf lg lh = absurd (omega (arith, some))
moved a b c d e f g h x (suc zero) rest some few is la lb lc ld le lf lg lh =
    one-moved a b c d e f g h x rest is la lb lc ld le lf lg lh
moved a b c d e f g h x (suc (suc zero)) rest some few is la lb lc ld le lf lg lh =
    two-moved a b c d e f g h x rest is la lb lc ld le lf lg lh
moved a b c d e f g h x (suc (suc (suc zero))) rest some few is la lb lc ld le lf lg lh =
    three-moved a b c d e f g h x rest is la lb lc ld le lf lg lh
moved a b c d e f g h x (suc (suc (suc (suc zero)))) rest some few is la lb lc ld le lf lg lh =
    four-moved a b c d e f g h x rest is la lb lc ld le lf lg lh
moved a b c d e f g h x (suc (suc (suc (suc (suc zero))))) rest some few is la lb lc ld le lf lg lh =
    five-moved a b c d e f g h x rest is la lb lc ld le lf lg lh
moved a b c d e f g h x (suc (suc (suc (suc (suc (suc zero)))))) rest some few is la lb lc ld le lf
    lg lh =
    six-moved a b c d e f g h x rest is la lb lc ld le lf lg lh
moved a b c d e f g h x (suc (suc (suc (suc (suc (suc (suc zero))))))) rest some few is la lb lc ld
    le lf lg lh =
    seven-moved a b c d e f g h x rest is la lb lc ld le lf lg lh
moved a b c d e f g h x (suc (suc (suc (suc (suc (suc (suc (suc zero)))))))) rest some few is la lb
    lc ld le lf lg lh =
    eight-moved a b c d e f g h x rest is la lb lc ld le lf lg lh
moved a b c d e f g h x (suc (suc (suc (suc (suc (suc (suc (suc (suc n))))))))) rest some few is la
    lb lc ld le lf lg lh =
    absurd (omega (arith, few))

-- `IsMoved` for the number that is made of the first eight bytes of a text
pub moved-read : (text : List ℕ) (count x : ℕ) → 7 < length text → 0 < count → count ≤ 8
    → ((k : ℕ) → Fits w8 (get_or text k 0)) → x ≡ number_of (take 8 text) → IsMoved count text x
unfolding number_of
moved-read text count x long some few fits is =
    let front = eight-front text long in
    subst (λ t. IsMoved count t x) (sym front)
    (moved (get_or text 0 0) (get_or text 1 0) (get_or text 2 0) (get_or text 3 0)
    (get_or text 4 0) (get_or text 5 0) (get_or text 6 0) (get_or text 7 0) x count (drop 8 text)
    some few
    (let e : x ≡ number_l 256 (take 8 (get_or text 0 0 ∷ get_or text 1 0 ∷ get_or text 2 0
    ∷ get_or text 3 0 ∷ get_or text 4 0 ∷ get_or text 5 0 ∷ get_or text 6 0 ∷ get_or text 7 0
    ∷ drop 8 text)) = is ∙ ap (λ t. number_l 256 (take 8 t)) front in omega (arith, e))
    (fits 0).fits (fits 1).fits (fits 2).fits (fits 3).fits (fits 4).fits (fits 5).fits
    (fits 6).fits (fits 7).fits)

-- the highest bytes of `word` are those of the cell from `start` to `end`; the others are 0
abbrev pub IsWordOf : List ℕ → ℕ → ℕ → ℕ → Type 0
IsWordOf text start end word =
    bytes_of word ≡ replicate (8 - (end - start)) 0 ++ take (end - start) (drop start text)

-- ## The digits of a word

inside-small : (text : List ℕ) (i : ℕ) → IsInside text i → get_or text i 0 - 48 < 10
inside-small text i inside =
    ⊎_elim (λ (is : is_ascii_digit (get_or text i 0) ≡ true). (digit-least (get_or text i 0) is).1)
    (λ (minus : (get_or text i 0 ≡ 45) × (0 < i → is_ascii_digit (get_or text (i - 1) 0) ≡ false)
    × (is_ascii_digit (get_or text (i + 1) 0) ≡ true)).
    let is : get_or text i 0 ≡ 45 = minus.0 in omega (arith, is))
    inside

-- byte `i` of the cell is byte `start + i` of the text
cell-byte : (text : List ℕ) (start end i d : ℕ) → end ≤ length text → i < end - start
    → get_or (take (end - start) (drop start text)) i d ≡ get_or text (start + i) d
cell-byte text start end i d long below =
    get_or-take (end - start) (drop start text) i d below ∙ get_or-drop start text i d

-- no byte of the word of a number is above the digit 9
pub word-small : (text : List ℕ) (start end word : ℕ) → end ≤ length text
    → ((i : ℕ) → start ≤ i → i < end → IsInside text i) → IsWordOf text start end word
    → All (λ b. b - 48 < 10) (bytes_of word)
word-small text start end word long inside is =
    let cell : List ℕ = take (end - start) (drop start text) in
    let size : length cell ≡ end - start =
    length-take-le (end - start) (drop start text) (omega (arith, length-drop start text, long)) in
    subst (All (λ b. b - 48 < 10)) (sym is)
    (All-append (λ b. b - 48 < 10) (replicate (8 - (end - start)) 0) cell
    (All-replicate (λ b. b - 48 < 10) (8 - (end - start)) 0 (omega arith))
    (All-from_get_or (λ b. b - 48 < 10) cell 0 (λ i l.
    let below : i < end - start = omega (arith, l, size) in
    subst (λ b. b - 48 < 10) (sym (cell-byte text start end i 0 long below))
    (inside-small text (start + i) (inside (start + i) (omega arith) (omega (arith, below)))))))

joined-zeros : (n : ℕ) (bytes : List ℕ)
    → joined (map (λ b. b - 48) (replicate n 0 ++ bytes)) ≡ joined (map (λ b. b - 48) bytes)
unfolding joined
joined-zeros zero bytes = refl
joined-zeros (suc n) bytes = joined-zeros n bytes

-- the number of the digits of a word is that of its cell
word-number : (text : List ℕ) (start end word : ℕ) → IsWordOf text start end word
    → eight_of word ≡ decimal (take (end - start) (drop start text))
unfolding eight_of joined
word-number text start end word is =
    ap (λ bytes. joined (map (λ b. b - 48) bytes)) is
    ∙ joined-zeros (8 - (end - start)) (take (end - start) (drop start text))
    ∙ fold-map (λ n digit. n * 10 + digit) (λ b. b - 48) 0 (take (end - start) (drop start text))

any-zeros : (n : ℕ) (bytes : List ℕ)
    → list_any (λ b. b == 45) (replicate n 0 ++ bytes) ≡ list_any (λ b. b == 45) bytes
any-zeros zero bytes = refl
any-zeros (suc n) bytes = any-zeros n bytes

pub all-digits : (n : ℕ) (bytes : List ℕ)
    → ((i : ℕ) → i < n → is_ascii_digit (get_or bytes i 0) ≡ true)
    → list_all is_ascii_digit (take n bytes) ≡ true
all-digits zero bytes each = refl
all-digits (suc n) [] each = refl
all-digits (suc n) (b ∷ bytes) each =
    rw (each 0 (omega arith)) (all-digits n bytes (λ i l. each (suc i) (omega (arith, l))))

digit-no_minus : (b : ℕ) → is_ascii_digit b ≡ true → (b == 45) ≡ false
digit-no_minus b is = grind (arith, nat_tests)

none-minus : (n : ℕ) (bytes : List ℕ)
    → ((i : ℕ) → i < n → is_ascii_digit (get_or bytes i 0) ≡ true)
    → list_any (λ b. b == 45) (take n bytes) ≡ false
none-minus zero bytes each = refl
none-minus (suc n) [] each = refl
none-minus (suc n) (b ∷ bytes) each =
    rw (digit-no_minus b (each 0 (omega arith)))
    (none-minus n bytes (λ i l. each (suc i) (omega (arith, l))))

only-first : (a b : Bool) → b ≡ false → (a || b) ≡ a
only-first true b is = refl
only-first false b is = is

-- ## The value of a word

-- `digits_from` is behind the minus sign, where there is one
from-sign : (text : List ℕ) (start : ℕ)
    → start + bool_byte (get_or text start 0 == 45) ≡ digits_from text start
from-sign text start = by (get_or text start 0 == 45) refl
  where
    by : (b : Bool) → (get_or text start 0 == 45) ≡ b
        → start + bool_byte (get_or text start 0 == 45) ≡ digits_from text start
    by true is = rw is refl
    by false is = rw is (omega arith)

sign-least : (b : Bool) → bool_byte b ≤ 1
sign-least true = omega arith
sign-least false = omega arith

-- a cell is its first byte and then the others
cell-front : (text : List ℕ) (start end : ℕ) → end ≤ length text → start < end
    → take (end - start) (drop start text)
    ≡ get_or text start 0 ∷ take (end - (start + 1)) (drop (start + 1) text)
cell-front text start end long some =
    let more : end - start ≡ suc (end - (start + 1)) = omega (arith, some) in
    ap (λ n. take n (drop start text)) more
    ∙ ap (take (suc (end - (start + 1)))) (drop_more text start 0 (omega (arith, some, long)))

-- the bytes of a number after the first are digits
later-digits : (text : List ℕ) (start end i : ℕ) → IsNumberIn text start end
    → i < end - (start + 1) → is_ascii_digit (get_or (drop (start + 1) text) i 0) ≡ true
later-digits text start end i number below =
    ap is_ascii_digit (get_or-drop (start + 1) text i 0)
    ∙ number.digits (start + 1 + i)
    (omega (arith, from-sign text start, sign-least (get_or text start 0 == 45)))
    (omega (arith, below))

-- a word has a minus sign where its cell begins with one
word-minus : (text : List ℕ) (start end word : ℕ) → end ≤ length text → start < end
    → IsNumberIn text start end → IsWordOf text start end word
    → has_minus word ≡ (get_or text start 0 == 45)
unfolding has_minus
word-minus text start end word long some number is =
    let rest : List ℕ = drop (start + 1) text in
    ap (list_any (λ b. b == 45)) is
    ∙ any-zeros (8 - (end - start)) (take (end - start) (drop start text))
    ∙ ap (list_any (λ b. b == 45)) (cell-front text start end long some)
    ∙ only-first (get_or text start 0 == 45)
    (list_any (λ b. b == 45) (take (end - (start + 1)) rest))
    (none-minus (end - (start + 1)) rest
    (λ i below. later-digits text start end i number below))

-- the bytes of a cell have the same `decimal` with and without the minus sign
cell-number : (text : List ℕ) (start end : ℕ) → end ≤ length text → start < end
    → decimal (take (end - start) (drop start text))
    ≡ decimal (take (end - digits_from text start) (drop (digits_from text start) text))
cell-number text start end long some = by (get_or text start 0 == 45) refl
  where
    by : (b : Bool) → (get_or text start 0 == 45) ≡ b
        → decimal (take (end - start) (drop start text))
        ≡ decimal (take (end - digits_from text start) (drop (digits_from text start) text))
    by true is =
        rw is (ap decimal (cell-front text start end long some
        ∙ ap (λ b. b ∷ take (end - (start + 1)) (drop (start + 1) text))
        (equal-from (get_or text start 0) 45 is)))
    by false is = rw is refl

signed-small : (negative : Bool) (n : ℕ) → n < 100000000
    → signed negative n ≡ Some (signed_by negative n)
signed-small true n small =
    let test : nat_le n 2147483648 ≡ true = grind (arith, nat_tests) in rw test refl
signed-small false n small =
    let test : nat_le n 2147483647 ≡ true = grind (arith, nat_tests) in rw test refl

-- a text begins, from `start` on, with the number whose bytes are those of `word`
pub word-begins : (text : List ℕ) (start end word : ℕ) (last : Bool) → 31 < length text → end < 32
    → IsNumberIn text start end → IsWordOf text start end word
    → (ends_cell (get_or text end 0) ≡ true) × (last ≡ ends_line (get_or text end 0))
    → BeginsWith kind.Int (drop start text) (value_in word) (drop (end + 1) text) last
word-begins text start end word last long within number is stop =
    let minus : Bool = get_or text start 0 == 45 in
    let from : ℕ = digits_from text start in
    let sign : start + bool_byte minus ≡ from = from-sign text start in
    let most : bool_byte minus ≤ 1 = sign-least minus in
    let more : from < end = number.some in
    let short : end ≤ start + 8 = number.short in
    let count : ℕ = end - from in
    let past : start + bool_byte minus + count ≡ end = omega (arith, sign, more) in
    let some : start < end = omega (arith, sign, more) in
    let room : count ≤ length (drop from text) =
    omega (arith, length-drop from text, long, within) in
    let all : list_all is_ascii_digit (take count (drop from text)) ≡ true =
    all-digits count (drop from text) (λ i l.
    ap is_ascii_digit (get_or-drop from text i 0)
    ∙ number.digits (from + i) (omega arith) (omega (arith, l))) in
    let spelled : eight_of word ≡ decimal (take count (drop from text)) =
    word-number text start end word is
    ∙ cell-number text start end (omega (arith, long, within)) some in
    let small : decimal (take count (drop from text)) < 10 ^ count =
    digits-small count (drop from text) room all in
    let few : count ≤ 8 = omega (arith, sign, short) in
    let least : eight_of word < 100000000 =
    subst (λ n. n < 100000000) (sym spelled)
    (below _ _ _ small few) in
    let value : signed minus (eight_of word) ≡ Some (value_in word) =
    signed-small minus (eight_of word) least
    ∙ ap (λ b. Some (signed_by b (eight_of word)))
    (sym (word-minus text start end word (omega (arith, long, within)) some number is)) in
    subst (λ p. BeginsWith kind.Int (drop start text) (value_in word) (drop (p + 1) text) last) past
    (number-begins _ _ _ _ _ _ _ long refl (omega (arith, past, within)) (omega (arith, more)) few
    (subst (λ p. list_all is_ascii_digit (take count (drop p text)) ≡ true) (sym sign) all)
    (spelled ∙ ap (λ p. decimal (take count (drop p text))) (sym sign))
    (subst (λ n. n < 10 ^ count) (sym spelled) small)
    (subst (λ p. (ends_cell (get_or text p 0) ≡ true) × (last ≡ ends_line (get_or text p 0)))
    (sym past) stop)
    value)
