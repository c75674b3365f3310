-- Words, looked up among the reserved words of their length; symbols; and values of literals.
use Rattle.std.proofs.Common.{◌≡◌, ◌≢◌, ℕ, ◌+◌, ◌-◌, ◌*◌, ◌<◌, ◌≤◌, min, ◌==◌, Bool, true, List, [], ◌∷◌}
use Rattle.std.proofs.Common.{◌++◌, filter, fold, length, take, get_or, slice_index, Option, Some}
use Rattle.std.proofs.Common.{None, bytes_eq, refl, ap, sym, ◌∙◌, inl, inr, arith}
use Rattle.std.specs.List.{list_all}
use Rattle.std.proofs.lemmas.Bool.{eq-eqb, eqb-true, and_parts, cases_Bool, both_ways}
use Rattle.std.proofs.lemmas.List.Sums.{fold_more}
use lib.Pointwise.{pointwise_long}
use lib.Dec.{eqb}
use Rattle.std.proofs.Math.Bool.{and-false}
use Rattle.lb_syntax.specs.declared.token.Mark.{Mark}
use Rattle.lb_syntax.specs.declared.token.Token.TheVariants as token
use Rattle.lb_syntax.specs.Tokens.{Text, Piece, Lexeme, Wrong, words, lookup}
use Rattle.lb_syntax.specs.Tokens.{value_of, pairs, singles, symbols, symbol_of}

lookup_of_length : (table : List (Text × Mark)) (text : Text) →
    lookup (filter (λ entry. length entry.0 == length text) table) text ≡ lookup table text
lookup_of_length [] text = refl
lookup_of_length (entry ∷ table) text =
    elim (cases_Bool (length entry.0 == length text)) [
      | inl e ↦ elim (cases_Bool (bytes_eq entry.0 text)) [
        | inl same ↦ rw (e, same) refl
        | inr other ↦ rw (e, other) (lookup_of_length table text)
      ]
      | inr e ↦ elim (cases_Bool (bytes_eq entry.0 text)) [
        | inl same ↦ absurd (both_ways _ e (eq-eqb _ _ (pointwise_long eqb entry.0 text same)))
        | inr other ↦ rw (e, other) (lookup_of_length table text)
      ]
    ]

-- the mark of a word, from a search of the reserved words of its length
pub word_found : (text : Text) (found : List (Text × Mark)) (mark : Option Mark) →
    found ≡ filter (λ entry. length entry.0 == length text) words → mark ≡ lookup found text →
    mark ≡ lookup words text
word_found text found mark e f =
    f ∙ ap (λ table. lookup table text) e ∙ lookup_of_length words text

-- ---- symbols

abbrev found_or : ℕ → Option Mark → Piece → Piece
found_or n (Some mark) other = Lexeme (token.Mark mark) n
found_or n None other = other

abbrev are_long : ℕ → List (Text × Mark) → Bool
are_long n table = list_all (λ entry. length entry.0 == n) table

-- symbols of length `n` at the front of a table are found by the first `n` bytes of a text
symbol_by_lookup : (n : ℕ) (table later : List (Text × Mark)) (text : Text) →
    are_long n table ≡ true →
    symbol_of (table ++ later) text ≡ found_or n (lookup table (take n text)) (symbol_of later text)
symbol_by_lookup n [] later text all = refl
symbol_by_lookup n (entry ∷ table) later text all =
    let long : length entry.0 ≡ n =
    eqb-true _ _ (and_parts (length entry.0 == n) (are_long n table) all).0 in
    elim (cases_Bool (bytes_eq entry.0 (take n text))) [
      | inl same ↦ rw (long, same) refl
      | inr other ↦ rw (long, other)
          (symbol_by_lookup n table later text
          (and_parts (length entry.0 == n) (are_long n table) all).1)
    ]

-- no symbol in `pairs` has the byte 0 at its end, and none has one byte
no_pair : (b : ℕ) → lookup pairs (b ∷ []) ≡ lookup pairs (b ∷ 0 ∷ [])
no_pair b = simp and-false

first_two : (text : Text) → 0 < length text →
    lookup pairs (take 2 text) ≡ lookup pairs (slice_index text 0 ∷ slice_index text 1 ∷ [])
first_two [] some = absurd (omega arith)
first_two (b ∷ []) some = no_pair b
first_two (b ∷ c ∷ rest) some = refl

first_one : (text : Text) → 0 < length text → take 1 text ≡ slice_index text 0 ∷ []
first_one [] some = absurd (omega arith)
first_one (b ∷ rest) some = refl

-- the symbol at the front of a text is that of its first two bytes, or else of its first byte
pub symbol_is : (text : Text) (first second : ℕ) (two one : Option Mark) → 0 < length text →
    first ≡ slice_index text 0 → second ≡ slice_index text 1 →
    two ≡ lookup pairs (first ∷ second ∷ []) → one ≡ lookup singles (first ∷ []) →
    symbol_of symbols text ≡ found_or 2 two (found_or 1 one Wrong)
symbol_is text first second two one some f s t o =
    let pair : lookup pairs (take 2 text) ≡ two =
    first_two text some ∙
    sym (t ∙ ap (λ b. lookup pairs (b ∷ second ∷ [])) f ∙
    ap (λ b. lookup pairs (slice_index text 0 ∷ b ∷ [])) s) in
    let single : lookup singles (take 1 text) ≡ one =
    ap (λ bytes. lookup singles bytes) (first_one text some) ∙
    sym (o ∙ ap (λ b. lookup singles (b ∷ [])) f) in
    symbol_by_lookup 2 pairs singles text refl ∙
    ap (λ mark. found_or 2 mark (symbol_of singles text)) pair ∙
    ap (λ later. found_or 2 two later)
    (symbol_by_lookup 1 singles [] text refl ∙ ap (λ mark. found_or 1 mark Wrong) single)

-- a symbol has one byte or two
pub one_symbol : (text : Text) → length text ≡ 1 →
    lookup singles (slice_index text 0 ∷ []) ≡ lookup symbols text
one_symbol [] e = absurd (omega arith)
one_symbol (b ∷ []) e = simp and-false
one_symbol (b ∷ c ∷ rest) e = absurd (omega arith)

pub two_symbol : (text : Text) → length text ≡ 2 →
    lookup pairs (slice_index text 0 ∷ slice_index text 1 ∷ []) ≡ lookup symbols text
two_symbol [] e = absurd (omega arith)
two_symbol (b ∷ []) e = absurd (omega arith)
two_symbol (b ∷ c ∷ []) e = simp and-false
two_symbol (b ∷ c ∷ d ∷ rest) e = absurd (omega arith)

pub no_symbol : (text : Text) → length text ≢ 1 → length text ≢ 2 → None ≡ lookup symbols text
no_symbol [] e f = refl
no_symbol (b ∷ []) e f = absurd (e refl)
no_symbol (b ∷ c ∷ []) e f = absurd (f refl)
no_symbol (b ∷ c ∷ d ∷ rest) e f = simp and-false

-- ---- literals

pub value_of_none : value_of [] ≡ 0
unfolding value_of
value_of_none = refl

pub value_is_small : (digits : Text) → value_of digits ≤ 2147483648
unfolding value_of
value_is_small digits = omega arith

step_is_capped : (value digit : ℕ) →
    min (10 * value + digit) 2147483648 ≡ min (10 * min value 2147483648 + digit) 2147483648
step_is_capped value digit = omega arith

pub value_steps : (digits : Text) (i : ℕ) → i < length digits →
    value_of (take (i + 1) digits) ≡
    min (10 * value_of (take i digits) + (get_or digits i 0 - 48)) 2147483648
unfolding value_of
value_steps digits i below =
    rw (fold_more {Y = ℕ} _ 0 digits i 0 below)
    (step_is_capped
    (fold (λ value digit. 10 * value + (digit - 48)) 0 (take i digits))
    (get_or digits i 0 - 48))

pub ruleset value_laws = (value_of_none, value_is_small, value_steps)
