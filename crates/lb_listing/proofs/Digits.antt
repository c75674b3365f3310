-- An instant is read back from its digits.
use Rattle.std.proofs.Common.{◌≡◌, ◌≢◌, ℕ, ◌^◌, ◌<◌, List, length, get_or}
use Rattle.std.proofs.Common.{Result, Ok}
use Rattle.std.proofs.Common.{sym, ap, ◌∙◌, subst, arith, decimal, true, zero, suc}
use Rattle.std.specs.Result.{OkIff}
use Rattle.std.specs.Str.Parse.{AllDigits, ParsesUnsigned, digits_value}
use Rattle.std.proofs.lemmas.Bool.Decides.{nat_tests}
use Rattle.std.proofs.lemmas.Fmt.{decimal-digits_value, decimal_digit, first_decimal, parse-decimal}
use Rattle.std.proofs.lemmas.Str.Parse.{IsNumeralModel, numerals_by_value, parse_plain}
use Rattle.std.proofs.lemmas.Str.Parse.{tells_digits}
use Rattle.lb_listing.specs.Plain.{is_canonical}

digits : IsNumeralModel (AllDigits 10) (digits_value 10)
digits = numerals_by_value (AllDigits 10) tells_digits

pub plain_decimal : (t : ℕ) → t < 1000000 → is_canonical (decimal t) ≡ true
plain_decimal zero small = ap is_canonical (decimal_digit 0 (omega arith))
plain_decimal (suc t) small =
    let high : 48 < get_or (decimal (suc t)) 0 0 =
    first_decimal (suc t) (omega arith) (omega arith) in
    grind (arith, nat_tests)

no_plus : (bs : List ℕ) → is_canonical bs ≡ true → get_or bs 0 0 ≢ 43
no_plus bs plain e = grind (arith, nat_tests)

no_zeros : (bs : List ℕ) → is_canonical bs ≡ true → get_or bs 0 0 ≡ 48 → 0 < length bs →
    length bs ≡ 1
no_zeros bs plain e some = grind (arith, nat_tests)

-- digits that are read are those that are written for the number
pub read_some : (E : Type 0) (bs : List ℕ) (t : ℕ) → is_canonical bs ≡ true
    → OkIff {E = E} (Ok t) (AllDigits 10 bs × (0 < length bs) × (digits_value 10 bs < 2 ^ 32))
    (digits_value 10 bs) → bs ≡ decimal t
read_some E bs t plain h =
    let some : 0 < length bs = h.0.1 in
    sym (decimal-digits_value digits bs h.0.0 some (λ e. no_zeros bs plain e some)
    (let small : digits_value 10 bs < 2 ^ 32 = h.0.2 in omega arith))
    ∙ ap decimal (sym h.1)

pub parsed : {E : Type 0} (bs : List ℕ) (r : Result ℕ E) (t : ℕ) → is_canonical bs ≡ true
    → ParsesUnsigned 32 10 bs r → r ≡ Ok t → bs ≡ decimal t
parsed {E} bs r t plain parses is =
    read_some E bs t plain
    (subst (λ (x : Result ℕ E). OkIff x (AllDigits 10 bs × (0 < length bs)
    × (digits_value 10 bs < 2 ^ 32)) (digits_value 10 bs)) is
    (parse_plain digits 32 bs r parses (no_plus bs plain)))

-- digits that are written for a number are read as the number
pub read_back : {E : Type 0} (bs : List ℕ) (r : Result ℕ E) (t : ℕ) → t < 1000000
    → ParsesUnsigned 32 10 bs r → bs ≡ decimal t → r ≡ Ok t
read_back bs r t small parses e = parse-decimal 32 t bs r (omega arith) (omega arith) e parses
