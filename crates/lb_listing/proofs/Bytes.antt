-- The bytes of a line, and the cut of a text at a byte.
use Rattle.std.proofs.Common.{◌≡◌, ◌≢◌, ℕ, ◌^◌, ◌<◌, ◌≤◌, List, [], ◌∷◌, ◌++◌, get_or}
use Rattle.std.proofs.Common.{Bool, true, IsTrue, refl, arith}
use Rattle.std.proofs.Common.{Some, None, Option, decimal, nat_lt, nat_le}
use Rattle.std.specs.Prelude.{◌&&◌}
use Rattle.std.specs.Int.{IsInRange}
use Rattle.std.specs.List.{All, list_all}
use Rattle.std.specs.Str.{IsUtf8}
use Rattle.std.specs.Str.Parse.{AllDigits}
use Rattle.std.proofs.lemmas.Bool.Decides.{nat_tests}
use Rattle.std.proofs.lemmas.Fmt.{decimal_is_IsNumeral}
use Rattle.std.proofs.lemmas.List.Elements.{All-append, All-cons, All-from_get_or, All-head}
use Rattle.std.proofs.lemmas.List.Elements.{All-nil}
use Rattle.std.proofs.lemmas.List.Elements.{All-tail, All-weaker}
use Rattle.std.proofs.lemmas.List.Sums.{AllPass-from_list_all}
use Rattle.std.proofs.lemmas.Str.{IsUtf8-from_ascii}
use Rattle.std.proofs.lemmas.Str.Ascii.{IsAscii-from_all}
use Rattle.std.proofs.lemmas.Str.Parse.{digit_at}
use Rattle.lb_check.specs.declared.verdict.Verdict.{Verdict}
use Rattle.lb_check.specs.declared.verdict.Verdict.TheVariants.{Passed, Fault, Undefined, Assertion}
use Rattle.lb_check.specs.declared.verdict.Verdict.TheVariants.{False}
use Rattle.lb_traces.specs.Traces.{IsTraceName, is_name_byte}
use Rattle.lb_output.specs.Reports.{instant, instant_of, place_of, words}
use Rattle.lb_listing.specs.Listings.{HasInstant, HasNo, IsInstant, IsLine, Line, body, said}

-- a byte of a line, which is no control character; and a byte of a name
abbrev pub IsInside : ℕ → Type 0
IsInside c = (32 ≤ c) × (c < 128)

abbrev pub IsNamed : ℕ → Type 0
IsNamed c = (45 ≤ c) × (c < 128)

is_inside : ℕ → Bool
is_inside c = nat_le 32 c && nat_lt c 128

inside_by : (c : ℕ) → IsTrue (is_inside c) → IsInside c
unfolding is_inside
inside_by c h = grind (arith, nat_tests)

named_by : (c : ℕ) → IsTrue (is_name_byte c) → IsNamed c
named_by c h = grind (arith, nat_tests)

pub name_bytes : (name : List ℕ) → IsTraceName name → All IsNamed name
name_bytes name lawful =
    All-weaker (λ c. IsTrue (is_name_byte c)) IsNamed named_by name lawful.bytes

by_test : (xs : List ℕ) → list_all is_inside xs ≡ true → All IsInside xs
by_test xs h =
    All-weaker (λ c. IsTrue (is_inside c)) IsInside inside_by xs (AllPass-from_list_all is_inside
    xs h)

word_test : (v : Verdict) → list_all is_inside (get_or words (place_of v) []) ≡ true
unfolding is_inside
word_test Passed = refl
word_test (Fault t) = refl
word_test (Undefined t) = refl
word_test (Assertion t) = refl
word_test (False t) = refl

digit_inside : (c : ℕ) → IsInRange 48 57 c → IsInside c
digit_inside c h = (omega arith, omega arith)

decimal_inside : (n : ℕ) → n < 2 ^ 64 → All IsInside (decimal n)
decimal_inside n small =
    let digits : AllDigits 10 (decimal n) = (decimal_is_IsNumeral n small).0.1 in
    All-from_get_or IsInside (decimal n) 0 (λ i h. digit_inside _ (digit_at (decimal n) i digits h))

space_inside : (xs : List ℕ) → All IsInside xs → All IsInside (32 ∷ xs)
space_inside xs h = All-cons IsInside 32 xs (omega arith, omega arith) h

instant_inside : (t : Option ℕ) → IsInstant t → All IsInside (instant t)
instant_inside None h = All-nil IsInside
instant_inside (Some t) h = space_inside (decimal t) (decimal_inside t (omega arith))

pub said_inside : (v : Verdict) → HasInstant v → All IsInside (said v)
said_inside v h =
    All-append IsInside (get_or words (place_of v) []) (instant (instant_of v))
    (by_test (get_or words (place_of v) []) (word_test v)) (instant_inside (instant_of v) h)

inside_name : (c : ℕ) → IsNamed c → IsInside c
inside_name c h = (omega arith, h.1)

pub body_inside : (l : Line) → IsLine l → All IsInside (body l)
body_inside l lawful =
    All-append IsInside l.0 (32 ∷ said l.1)
    (All-weaker IsNamed IsInside inside_name l.0 (name_bytes l.0 lawful.name))
    (space_inside (said l.1) (said_inside l.1 lawful.instant))

no_end : (c : ℕ) → IsInside c → c ≢ 10
no_end c h e = absurd (omega arith)

no_space : (c : ℕ) → IsNamed c → c ≢ 32
no_space c h e = absurd (omega arith)

-- there is no end of a line within a line, and no space in a name
pub body_has_no_end : (l : Line) → IsLine l → HasNo 10 (body l)
body_has_no_end l lawful =
    All-weaker IsInside (λ c. c ≢ 10) no_end (body l) (body_inside l lawful)

pub name_has_no_space : (name : List ℕ) → IsTraceName name → HasNo 32 name
name_has_no_space name lawful =
    All-weaker IsNamed (λ c. c ≢ 32) no_space name (name_bytes name lawful)

below : (c : ℕ) → IsInside c → c < 128
below c h = h.1

pub body_is_text : (l : Line) → IsLine l → IsUtf8 (body l)
body_is_text l lawful =
    IsUtf8-from_ascii (body l) (IsAscii-from_all (body l)
    (All-weaker IsInside (λ c. c < 128) below (body l) (body_inside l lawful)))

-- a text is cut in one way at the first byte of a kind
pub cut_once : (x : ℕ) (a b c d : List ℕ) → HasNo x a → HasNo x c → a ++ x ∷ b ≡ c ++ x ∷ d
    → (a ≡ c) × (b ≡ d)
cut_once x [] b [] d left right e = (refl, cc)
cut_once x [] b (y ∷ c) d left right e =
    let head : y ≡ x = cc in absurd (All-head (λ z. z ≢ x) y c right head)
cut_once x (y ∷ a) b [] d left right e =
    let head : y ≡ x = cc in absurd (All-head (λ z. z ≢ x) y a left head)
cut_once x (y ∷ a) b (z ∷ c) d left right e =
    let head : y ≡ z = cc in
    let tails : a ++ x ∷ b ≡ c ++ x ∷ d = cc in
    let rest : (a ≡ c) × (b ≡ d) =
    cut_once x a b c d (All-tail (λ w. w ≢ x) y a left) (All-tail (λ w. w ≢ x) z c right) tails in
    let first = rest.0 in (cc, rest.1)
