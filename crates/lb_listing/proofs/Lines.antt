-- The text of a line determines its trace and its verdict.
use Rattle.std.proofs.Common.{◌≡◌, ◌≢◌, ℕ, ◌^◌, ◌<◌, ◌≤◌, List, [], ◌∷◌, ◌++◌, length, get_or}
use Rattle.std.proofs.Common.{refl, sym, ap, ap₂, ◌∙◌, arith, codes, append_assoc}
use Rattle.std.proofs.Common.{decimal, flat_map, IsTrue, nat_le}
use Rattle.std.proofs.lemmas.Bool.Decides.{nat_tests}
use Rattle.std.proofs.lemmas.List.Elements.{All-weaker}
use Rattle.std.proofs.lemmas.List.Sums.{AllPass-from_list_all}
use Rattle.std.specs.Prelude.{◌==◌, false}
use Rattle.std.specs.Int.{IsInRange}
use Rattle.std.specs.List.{range_with_len}
use Rattle.std.proofs.lemmas.Fmt.{decimal_injective, decimal_is_IsNumeral}
use Rattle.std.proofs.lemmas.List.{append_cancel_left, get_or_append_left}
use Rattle.std.proofs.lemmas.Str.Parse.{digit_at}
use Rattle.lb_check.specs.declared.verdict.Verdict.{Verdict}
use Rattle.lb_check.specs.declared.verdict.Verdict.TheVariants.{Passed, Fault, Undefined, Assertion}
use Rattle.lb_check.specs.declared.verdict.Verdict.TheVariants.{False}
use Rattle.lb_output.specs.Reports.{counted, instant, instant_of, number, place_of, total, words}
use Rattle.lb_listing.specs.Listings.{HasInstant, HasNo, IsLine, Line, body, said, spelled}
use Rattle.lb_listing.proofs.Bytes.{body_has_no_end, cut_once, name_has_no_space}

pub spelled_is : (l : Line) → spelled l ≡ body l ++ 10 ∷ []
spelled_is l =
    ap (λ text. text ++ 10 ∷ [])
    (append_assoc l.0 (32 ∷ get_or words (place_of l.1) []) (instant (instant_of l.1)))

-- the text of a line with more text behind it
pub spelled_more : (l : Line) (r : List ℕ) → spelled l ++ r ≡ body l ++ 10 ∷ r
spelled_more l r = ap (λ text. text ++ r) (spelled_is l) ∙ append_assoc (body l) (10 ∷ []) r

same_instant : (word : List ℕ) (s t : ℕ) → s < 1000000 → t < 1000000
    → word ++ number s ≡ word ++ number t → s ≡ t
same_instant word s t below_s below_t e =
    let numbers : 32 ∷ decimal s ≡ 32 ∷ decimal t =
    append_cancel_left word (number s) (number t) e in
    let digits : decimal s ≡ decimal t = cc in
    decimal_injective s t (omega arith) (omega arith) digits

-- two texts that differ at a place are not equal
unlike : (k : ℕ) (xs ys : List ℕ) → (get_or xs k 0 == get_or ys k 0) ≡ false → xs ≡ ys → ⊥
unlike k xs ys other e =
    let same : get_or xs k 0 ≡ get_or ys k 0 = ap (λ (text : List ℕ). get_or text k 0) e in
    grind (arith, nat_tests)

first : (xs ys : List ℕ) → xs ≡ ys → get_or xs 0 0 ≡ get_or ys 0 0
first xs ys e = ap (λ (text : List ℕ). get_or text 0 0) e

-- the text of a verdict determines the verdict
pub said_only : (v w : Verdict) → HasInstant v → HasInstant w → said v ≡ said w → v ≡ w
said_only Passed Passed hv hw e = refl
said_only Passed (Fault t) hv hw e =
    absurd (unlike 0 (said Passed) (said (Fault t)) refl e)
said_only Passed (Undefined t) hv hw e =
    absurd (unlike 0 (said Passed) (said (Undefined t)) refl e)
said_only Passed (Assertion t) hv hw e =
    absurd (unlike 0 (said Passed) (said (Assertion t)) refl e)
said_only Passed (False t) hv hw e =
    absurd (unlike 0 (said Passed) (said (False t)) refl e)
said_only (Fault s) Passed hv hw e =
    absurd (unlike 0 (said (Fault s)) (said Passed) refl e)
said_only (Fault s) (Fault t) hv hw e = ap Fault (same_instant (codes "fault") s t hv hw e)
said_only (Fault s) (Undefined t) hv hw e =
    absurd (unlike 0 (said (Fault s)) (said (Undefined t)) refl e)
said_only (Fault s) (Assertion t) hv hw e =
    absurd (unlike 0 (said (Fault s)) (said (Assertion t)) refl e)
said_only (Fault s) (False t) hv hw e =
    absurd (unlike 2 (said (Fault s)) (said (False t)) refl e)
said_only (Undefined s) Passed hv hw e =
    absurd (unlike 0 (said (Undefined s)) (said Passed) refl e)
said_only (Undefined s) (Fault t) hv hw e =
    absurd (unlike 0 (said (Undefined s)) (said (Fault t)) refl e)
said_only (Undefined s) (Undefined t) hv hw e =
    ap Undefined (same_instant (codes "undefined") s t hv hw e)
said_only (Undefined s) (Assertion t) hv hw e =
    absurd (unlike 0 (said (Undefined s)) (said (Assertion t)) refl e)
said_only (Undefined s) (False t) hv hw e =
    absurd (unlike 0 (said (Undefined s)) (said (False t)) refl e)
said_only (Assertion s) Passed hv hw e =
    absurd (unlike 0 (said (Assertion s)) (said Passed) refl e)
said_only (Assertion s) (Fault t) hv hw e =
    absurd (unlike 0 (said (Assertion s)) (said (Fault t)) refl e)
said_only (Assertion s) (Undefined t) hv hw e =
    absurd (unlike 0 (said (Assertion s)) (said (Undefined t)) refl e)
said_only (Assertion s) (Assertion t) hv hw e =
    ap Assertion (same_instant (codes "assertion") s t hv hw e)
said_only (Assertion s) (False t) hv hw e =
    absurd (unlike 0 (said (Assertion s)) (said (False t)) refl e)
said_only (False s) Passed hv hw e =
    absurd (unlike 0 (said (False s)) (said Passed) refl e)
said_only (False s) (Fault t) hv hw e =
    absurd (unlike 2 (said (False s)) (said (Fault t)) refl e)
said_only (False s) (Undefined t) hv hw e =
    absurd (unlike 0 (said (False s)) (said (Undefined t)) refl e)
said_only (False s) (Assertion t) hv hw e =
    absurd (unlike 0 (said (False s)) (said (Assertion t)) refl e)
said_only (False s) (False t) hv hw e = ap False (same_instant (codes "false") s t hv hw e)

-- the first line of a text determines its trace and its verdict
pub line_only : (l m : Line) (r s : List ℕ) → IsLine l → IsLine m → spelled l ++ r ≡ spelled m ++ s
    → (l ≡ m) × (r ≡ s)
line_only l m r s first_is second_is e =
    let parts : (body l ≡ body m) × (r ≡ s) =
    cut_once 10 (body l) r (body m) s (body_has_no_end l first_is) (body_has_no_end m second_is)
    (sym (spelled_more l r) ∙ e ∙ spelled_more m s) in
    let within : (l.0 ≡ m.0) × (said l.1 ≡ said m.1) =
    cut_once 32 l.0 (said l.1) m.0 (said m.1) (name_has_no_space l.0 first_is.name)
    (name_has_no_space m.0 second_is.name) parts.0 in
    let verdicts : l.1 ≡ m.1 = said_only l.1 m.1 first_is.instant second_is.instant within.1 in
    (ap₂ {A = List ℕ} {B = Verdict} (λ name v. (name, v)) within.0 verdicts, parts.1)

regroup : (a b c d e : List ℕ) → (((a ++ b) ++ c) ++ d) ++ e ≡ a ++ (b ++ (c ++ (d ++ e)))
regroup a b c d e = simp append_assoc

letter : (v : Verdict) (r : List ℕ) → 97 ≤ get_or (said v ++ r) 0 0
letter Passed r = omega arith
letter (Fault t) r = omega arith
letter (Undefined t) r = omega arith
letter (Assertion t) r = omega arith
letter (False t) r = omega arith

digit : (n : ℕ) (r : List ℕ) → n < 2 ^ 64 → get_or (decimal n ++ r) 0 0 ≤ 57
digit n r small =
    let numeral = (decimal_is_IsNumeral n small).0 in
    let within : IsInRange 48 57 (get_or (decimal n) 0 0) =
    digit_at (decimal n) 0 numeral.1 numeral.0 in
    let here = get_or_append_left (decimal n) r 0 0 numeral.0 in omega (arith, here)

no_space : (c : ℕ) → IsTrue (nat_le 97 c) → c ≢ 32
no_space c h e = absurd (grind (arith, nat_tests))

total_has_no_space : HasNo 32 (codes "total")
total_has_no_space =
    All-weaker (λ c. IsTrue (nat_le 97 c)) (λ c. c ≢ 32) no_space (codes "total")
    (AllPass-from_list_all (λ c. nat_le 97 c) (codes "total") refl)

-- no line of a trace is a last line
pub line_not_total : (l : Line) (verdicts : List Verdict) (r s : List ℕ) → IsLine l
    → length verdicts < 2 ^ 64 → spelled l ++ r ≡ total verdicts ++ s → ⊥
line_not_total l verdicts r s lawful small e =
    let n = length verdicts in
    let counts = flat_map (counted verdicts) (range_with_len 0 (length words)) in
    let after = counts ++ (codes "\n" ++ s) in
    let here : body l ++ 10 ∷ r ≡ codes "total" ++ 32 ∷ (decimal n ++ after) =
    sym (spelled_more l r) ∙ e ∙ regroup (codes "total") (number n) counts (codes "\n") s in
    let there : l.0 ++ 32 ∷ (said l.1 ++ 10 ∷ r) ≡ codes "total" ++ 32 ∷ (decimal n ++ after) =
    sym (append_assoc l.0 (32 ∷ said l.1) (10 ∷ r)) ∙ here in
    let parts = cut_once 32 l.0 (said l.1 ++ 10 ∷ r) (codes "total") (decimal n ++ after)
    (name_has_no_space l.0 lawful.name) total_has_no_space there in
    let same = first _ _ parts.1 in
    let high = letter l.1 (10 ∷ r) in
    let low = digit n after small in
    absurd (omega (arith, same, high, low))
