-- A number by its sign and its digits.
use Rattle.std.proofs.Common.{ℕ, ◌≡◌, ◌+◌, ◌-◌, ◌<◌, ◌≤◌, ◌^◌, ◌==◌}
use Rattle.std.proofs.Common.{Bool, true, false, if◌then◌else◌, List, length}
use Rattle.std.proofs.Common.{get_or, take, drop, ℤ, Some, sym, ap, ◌∙◌, arith, subst}
use Rattle.std.proofs.lemmas.List.{drop-drop, get_or-drop, length-drop}
use Rattle.std.proofs.lemmas.List.{take_rest}
use Rattle.std.specs.Char.{is_ascii_digit}
use Rattle.std.specs.List.{list_all}
use mir.Val.{bool_byte}
use Rattle.lb_syntax.specs.declared.tree.Kind.TheVariants as kind
use Rattle.lb_trace.specs.Cells.{decimal, signed}
use Rattle.lb_trace.specs.Plain.{ends_line}
use Rattle.lb_trace.specs.PlainRows.{BeginsWith, BeginsWithNumber}
use Rattle.lb_trace.specs.Scan.{ends_cell}
use Rattle.lb_trace.proofs.SmallNumbers.{int-either, number-ended}

-- the text behind an optional sign at place `at`, as a slice gives it
sign-past : (negative : Bool) (text : List ℕ) (at sign : ℕ) → sign ≡ bool_byte negative
    → drop (at + sign) text
    ≡ (if negative then take (length (drop at text) - 1) (drop 1 (drop at text))
    else drop at text)
sign-past true text at sign is =
    ap (λ s. drop (at + s) text) is ∙ sym (drop-drop 1 at text)
    ∙ sym (take_rest (drop at text) 1)
sign-past false text at sign is =
    let none : at + sign ≡ at = omega (arith, is) in ap (λ n. drop n text) none

-- the text from place `at` on begins with the number whose sign and digits were found there
pub number-begins : (text : List ℕ) (at sign count n : ℕ) (x : ℤ) (last : Bool) → 31 < length text
    → sign ≡ bool_byte (get_or text at 0 == 45) → at + sign + count < 32 → 0 < count → count ≤ 8
    → list_all is_ascii_digit (take count (drop (at + sign) text)) ≡ true
    → n ≡ decimal (take count (drop (at + sign) text)) → n < 10 ^ count
    → (ends_cell (get_or text (at + sign + count) 0) ≡ true)
    × (last ≡ ends_line (get_or text (at + sign + count) 0))
    → signed (get_or text at 0 == 45) n ≡ Some x
    → BeginsWith kind.Int (drop at text) x (drop (at + sign + count + 1) text) last
number-begins text at sign count n x last long is within some few all e small end s =
    let first : ℕ = at + sign in
    let digits : List ℕ = drop first text in
    let size = length-drop first text in
    let here : get_or digits count 0 ≡ get_or text (first + count) 0 =
    get_or-drop first text count 0 in
    let past : drop (count + 1) digits ≡ drop (first + count + 1) text =
    drop-drop (count + 1) first text ∙ ap (λ n. drop n text) (omega arith) in
    let number = number-ended digits count n last (omega (arith, size, within, long)) some
    (omega (arith, few)) small all e
    (subst (λ b. (ends_cell b ≡ true) × (last ≡ ends_line b)) (sym here) end) in
    let begins : BeginsWithNumber digits n (drop (first + count + 1) text) last =
    subst (λ rest. BeginsWithNumber digits n rest last) (take_rest digits (count + 1) ∙ past)
    number in
    let whole = length-drop at text in
    let front : get_or (drop at text) 0 0 ≡ get_or text at 0 =
    get_or-drop at text 0 0 ∙ ap (λ k. get_or text k 0) (omega arith) in
    int-either _ _ _ _ _ _ _ (omega (arith, whole, within, long)) (ap (λ b. b == 45) (sym front))
    (sign-past _ _ _ sign is) begins s
