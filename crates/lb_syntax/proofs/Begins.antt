-- The search for the first place of two bytes in a text.
use Rattle.std.proofs.Common.{◌≡◌, ℕ, ◌+◌, ◌<◌, false, [], ◌∷◌, length, drop, get_or, drop-cons}
use Rattle.std.proofs.Common.{add-one, Option, Some, None, refl, ap, subst, ◌∙◌, arith}
use Rattle.std.specs.Option.{option_map}
use Rattle.lb_syntax.specs.Tokens.{Text, begins, through}

-- the answer `rest` of a search from offset `at` on, counted from the front of the text
abbrev pub counted_on : ℕ → Option ℕ → Option ℕ
counted_on at rest = option_map (λ n. at + n) rest

counted_on-next : (at : ℕ) (rest : Option ℕ) →
    counted_on at (option_map (λ n. n + 1) rest) ≡ counted_on (at + 1) rest
counted_on-next at None = refl
counted_on-next at (Some n) =
    let e : at + (n + 1) ≡ at + 1 + n = omega arith in ap (λ k. Some k) e

through_cons : (first second b at : ℕ) (rest : Text) (o : Option ℕ) →
    begins (b ∷ rest) (first ∷ second ∷ []) ≡ false →
    o ≡ counted_on at (through (first ∷ second ∷ []) (b ∷ rest)) →
    o ≡ counted_on (at + 1) (through (first ∷ second ∷ []) rest)
through_cons first second b at rest o other e =
    (rw other at e) ∙ counted_on-next at (through (first ∷ second ∷ []) rest)

-- the search for two bytes that do not stand at `at` has the same answer from `at + 1` on
pub through_steps : (text : Text) (first second at : ℕ) (o : Option ℕ) →
    at < length text → begins (drop at text) (first ∷ second ∷ []) ≡ false →
    o ≡ counted_on at (through (first ∷ second ∷ []) (drop at text)) →
    o ≡ counted_on (at + 1) (through (first ∷ second ∷ []) (drop (at + 1) text))
through_steps text first second at o below other e =
    let pair = first ∷ second ∷ [] in
    let rest = drop (at + 1) text in
    let cons : drop at text ≡ get_or text at 0 ∷ rest = rw add-one (drop-cons text at 0 below) in
    let Differs : Text → Type 0 = λ t. begins t pair ≡ false in
    let Follows : Text → Type 0 = λ t. o ≡ counted_on at (through pair t) in
    through_cons first second (get_or text at 0) at rest o
    (subst Differs cons other) (subst Follows cons e)
