-- A text is cut at its slash.
use Rattle.std.proofs.Common.{◌≡◌, ◌≢◌, ℕ, ◌<◌, List, Option, Some, None, length, get_or}
use Rattle.std.proofs.Common.{arith}
use Rattle.std.specs.Prelude.{IfNone}
use Rattle.std.specs.Option.{MatchOption}
use Rattle.std.specs.Borrow.{Bor}
use Rattle.std.specs.Int.{IsInRange}
use Rattle.std.proofs.lemmas.Option.{MatchOption-at_none, MatchOption-at_some}
use Rattle.std.proofs.lemmas.Str.Parse.{digit_at}
use Rattle.std.proofs.lemmas.Str.Pattern.{IsSplitOnceResult, split_after}
use Rattle.lb_part.specs.Counts.{IsCount}
use Rattle.lb_part.specs.Parts.{Names}
use Rattle.lb_part.specs.declared.part.Part.{Part}

no_slash : (digits : List ℕ) (n : ℕ) → IsCount digits n → (i : ℕ) → i < length digits
    → get_or digits i 0 ≢ 47
no_slash digits n count i within e =
    let digit : IsInRange 48 57 (get_or digits i 0) = digit_at digits i count.numeral.1 within in
    absurd (omega arith)

halves : (text : List ℕ) (r : Option (Bor (List ℕ) × Bor (List ℕ))) (part : Part)
    → IsSplitOnceResult 47 text r → (is : Names text part)
    → MatchOption r ⊥ (λ x. (x.0.now ≡ is.front) × (x.1.now ≡ is.rest))
halves text r part cut is =
    split_after 47 text is.front is.rest r cut (omega arith) is.parts
    (no_slash is.front part.number is.number)

pub none_if : {T : Type 0} (o : Option T) (P : Type 0) → P → IfNone o P
none_if None P p = p
none_if (Some x) P p = tt

pub halves_none : (text : List ℕ) (r : Option (Bor (List ℕ) × Bor (List ℕ))) (part : Part)
    → IsSplitOnceResult 47 text r → r ≡ None → Names text part → ⊥
halves_none text r part cut none is =
    let Q : Bor (List ℕ) × Bor (List ℕ) → Type 0 =
    λ x. (x.0.now ≡ is.front) × (x.1.now ≡ is.rest) in
    MatchOption-at_none {o = r} ⊥ Q none (halves text r part cut is)

pub halves_some : (text : List ℕ) (r : Option (Bor (List ℕ) × Bor (List ℕ))) (part : Part)
    (x : Bor (List ℕ) × Bor (List ℕ)) → IsSplitOnceResult 47 text r → r ≡ Some x
    → (is : Names text part) → (x.0.now ≡ is.front) × (x.1.now ≡ is.rest)
halves_some text r part x cut some is =
    let Q : Bor (List ℕ) × Bor (List ℕ) → Type 0 =
    λ y. (y.0.now ≡ is.front) × (y.1.now ≡ is.rest) in
    MatchOption-at_some {o = r} ⊥ Q x some (halves text r part cut is)
