-- Bytes of a text in memory that are read at places.
use Rattle.std.proofs.Common.{◌≡◌, ◌∙◌, ℕ, ◌+◌, ◌-◌, ◌≤◌, List, ◌++◌, length, take, drop, ap}
use Rattle.std.proofs.Common.{arith, subst, sym}
use Rattle.std.proofs.lemmas.List.{drop-drop, length-drop, length-take-le, take-append-drop}
use Rattle.std.proofs.lemmas.List.{take_all, take_at}

-- bytes that are copied from a place of a text are the next bytes of the text there
pub copied_next : (all buffer copied : List ℕ) (place n : ℕ)
    → copied ≡ take n (take (length all - place) (drop place all))
    → n ≤ length (take (length all - place) (drop place all))
    → drop place all ≡ take n (copied ++ drop n buffer) ++ drop (place + n) all
copied_next all buffer copied place n is within =
    let rest = drop place all in
    let many = length-drop place all in
    let whole : take (length all - place) rest ≡ rest =
    take_all (length all - place) rest (omega (arith, many)) in
    let first : copied ≡ take n rest = is ∙ ap (take n) whole in
    let fits : n ≤ length rest = subst (λ (xs : List ℕ). n ≤ length xs) whole within in
    let long : length copied ≡ n = ap length first ∙ length-take-le n rest fits in
    let front : take n (copied ++ drop n buffer) ≡ take n rest =
    take_at copied (drop n buffer) n long ∙ first in
    sym (ap (λ (xs : List ℕ). xs ++ drop (place + n) all) front
    ∙ ap (λ (xs : List ℕ). take n rest ++ xs) (sym (drop-drop n place all))
    ∙ take-append-drop n rest)
