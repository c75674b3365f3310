-- Reports, line by line.
use Rattle.std.proofs.Common.{◌≡◌, ℕ, ◌+◌, ◌<◌, List, [], ◌∷◌, ◌++◌, length, drop, get_or, flat_map}
use Rattle.std.proofs.Common.{suc, ap, ap₂, map, sym, ◌∙◌, append-nil, append_assoc, add-one, arith}
use Rattle.std.proofs.Math.Seq.{drop-cons}
use Rattle.std.proofs.lemmas.Grind.{flat_map-append}
use Rattle.std.proofs.lemmas.List.Folds.{flat_map-map}
use Rattle.std.proofs.lemmas.List.FromFn.{map-range_with_len_more}
use Rattle.std.specs.List.{range_with_len}
use Rattle.lb_check.specs.declared.verdict.Verdict.{Verdict}
use Rattle.lb_output.specs.Reports.{line, lines}

-- the lines from a trace on are its own and those of the traces after it
pub lines-drop : (names : List (List ℕ)) (verdicts : List Verdict) (k : ℕ)
    (n : List ℕ) (v : Verdict)
    → k < length names → k < length verdicts
    → lines (drop k names) (drop k verdicts)
    ≡ line (get_or names k n) (get_or verdicts k v)
    ++ lines (drop (k + 1) names) (drop (k + 1) verdicts)
lines-drop names verdicts k n v named judged =
    let name = get_or names k n in
    let verdict = get_or verdicts k v in
    ap (λ rest. lines rest (drop k verdicts)) (drop-cons names k n named)
    ∙ ap (λ rest. lines (name ∷ drop (suc k) names) rest) (drop-cons verdicts k v judged)
    ∙ ap (λ j. line name verdict ++ lines (drop j names) (drop j verdicts)) (sym (add-one k))

-- the pieces of the numbers below n + 1 are those of the numbers below n, and that of n
pub flat_map-range_more : {A : Type 0} (f : ℕ → List A) (n : ℕ)
    → flat_map f (range_with_len 0 (n + 1)) ≡ flat_map f (range_with_len 0 n) ++ f n
flat_map-range_more f n =
    sym (flat_map-map (λ piece. piece) f (range_with_len 0 (n + 1)))
    ∙ ap (flat_map (λ piece. piece)) (map-range_with_len_more f 0 n n (omega arith))
    ∙ flat_map-append (λ piece. piece) (map f (range_with_len 0 n)) (f n ∷ [])
    ∙ ap₂ (λ xs ys. xs ++ ys) (flat_map-map (λ piece. piece) f (range_with_len 0 n))
    (append-nil (f n))

-- a text that grew by `piece` makes the same whole with what is then left
pub whole_after : {A : Type 0} (old new piece rest after whole : List A)
    → new ≡ old ++ piece → rest ≡ piece ++ after → old ++ rest ≡ whole → new ++ after ≡ whole
whole_after old new piece rest after whole grown parts before =
    ap (λ text. text ++ after) grown
    ∙ append_assoc old piece after
    ∙ ap (λ later. old ++ later) (sym parts)
    ∙ before

-- a text that grew twice ends with both pieces
pub ends_with_both : {A : Type 0} (start front done more old middle new first second : List A)
    → old ≡ start ++ (front ++ done) → middle ≡ old ++ first → new ≡ middle ++ second
    → more ≡ done ++ (first ++ second) → new ≡ start ++ (front ++ more)
ends_with_both start front done more old middle new first second before once twice parts =
    twice
    ∙ ap (λ text. text ++ second) once
    ∙ append_assoc old first second
    ∙ ap (λ text. text ++ (first ++ second)) before
    ∙ append_assoc start (front ++ done) (first ++ second)
    ∙ ap (λ text. start ++ text) (append_assoc front done (first ++ second))
    ∙ ap (λ text. start ++ (front ++ text)) (sym parts)
