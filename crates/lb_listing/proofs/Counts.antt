-- The last line, count by count.
use Rattle.std.proofs.Common.{◌≡◌, ℕ, ◌+◌, List, [], ◌∷◌, ◌++◌, flat_map, length, map}
use Rattle.std.proofs.Common.{ap, sym, ◌∙◌, append-nil, append_assoc, refl}
use Rattle.std.proofs.lemmas.Grind.{flat_map-append}
use Rattle.std.proofs.lemmas.List.{map-append, take_more}
use Rattle.std.proofs.lemmas.List.Folds.{list_any-append}
use Rattle.std.proofs.Common.{Bool, true, false, ◌<◌, get_or, take, zero, suc, arith}
use Rattle.std.specs.Prelude.{◌||◌}
use Rattle.std.specs.List.{list_any}
use Rattle.lb_listing.specs.Listings.{Line, line_of, lines_of, spelled}
use Rattle.lb_listing.specs.declared.entry.Entry.{Entry}

first_passes : (a b : Bool) → a ≡ true → (a || b) ≡ true
first_passes true b e = refl
first_passes false b e = let no : false ≡ true = e in cc

later_passes : (a b : Bool) → b ≡ true → (a || b) ≡ true
later_passes true b e = refl
later_passes false b e = e

-- some entry passes a test where the entry at a place does
pub any_at : (p : Line → Bool) (entries : List Entry) (k : ℕ) (d : Entry) → k < length entries
    → p (line_of (get_or entries k d)) ≡ true → list_any p (map line_of entries) ≡ true
any_at p [] k d within e = absurd (omega arith)
any_at p (x ∷ entries) zero d within e = first_passes (p (line_of x)) (list_any p (map line_of
    entries)) e
any_at p (x ∷ entries) (suc k) d within e =
    later_passes (p (line_of x)) (list_any p (map line_of entries))
    (any_at p entries k d (omega arith) e)

take_line : (entries : List Entry) (k : ℕ) (d : Entry) → k < length entries
    → map line_of (take (k + 1) entries)
    ≡ map line_of (take k entries) ++ line_of (get_or entries k d) ∷ []
take_line entries k d within =
    ap (λ (es : List Entry). map line_of es) (take_more entries k d within)
    ∙ map-append line_of (take k entries) (get_or entries k d ∷ [])

-- where none of the first k entries passes a test, and entry k does not, none of k + 1 entries
-- passes
pub none_more : (p : Line → Bool) (entries : List Entry) (k : ℕ) (d : Entry) → k < length entries
    → list_any p (map line_of (take k entries)) ≡ false → p (line_of (get_or entries k d)) ≡ false
    → list_any p (map line_of (take (k + 1) entries)) ≡ false
none_more p entries k d within none here =
    ap (list_any p) (take_line entries k d within)
    ∙ list_any-append p (map line_of (take k entries)) (line_of (get_or entries k d) ∷ [])
    ∙ ap (λ b. b || (p (line_of (get_or entries k d)) || false)) none
    ∙ ap (λ b. b || false) here

-- a text of k entries grows by the text of entry k to that of k + 1 entries
pub text_more : (f : Line → List ℕ) (entries : List Entry) (k : ℕ) (d : Entry)
    (start old new : List ℕ) → k < length entries
    → old ≡ start ++ flat_map f (map line_of (take k entries))
    → new ≡ old ++ f (line_of (get_or entries k d))
    → new ≡ start ++ flat_map f (map line_of (take (k + 1) entries))
text_more f entries k d start old new within before grown =
    let piece = f (line_of (get_or entries k d)) in
    let front = flat_map f (map line_of (take k entries)) in
    let more : flat_map f (map line_of (take (k + 1) entries)) ≡ front ++ piece =
    ap (flat_map f) (take_line entries k d within)
    ∙ flat_map-append f (map line_of (take k entries)) (line_of (get_or entries k d) ∷ [])
    ∙ ap (λ (rest : List ℕ). front ++ rest) (append-nil piece) in
    grown ∙ ap (λ (text : List ℕ). text ++ piece) before ∙ append_assoc start front piece
    ∙ ap (λ (rest : List ℕ). start ++ rest) (sym more)

-- the text of some lines, one line after the other
pub lines_flat : (listed : List Line) → lines_of listed ≡ flat_map spelled listed
lines_flat [] = refl
lines_flat (l ∷ listed) = ap (λ (rest : List ℕ). spelled l ++ rest) (lines_flat listed)
