-- A text that grows piece by piece.
use Rattle.std.proofs.Common.{◌≡◌, ◌∙◌, ℕ, ◌+◌, ◌<◌, List, [], ◌∷◌, ◌++◌, ap}
use Rattle.std.proofs.Common.{append-nil, append_assoc}
use Rattle.std.proofs.Common.{flat_map, get_or, length, sym, take}
use Rattle.std.proofs.lemmas.Grind.{flat_map-append}
use Rattle.std.proofs.lemmas.List.{take_more}
use Rattle.lb_listing.specs.Compared.{counted}

pub grown : (a b c x y : List ℕ) → b ≡ a ++ x → c ≡ b ++ y → c ≡ a ++ (x ++ y)
grown a b c x y first second =
    second ∙ ap (λ (front : List ℕ). front ++ y) first ∙ append_assoc a x y

pub counted_piece : (a b word : List ℕ) (m n : ℕ) → b ≡ a ++ counted word m → m ≡ n
    → b ≡ a ++ counted word n
counted_piece a b word m n grew same = grew ∙ ap (λ (k : ℕ). a ++ counted word k) same

-- a text of k bytes grows by the piece of byte k to that of k + 1 bytes
pub bytes_more : (f : ℕ → List ℕ) (bytes : List ℕ) (k d : ℕ) (start old new : List ℕ)
    → k < length bytes → old ≡ start ++ flat_map f (take k bytes)
    → new ≡ old ++ f (get_or bytes k d) → new ≡ start ++ flat_map f (take (k + 1) bytes)
bytes_more f bytes k d start old new within before grew =
    let piece = f (get_or bytes k d) in
    let front = flat_map f (take k bytes) in
    let more : flat_map f (take (k + 1) bytes) ≡ front ++ piece =
    ap (flat_map f) (take_more bytes k d within)
    ∙ flat_map-append f (take k bytes) (get_or bytes k d ∷ [])
    ∙ ap (λ (rest : List ℕ). front ++ rest) (append-nil piece) in
    grew ∙ ap (λ (text : List ℕ). text ++ piece) before ∙ append_assoc start front piece
    ∙ ap (λ (rest : List ℕ). start ++ rest) (sym more)
