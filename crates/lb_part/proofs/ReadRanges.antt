-- Bytes that are read behind others.
use Rattle.std.proofs.Common.{◌≡◌, ◌∙◌, ℕ, ◌+◌, ◌-◌, ◌≤◌, List, [], ◌++◌, length, take, drop, ap}
use Rattle.std.proofs.Common.{arith}
use Rattle.std.proofs.Common.{refl, subst, sym}
use Rattle.std.specs.Prelude.{replicate}
use Rattle.std.proofs.lemmas.List.{append-nil, drop_all, length-append, length-drop, length-take-le}
use Rattle.std.proofs.lemmas.List.{drop_at, take-append-drop, take_all, take_at}
use borrow.Rule.Slice.PartMut.{post_of}
use Rattle.lb_part.specs.Ranges.{HasRange, IsExtended}

-- a list with room behind it begins with the list
pub before-room : (xs old : List ℕ) (m n : ℕ) → xs ≡ take m old ++ replicate (m - n) 0
    → length old ≡ n → n ≤ m → take n xs ≡ old
before-room xs old m n is long fits =
    ap (take n) is
    ∙ ap (λ (front : List ℕ). take n (front ++ replicate (m - n) 0))
    (take_all m old (omega (arith, long, fits)))
    ∙ take_at old (replicate (m - n) 0) n long

-- a list whose room is filled is the old list and then the buffer
pub room-filled : (d xs old buffer : List ℕ) (n len : ℕ) → d ≡ xs → take n d ≡ old
    → n ≤ length d → length buffer ≡ length d - n → len ≡ length d
    → take len ((take n d ++ (buffer ++ post_of n (length d - n) d))
    ++ drop (length (take n d ++ (buffer ++ post_of n (length d - n) d))) xs)
    ≡ old ++ buffer
room-filled d xs old buffer n len same front fits many all =
    let rest = length-drop n d in
    let none : drop (length d - n) (drop n d) ≡ [] =
    drop_all (length d - n) (drop n d) (omega (arith, rest)) in
    let whole : take n d ++ (buffer ++ post_of n (length d - n) d) ≡ old ++ buffer =
    ap (λ (back : List ℕ). take n d ++ (buffer ++ back)) none
    ∙ ap (λ (back : List ℕ). take n d ++ back) (append-nil buffer)
    ∙ ap (λ (start : List ℕ). start ++ buffer) front in
    let both = length-append old buffer in
    let start : length old ≡ n = sym (ap length front) ∙ length-take-le n d fits in
    let long : length xs ≡ length d = sym (ap length same) in
    ap (λ (w : List ℕ). take len (w ++ drop (length w) xs)) whole
    ∙ ap (λ (w : List ℕ). take len ((old ++ buffer) ++ w))
    (drop_all (length (old ++ buffer)) xs (omega (arith, both, start, many, long, fits)))
    ∙ ap (take len) (append-nil (old ++ buffer))
    ∙ take_all len (old ++ buffer) (omega (arith, both, start, many, all, fits))

-- ## Ranges

-- a range is the bytes of a text at its place
pub range-is : (all : List ℕ) (from : ℕ) (range : List ℕ) → HasRange all from range
    → range ≡ take (length range) (drop from all)
range-is all from range r =
    sym (take_at range r.back (length range) refl)
    ∙ ap (take (length range))
    (sym (drop_at r.front (range ++ r.back) from r.place) ∙ ap (drop from) (sym r.whole))

-- bytes that are copied from a text in memory are a range of it
pub range-copied : (text all new : List ℕ) (from n : ℕ) → text ≡ all → from ≤ length text
    → n ≤ length text - from → new ≡ take (from + n - from) (drop from text)
    → HasRange all from new
range-copied text all new from n same begins fits is =
    let count : from + n - from ≡ n = omega arith in
    let range : new ≡ take n (drop from text) = is ∙ ap (λ m. take m (drop from text)) count in
    record {
      front = take from text;
      back = drop n (drop from text);
      whole = sym same
          ∙ sym (take-append-drop from text)
          ∙ ap (λ (w : List ℕ). take from text ++ w) (sym (take-append-drop n (drop from text)))
          ∙ ap (λ (w : List ℕ). take from text ++ (w ++ drop n (drop from text))) (sym range);
      place = length-take-le from text begins;
    }

-- bytes that are read behind no others are a range
pub range-alone : (all old new : List ℕ) (from count : ℕ) → old ≡ []
    → IsExtended all from count old new → HasRange all from new
range-alone all old new from count none e =
    subst (HasRange all from) (sym (e.whole ∙ ap (λ (o : List ℕ). o ++ e.range) none)) e.has
