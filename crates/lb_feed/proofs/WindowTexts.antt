-- The bytes between two places of a list.
use Rattle.std.proofs.Common.{◌≡◌, ◌∙◌, ℕ, ◌+◌, ◌-◌, ◌≤◌, List, ◌++◌, length, take, drop, ap, sym}
use Rattle.std.proofs.Common.{arith, length-append}
use Rattle.std.proofs.Math.Seq.{drop-append_seam, take-add, take-append_seam}
use Rattle.std.proofs.lemmas.List.{drop-append-le, drop-drop, drop-take, length-drop}
use Rattle.std.proofs.lemmas.List.{length-take-le, take-append-le, take-take}

-- the bytes from `start + count` on are those from `start` on, without the first `count`
pub without_first : (xs : List ℕ) (start end count : ℕ) → count ≤ end - start
    → take (end - (start + count)) (drop (start + count) xs)
    ≡ drop count (take (end - start) (drop start xs))
without_first xs start end count within =
    let rest = end - (start + count) in
    let all : end - start ≡ count + rest = omega (arith, within) in
    ap (take rest) (sym (drop-drop count start xs))
    ∙ sym (drop-take count rest (drop start xs))
    ∙ ap (λ n. drop count (take n (drop start xs))) (sym all)

-- the bytes between two places are the front up to `end`, without its first `start` bytes
of_front : (xs : List ℕ) (start end : ℕ) → start ≤ end
    → take (end - start) (drop start xs) ≡ drop start (take end xs)
of_front xs start end within =
    let all : end ≡ start + (end - start) = omega (arith, within) in
    sym (drop-take start (end - start) xs) ∙ ap (λ n. drop start (take n xs)) (sym all)

-- where `more` is written behind `end`, the bytes between two places grow by `more`
pub with_more : (xs ys more : List ℕ) (start end count : ℕ) → start ≤ end
    → take end ys ≡ take end xs → take count (drop end ys) ≡ more
    → take (end + count - start) (drop start ys) ≡ take (end - start) (drop start xs) ++ more
with_more xs ys more start end count within front behind =
    let here = end - start in
    let all : end + count - start ≡ here + count = omega (arith, within) in
    let place : start + here ≡ end = omega (arith, within) in
    let same : take here (drop start ys) ≡ take here (drop start xs) =
    of_front ys start end within ∙ ap (drop start) front ∙ sym (of_front xs start end within) in
    let last : take count (drop here (drop start ys)) ≡ more =
    ap (take count) (drop-drop here start ys ∙ ap (λ n. drop n ys) place) ∙ behind in
    ap (λ n. take n (drop start ys)) all
    ∙ take-add here count (drop start ys)
    ∙ ap (λ bytes. bytes ++ take count (drop here (drop start ys))) same
    ∙ ap (λ bytes. take here (drop start xs) ++ bytes) last

-- the front of a list stays where bytes are written behind it
front_stays : (xs buffer rest : List ℕ) (end : ℕ) → end ≤ length xs
    → take end (take end xs ++ (buffer ++ rest)) ≡ take end xs
front_stays xs buffer rest end within =
    let front = take end xs in
    let long : length front ≡ end = length-take-le end xs within in
    ap (λ n. take n (front ++ (buffer ++ rest))) (sym long)
    ∙ take-append_seam front (buffer ++ rest)

stands_behind : (xs buffer rest : List ℕ) (end count : ℕ) → end ≤ length xs
    → count ≤ length buffer
    → take count (drop end (take end xs ++ (buffer ++ rest))) ≡ take count buffer
stands_behind xs buffer rest end count within fits =
    let front = take end xs in
    let long : length front ≡ end = length-take-le end xs within in
    let behind : drop end (front ++ (buffer ++ rest)) ≡ buffer ++ rest =
    ap (λ n. drop n (front ++ (buffer ++ rest))) (sym long)
    ∙ drop-append_seam front (buffer ++ rest) in
    ap (take count) behind ∙ take-append-le count buffer rest fits

-- the bytes from `end` on are the same in a list with more behind it that is cut to `size`
range_in : (xs more : List ℕ) (size end count : ℕ) → end + count ≤ size → end + count ≤ length xs
    → take count (drop end (take size (xs ++ more))) ≡ take count (drop end xs)
range_in xs more size end count within fits =
    let left : ℕ = size - end in
    let all : size ≡ end + left = omega (arith, within) in
    let long : length (drop end xs) ≡ length xs - end = length-drop end xs in
    ap (λ n. take count (drop end (take n (xs ++ more)))) all
    ∙ ap (take count) (drop-take end left (xs ++ more))
    ∙ take-take count left (drop end (xs ++ more)) (omega (arith, within))
    ∙ ap (take count) (drop-append-le end xs more (omega (arith, fits)))
    ∙ take-append-le count (drop end xs) more (omega (arith, fits, long))

-- a list with `buffer` written behind its front is at least `end + count` long
written_long : (xs buffer rest : List ℕ) (end count : ℕ) → end ≤ length xs → count ≤ length buffer
    → end + count ≤ length (take end xs ++ (buffer ++ rest))
written_long xs buffer rest end count within fits =
    omega (
      arith,
      length-append (take end xs) (buffer ++ rest),
      length-append buffer rest,
      length-take-le end xs within,
      fits,
    )

pub range_behind : (xs buffer rest more : List ℕ) (size end count : ℕ) → end ≤ length xs
    → count ≤ length buffer → end + count ≤ size
    → take (end + count - end)
    (drop end (take size ((take end xs ++ (buffer ++ rest)) ++ more)))
    ≡ take count buffer
range_behind xs buffer rest more size end count within fits room =
    let all : List ℕ = take end xs ++ (buffer ++ rest) in
    let long : end + count - end ≡ count = omega arith in
    ap (λ n. take n (drop end (take size (all ++ more)))) long
    ∙ range_in all more size end count room (written_long xs buffer rest end count within fits)
    ∙ stands_behind xs buffer rest end count within fits

pub read_behind : (xs items buffer rest more : List ℕ) (size start end count : ℕ) → xs ≡ items
    → start ≤ end → end ≤ length xs → count ≤ length buffer → end + count ≤ size
    → take (end + count - start)
    (drop start (take size ((take end xs ++ (buffer ++ rest)) ++ more)))
    ≡ take (end - start) (drop start items) ++ take count buffer
read_behind xs items buffer rest more size start end count same ordered within fits room =
    let all : List ℕ = take end xs ++ (buffer ++ rest) in
    let long : end + count ≤ length all = written_long xs buffer rest end count within fits in
    let front : take end (take size (all ++ more)) ≡ take end items =
    take-take end size (all ++ more) (omega (arith, room))
    ∙ take-append-le end all more (omega (arith, long))
    ∙ front_stays xs buffer rest end within
    ∙ ap (take end) same in
    with_more items (take size (all ++ more)) (take count buffer) start end count ordered front
    (range_in all more size end count room long
    ∙ stands_behind xs buffer rest end count within fits)
