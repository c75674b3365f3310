-- Numbers of at most eight bytes, as words, four at once.
use Rattle.std.proofs.Common.{ℕ, zero, suc, ◌≡◌, ◌+◌, ◌-◌, ◌*◌, ◌/◌, ◌%◌, ◌^◌, ◌<◌, ◌≤◌, ◌==◌}
use Rattle.std.proofs.Common.{Bool, true, false, cond, not, ltb, eqb, List, [], ◌∷◌, length, get_or}
use Rattle.std.proofs.Common.{map, take, drop, replicate, All, Fits, w8, ℤ, refl, sym, ap, ap₂, ◌∙◌}
use Rattle.std.proofs.Common.{arith, subst, pos, w32, w64}
use Rattle.std.specs.Prelude.{neg_ℤ}
use Rattle.std.proofs.lemmas.List.Elements.{All-from_get_or}
use mir.Val.{to_z}
use Rattle.lb_trace.specs.Fronts.{bytes_of, joined}
use Rattle.lb_trace.specs.WordValues.{eight_of, has_minus, signed_by, turned, value_in}
use Rattle.std.proofs.Math.Nat.{div-div-eq-div-mul, mul-le-mul_left, mul-le-mul_right, pow-succ'}
use Rattle.std.proofs.Math.Nat.{pow-zero}
use Rattle.std.proofs.lemmas.Bool.Decides.{nat_tests}
use Rattle.std.proofs.lemmas.List.{drop-map, get_or-drop, get_or-map, get_or-take, get_or_default}
use Rattle.std.proofs.lemmas.List.{length-drop, length-map, length-take-le, same_lists, take-map}
use Rattle.std.proofs.lemmas.Simd.{Each1-from_get_or, Each1-weaker, get_or-sel_l, get_or-zip2}
use Rattle.std.proofs.lemmas.Simd.{get_or_narrower, get_or_wider, length-sel_l, length-zip2}
use Rattle.std.proofs.lemmas.Simd.{map-map, tops_compared, zip2_splat, zip2_splat_left}
use Rattle.std.specs.List.{list_any}
use lib.Bits.{and_mask, bit_and}
use lib.Lanes.{Each1, digits_l, number_l, pick_l, sel_l, top, zip2}

-- ## The lanes of other widths

two-from : (p : ℕ) (xs : List ℕ) (i : ℕ) → i + 1 < length xs
    → number_l p (take 2 (drop i xs)) ≡ get_or xs i 0 + p * get_or xs (i + 1) 0
two-from p [] i room = absurd (omega (arith, room))
two-from p (x ∷ []) zero room = absurd (omega (arith, room))
two-from p (x ∷ []) (suc i) room = absurd (omega (arith, room))
two-from p (x ∷ y ∷ rest) zero room =
    let none : p * zero ≡ 0 = omega arith in
    ap (λ n. x + p * (y + n)) none ∙ omega arith
two-from p (x ∷ rest) (suc i) room =
    two-from p rest i (omega (arith, room))
    ∙ ap (λ j. get_or rest i 0 + p * get_or (x ∷ rest) j 0)
    (let next : suc (i + 1) ≡ suc i + 1 = omega arith in next)

-- a lane of twice the width is made of two lanes
pub wide-lane : (p q n : ℕ) (xs : List ℕ) (j : ℕ) → q ≡ p ^ 2 → Each1 (λ x. x < p) xs
    → length xs ≡ 2 * n → j < n
    → get_or (digits_l q n (number_l p xs)) j 0 ≡ get_or xs (2 * j) 0 + p * get_or xs (2 * j + 1) 0
wide-lane p q n xs j square small long below =
    get_or_wider p 2 q n xs j square small below
    ∙ two-from p xs (2 * j) (omega (arith, below, long))

-- ## Pairs

pair-of : (a b : ℕ) → a < 10 → b < 10
    → (a + 256 * b) * 2561 % 65536 / 256 ^ 1 % 256 ≡ a * 10 + b
pair-of a b la lb = omega arith

below-from : (m : ℕ) (xs : List ℕ) → All (λ x. x < m) xs → (p : ℕ) → m ≤ p → Each1 (λ x. x < p) xs
below-from m xs all p le =
    Each1-from_get_or (λ x. x < p) xs 0 (λ i l. omega (arith, all i 0 l, le))

-- every second number from `a` on
abbrev pub seconds : ℕ → ℕ → List ℕ
seconds a zero = []
seconds a (suc n) = a ∷ seconds (a + 2) n

second-at : (a n j : ℕ) → j < n → get_or (seconds a n) j 0 ≡ a + 2 * j
second-at a zero j below = absurd (omega (arith, below))
second-at a (suc n) zero below = omega arith
second-at a (suc n) (suc j) below = second-at (a + 2) n j (omega (arith, below)) ∙ omega arith

seconds-long : (a n : ℕ) → length (seconds a n) ≡ n
seconds-long a zero = refl
seconds-long a (suc n) = ap suc (seconds-long (a + 2) n)

-- the products of two digits each with 2561
abbrev pub pair_products : List ℕ → List ℕ
pair_products digits =
    zip2 (λ a b. a * b % 65536) (digits_l 65536 16 (number_l 256 digits)) (replicate 16 2561)

-- the vector of pairs that the code computes of all digits
abbrev pub pair_lanes : List ℕ → List ℕ
pair_lanes digits =
    pick_l 0 (digits_l 256 32 (number_l 65536 (pair_products digits))) (seconds 1 16)

products-below : (xs : List ℕ) → Each1 (λ x. x < 65536) (map (λ x. x * 2561 % 65536) xs)
products-below [] = tt
products-below (x ∷ xs) = (omega arith, products-below xs)

pub pairs-lane : (digits : List ℕ) (j : ℕ) → length digits ≡ 32 → All (λ d. d < 10) digits → j < 16
    → get_or (pair_lanes digits) j 0
    ≡ get_or digits (2 * j) 0 * 10 + get_or digits (2 * j + 1) 0
pairs-lane digits j long small below =
    let lanes : List ℕ = digits_l 65536 16 (number_l 256 digits) in
    let products : List ℕ = map (λ x. x * 2561 % 65536) lanes in
    let bytes : List ℕ = digits_l 256 32 (number_l 65536 products) in
    let place : get_or (seconds 1 16) j 0 ≡ 2 * j + 1 =
    omega (arith, second-at 1 16 j below) in
    let same : pair_products digits ≡ products =
    zip2_splat (λ a b. a * b % 65536) lanes 16 2561 refl in
    ap (λ l. get_or (pick_l 0 (digits_l 256 32 (number_l 65536 l)) (seconds 1 16)) j 0) same
    ∙ get_or-map (λ k. get_or bytes k 0) (seconds 1 16) j 0 0
    (omega (arith, below, seconds-long 1 16))
    ∙ ap (λ k. get_or bytes k 0) place
    ∙ get_or_narrower 65536 2 256 32 products j 1 refl (products-below lanes) (omega arith)
    (omega (arith, below))
    ∙ ap (λ x. x / 256 ^ 1 % 256) (get_or-map (λ x. x * 2561 % 65536) lanes j 0 0 below
    ∙ ap (λ x. x * 2561 % 65536)
    (wide-lane 256 65536 16 digits j refl (below-from 10 digits small 256 (omega arith)) long
    below))
    ∙ pair-of (get_or digits (2 * j) 0) (get_or digits (2 * j + 1) 0)
    (small (2 * j) 0 (omega (arith, below, long)))
    (small (2 * j + 1) 0 (omega (arith, below, long)))

-- ## Joined halves

-- lanes below `q` whose lower half, by `mask`, is multiplied and added to the higher one
abbrev pub halves_joined : ℕ → ℕ → ℕ → ℕ → ℕ → ℕ
halves_joined q mask factor shift x = (bit_and x mask * factor % q + x / 2 ^ shift) % q

abbrev pub joined_lanes : ℕ → ℕ → ℕ → ℕ → ℕ → List ℕ → List ℕ
joined_lanes q n mask factor shift lanes =
    zip2 (λ a b. (a + b) % q)
    (zip2 (λ a b. a * b % q) (zip2 bit_and lanes (replicate n mask)) (replicate n factor))
    (zip2 (λ a b. a / 2 ^ b) lanes (replicate n shift))

joined-lane : (q n mask factor shift : ℕ) (lanes : List ℕ) (j : ℕ) → length lanes ≡ n → j < n
    → get_or (joined_lanes q n mask factor shift lanes) j 0
    ≡ halves_joined q mask factor shift (get_or lanes j 0)
joined-lane q n mask factor shift lanes j long below =
    let masked : List ℕ = map (λ x. bit_and x mask) lanes in
    let low : List ℕ = map (λ x. x * factor % q) masked in
    let high : List ℕ = map (λ x. x / 2 ^ shift) lanes in
    let size : length masked ≡ n = length-map lanes (λ x. bit_and x mask) ∙ long in
    let less : j < length low =
    omega (arith, below, size, length-map masked (λ x. x * factor % q)) in
    let wide : j < length high =
    omega (arith, below, long, length-map lanes (λ x. x / 2 ^ shift)) in
    ap₂ (λ xs ys. get_or (zip2 (λ a b. (a + b) % q) xs ys) j 0)
    (ap (λ l. zip2 (λ a b. a * b % q) l (replicate n factor)) (zip2_splat bit_and lanes n mask long)
    ∙ zip2_splat (λ a b. a * b % q) masked n factor size)
    (zip2_splat (λ a b. a / 2 ^ b) lanes n shift long)
    ∙ get_or-zip2 (λ a b. (a + b) % q) low high j 0 0 0 less wide
    ∙ ap₂ (λ a b. (a + b) % q)
    (get_or-map (λ x. x * factor % q) masked j 0 0 (omega (arith, below, size))
    ∙ ap (λ x. x * factor % q)
    (get_or-map (λ x. bit_and x mask) lanes j 0 0 (omega (arith, below, long))))
    (get_or-map (λ x. x / 2 ^ shift) lanes j 0 0 (omega (arith, below, long)))

-- ## Fours

four-of : (a b : ℕ) → a < 100 → b < 100
    → halves_joined 65536 255 100 8 (a + 256 * b) ≡ a * 100 + b
four-of a b la lb =
    let low : bit_and (a + 256 * b) 255 ≡ (a + 256 * b) % 256 = and_mask (a + 256 * b) 8 in
    ap (λ m. (m * 100 % 65536 + (a + 256 * b) / 256) % 65536) low ∙ omega arith

-- the vector of fours that the code computes of all pairs
abbrev pub four_lanes : List ℕ → List ℕ
four_lanes pairs = joined_lanes 65536 8 255 100 8 (digits_l 65536 8 (number_l 256 pairs))

pub fours-lane : (pairs : List ℕ) (j : ℕ) → length pairs ≡ 16 → All (λ p. p < 100) pairs → j < 8
    → get_or (four_lanes pairs) j 0
    ≡ get_or pairs (2 * j) 0 * 100 + get_or pairs (2 * j + 1) 0
fours-lane pairs j long small below =
    joined-lane 65536 8 255 100 8 (digits_l 65536 8 (number_l 256 pairs)) j refl below
    ∙ ap (halves_joined 65536 255 100 8)
    (wide-lane 256 65536 8 pairs j refl (below-from 100 pairs small 256 (omega arith)) long below)
    ∙ four-of (get_or pairs (2 * j) 0) (get_or pairs (2 * j + 1) 0)
    (small (2 * j) 0 (omega (arith, below, long)))
    (small (2 * j + 1) 0 (omega (arith, below, long)))

-- ## Eights

-- a number below `256 ^ n` is made of its `n` digits of base 256
number-again : (n x : ℕ) → x < 256 ^ n → number_l 256 (digits_l 256 n x) ≡ x
number-again zero x small = omega (arith, small)
number-again (suc n) x small =
    let power : 256 ^ suc n ≡ 256 * 256 ^ n = pow-succ' 256 n in
    let rest : x / 256 < 256 ^ n = omega (arith, small, power) in
    ap (λ r. x % 256 + 256 * r) (number-again n (x / 256) rest) ∙ omega arith

-- lanes below `p` make a number below `p` to the power of their number
number-below : (p : ℕ) (xs : List ℕ) → Each1 (λ x. x < p) xs → number_l p xs < p ^ length xs
number-below p [] small = subst (λ n. 0 < n) (sym (pow-zero p)) (omega arith)
number-below p (x ∷ xs) small =
    let below : number_l p xs < p ^ length xs = number-below p xs small.1 in
    let rest : number_l p xs + 1 ≤ p ^ length xs = omega (arith, below) in
    omega (arith, small.0, mul-le-mul_left p rest, pow-succ' p (length xs))

-- a lane of twice the width, by way of the bytes, is made of two lanes
pub wide-by_bytes : (p q n m : ℕ) (xs : List ℕ) (j : ℕ) → q ≡ p ^ 2 → p ^ (2 * n) ≡ 256 ^ m
    → Each1 (λ x. x < p) xs → length xs ≡ 2 * n → j < n
    → get_or (digits_l q n (number_l 256 (digits_l 256 m (number_l p xs)))) j 0
    ≡ get_or xs (2 * j) 0 + p * get_or xs (2 * j + 1) 0
wide-by_bytes p q n m xs j square size small long below =
    let within : number_l p xs < 256 ^ m =
    subst (λ s. number_l p xs < s) (ap (λ k. p ^ k) long ∙ size) (number-below p xs small) in
    ap (λ x. get_or (digits_l q n x) j 0) (number-again m (number_l p xs) within)
    ∙ wide-lane p q n xs j square small long below

eight-from : (a b : ℕ) → a < 10000 → b < 10000
    → halves_joined 4294967296 65535 10000 16 (a + 65536 * b) ≡ a * 10000 + b
eight-from a b la lb =
    let low : bit_and (a + 65536 * b) 65535 ≡ (a + 65536 * b) % 65536 =
    and_mask (a + 65536 * b) 16 in
    ap (λ m. (m * 10000 % 4294967296 + (a + 65536 * b) / 65536) % 4294967296) low ∙ omega arith

-- the vector of eights that the code computes of all fours
abbrev pub eight_lanes : List ℕ → List ℕ
eight_lanes fours =
    joined_lanes 4294967296 4 65535 10000 16
    (digits_l 4294967296 4 (number_l 256 (digits_l 256 16 (number_l 65536 fours))))

pub eights-lane : (fours : List ℕ) (j : ℕ) → length fours ≡ 8 → All (λ f. f < 10000) fours → j < 4
    → get_or (eight_lanes fours) j 0
    ≡ get_or fours (2 * j) 0 * 10000 + get_or fours (2 * j + 1) 0
eights-lane fours j long small below =
    joined-lane 4294967296 4 65535 10000 16
    (digits_l 4294967296 4 (number_l 256 (digits_l 256 16 (number_l 65536 fours)))) j refl below
    ∙ ap (halves_joined 4294967296 65535 10000 16)
    (wide-by_bytes 65536 4294967296 4 16 fours j refl refl
    (below-from 10000 fours small 65536 (omega arith)) long below)
    ∙ eight-from (get_or fours (2 * j) 0) (get_or fours (2 * j + 1) 0)
    (small (2 * j) 0 (omega (arith, below, long)))
    (small (2 * j + 1) 0 (omega (arith, below, long)))

-- ## Digits and minus signs

selected : (p : ℕ → Bool) (v : List ℕ) (n x y : ℕ) → length v ≡ n
    → sel_l (map p v) (replicate n x) (replicate n y) ≡ map (λ b. cond (p b) x y) v
selected p [] n x y long = refl
selected p (b ∷ v) zero x y long = absurd (omega (arith, long))
selected p (b ∷ v) (suc n) x y long =
    ap (λ l. cond (p b) x y ∷ l) (selected p v n x y (omega (arith, long)))

abbrev hit : ℕ → ℕ
hit b = cond (top 7 (cond (eqb b 45) 255 0)) 255 0

hits-are : (v : List ℕ) → length v ≡ 32
    → sel_l (map (top 7) (zip2 (λ a b. cond (eqb a b) 255 0) v (replicate 32 45)))
    (replicate 32 255) (replicate 32 0) ≡ map hit v
hits-are v long =
    ap (λ l. sel_l (map (top 7) l) (replicate 32 255) (replicate 32 0))
    (zip2_splat (λ a b. cond (eqb a b) 255 0) v 32 45 long)
    ∙ ap (λ l. sel_l l (replicate 32 255) (replicate 32 0))
    (map-map (top 7) (λ b. cond (eqb b 45) 255 0) v)
    ∙ selected _ _ _ _ _ long

hit-small : (b : Bool) → cond (top 7 (cond b 255 0)) 255 0 < 256
hit-small true = omega arith
hit-small false = omega arith

none-above : (r : ℕ) → (256 * r == 0) ≡ (r == 0)
none-above r = grind (arith, nat_tests)

past-hit : (n : ℕ) → (255 + n == 0) ≡ false
past-hit n = grind (arith, nat_tests)

past-none : (n : ℕ) → (0 + n == 0) ≡ (n == 0)
past-none n = grind (arith, nat_tests)

no-hit : (xs : List ℕ) → (number_l 256 (map hit xs) == 0) ≡ not (list_any (λ b. b == 45) xs)
no-hit [] = refl
no-hit (x ∷ xs) = by (eqb x 45) refl (no-hit xs)
  where
    by : (b : Bool) → eqb x 45 ≡ b
        → (number_l 256 (map hit xs) == 0) ≡ not (list_any (λ b. b == 45) xs)
        → (number_l 256 (map hit (x ∷ xs)) == 0) ≡ not (list_any (λ b. b == 45) (x ∷ xs))
    by true is rest = rw is (past-hit (256 * number_l 256 (map hit xs)))
    by false is rest =
        rw is (past-none (256 * number_l 256 (map hit xs)) ∙ none-above (number_l 256 (map hit xs))
        ∙ rest)

-- the words of the bytes, with 255 at each minus sign and 0 elsewhere
abbrev pub hit_words : List ℕ → List ℕ
hit_words bytes =
    digits_l 18446744073709551616 4 (number_l 256
    (sel_l (map (top 7) (zip2 (λ a b. cond (eqb a b) 255 0) bytes (replicate 32 45)))
    (replicate 32 255) (replicate 32 0)))

hit-lane : (bytes : List ℕ) (j : ℕ) → length bytes ≡ 32 → j < 4
    → (get_or (hit_words bytes) j 0 == 0)
    ≡ not (list_any (λ b. b == 45) (take 8 (drop (8 * j) bytes)))
hit-lane bytes j long below =
    let small : Each1 (λ x. x < 256) (map hit bytes) =
    Each1-from_get_or (λ x. x < 256) (map hit bytes) 0 (λ i l.
    let here : i < length bytes = omega (arith, l, length-map bytes hit) in
    subst (λ x. x < 256) (sym (get_or-map hit bytes i 0 0 here))
    (hit-small (eqb (get_or bytes i 0) 45))) in
    ap (λ l. get_or (digits_l 18446744073709551616 4 (number_l 256 l)) j 0 == 0)
    (hits-are bytes long)
    ∙ ap (λ n. n == 0) (get_or_wider 256 8 18446744073709551616 4 (map hit bytes) j refl small below)
    ∙ ap (λ l. number_l 256 (take 8 l) == 0) (drop-map hit (8 * j) bytes)
    ∙ ap (λ l. number_l 256 l == 0) (take-map hit 8 (drop (8 * j) bytes))
    ∙ no-hit (take 8 (drop (8 * j) bytes))

-- 1 where a word is not 0, else 0
abbrev pub mark_lanes : List ℕ → List ℕ
mark_lanes words =
    sel_l (map (top 63)
    (zip2 (λ a b. cond (not (eqb a b)) 18446744073709551615 0) words (replicate 4 0)))
    (replicate 4 1) (replicate 4 0)

mark : ℕ → ℕ
mark n = cond (not (eqb n 0)) 1 0

marks-are : (words : List ℕ) → length words ≡ 4 → mark_lanes words ≡ map mark words
unfolding mark
marks-are words long =
    ap (λ ms. sel_l ms (replicate 4 1) (replicate 4 0))
    (tops_compared w64 (λ a b. not (eqb a b)) words (replicate 4 0)
    ∙ zip2_splat (λ a b. not (eqb a b)) words 4 0 long)
    ∙ selected _ _ _ _ _ long

mark-zero : (n : ℕ) → (mark n == 0) ≡ (n == 0)
unfolding mark
mark-zero n = by (eqb n 0)
  where
    by : (b : Bool) → (cond (not b) 1 0 == 0) ≡ b
    by true = refl
    by false = refl

pub minus-lane : (bytes : List ℕ) (j : ℕ) → length bytes ≡ 32 → j < 4
    → (get_or (map (λ x. x) (mark_lanes (hit_words bytes))) j 0 == 0)
    ≡ not (list_any (λ b. b == 45) (take 8 (drop (8 * j) bytes)))
minus-lane bytes j long below =
    ap (λ l. get_or (map (λ x. x) l) j 0 == 0) (marks-are (hit_words bytes) refl)
    ∙ ap (λ n. n == 0) (get_or-map (λ x. x) (map mark (hit_words bytes)) j 0 0 below
    ∙ get_or-map mark (hit_words bytes) j 0 0 below)
    ∙ mark-zero (get_or (hit_words bytes) j 0)
    ∙ hit-lane bytes j long below

selected-own : (p : ℕ → Bool) (v : List ℕ) (n x : ℕ) → length v ≡ n
    → sel_l (map p v) (replicate n x) v ≡ map (λ b. cond (p b) x b) v
selected-own p [] n x long = refl
selected-own p (b ∷ v) zero x long = absurd (omega (arith, long))
selected-own p (b ∷ v) (suc n) x long =
    ap (λ l. cond (p b) x b ∷ l) (selected-own p v n x (omega (arith, long)))

same-lanes : (f g : ℕ → ℕ) (v : List ℕ) → Each1 (λ b. f b ≡ g b) v → map f v ≡ map g v
same-lanes f g [] same = refl
same-lanes f g (b ∷ v) same = ap₂ (λ x l. x ∷ l) same.0 (same-lanes f g v same.1)

above_zero : ℕ → ℕ
above_zero b = (cond (top 7 (cond (ltb b 48) 255 0)) 48 b + (256 - 48)) % 256

digit-lane : (b : ℕ) → b < 256 → above_zero b ≡ b - 48
unfolding above_zero
digit-lane b small = by (ltb b 48) refl
  where
    by : (t : Bool) → ltb b 48 ≡ t
        → (cond (top 7 (cond (ltb b 48) 255 0)) 48 b + (256 - 48)) % 256 ≡ b - 48
    by true is =
        let less : b < 48 = grind (arith, nat_tests, is) in rw is (omega (arith, less))
    by false is =
        let least : 48 ≤ b = grind (arith, nat_tests, is) in rw is (omega (arith, least, small))

pub digits-are : (v : List ℕ) → length v ≡ 32 → Each1 (Fits w8) v
    → zip2 (λ a b. (a + (256 - b)) % 256)
    (sel_l (map (top 7) (zip2 (λ a b. cond (ltb a b) 255 0) v (replicate 32 48)))
    (replicate 32 48) v) (replicate 32 48)
    ≡ map (λ b. b - 48) v
unfolding above_zero
digits-are v long fits =
    let own : ℕ → ℕ = λ b. cond (top 7 (cond (ltb b 48) 255 0)) 48 b in
    ap (λ l. zip2 (λ a b. (a + (256 - b)) % 256) (sel_l (map (top 7) l) (replicate 32 48) v)
    (replicate 32 48)) (zip2_splat (λ a b. cond (ltb a b) 255 0) v 32 48 long)
    ∙ ap (λ l. zip2 (λ a b. (a + (256 - b)) % 256) (sel_l l (replicate 32 48) v) (replicate 32 48))
    (map-map (top 7) (λ b. cond (ltb b 48) 255 0) v)
    ∙ ap (λ l. zip2 (λ a b. (a + (256 - b)) % 256) l (replicate 32 48))
    (selected-own _ _ _ _ long)
    ∙ zip2_splat (λ a b. (a + (256 - b)) % 256) (map own v) 32 48 (length-map v own ∙ long)
    ∙ map-map (λ a. (a + (256 - 48)) % 256) own v
    ∙ same-lanes _ _ _
    (Each1-weaker (Fits w8) (λ b. above_zero b ≡ b - 48) (λ b f. digit-lane b f.fits) v fits)

-- ## Signs

turned-from : (m n : ℕ) → n < 100000000
    → cond (not (eqb m 0)) ((0 + (4294967296 - n)) % 4294967296) n ≡ turned m n
turned-from m n small = by (eqb m 0) refl
  where
    by : (b : Bool) → eqb m 0 ≡ b
        → cond (not (eqb m 0)) ((0 + (4294967296 - n)) % 4294967296) n ≡ turned m n
    by true is = rw is refl
    by false is = rw is (omega arith)

-- the vector of the numbers, turned where they are marked
abbrev pub turned_lanes : List ℕ → List ℕ → List ℕ
turned_lanes minus numbers =
    sel_l (map (top 31)
    (zip2 (λ a b. cond (not (eqb a b)) 4294967295 0) minus (replicate 4 0)))
    (zip2 (λ a b. (a + (4294967296 - b)) % 4294967296) (replicate 4 0) numbers) numbers

module _ (minus numbers : List ℕ) (longer : length minus ≡ 4) (long : length numbers ≡ 4) where
  abbrev turn : ℕ → ℕ
  turn n = (0 + (4294967296 - n)) % 4294967296

  turned-are : turned_lanes minus numbers
      ≡ sel_l (map (λ m. not (eqb m 0)) minus) (map turn numbers) numbers
  turned-are =
      ap₂ (λ ms xs. sel_l ms xs numbers)
      (tops_compared w32 (λ a b. not (eqb a b)) minus (replicate 4 0)
      ∙ zip2_splat (λ a b. not (eqb a b)) minus 4 0 longer)
      (zip2_splat_left (λ a b. (a + (4294967296 - b)) % 4294967296) 0 4 numbers long)

  pub turned-long : length (turned_lanes minus numbers) ≡ 4
  turned-long =
      let size : length (map (λ m. not (eqb m 0)) minus) ≡ 4 =
      length-map minus (λ m. not (eqb m 0)) ∙ longer in
      let wide : length (map turn numbers) ≡ 4 = length-map numbers turn ∙ long in
      ap length turned-are
      ∙ length-sel_l (map (λ m. not (eqb m 0)) minus) (map turn numbers) numbers
      (size ∙ sym wide) (size ∙ sym long)
      ∙ size

  pub turned-lane : (j : ℕ) → All (λ n. n < 100000000) numbers → j < 4
      → get_or (turned_lanes minus numbers) j 0 ≡ turned (get_or minus j 0) (get_or numbers j 0)
  turned-lane j small below =
      let marks : List Bool = map (λ m. not (eqb m 0)) minus in
      let size : length marks ≡ 4 = length-map minus (λ m. not (eqb m 0)) ∙ longer in
      let wide : length (map turn numbers) ≡ 4 = length-map numbers turn ∙ long in
      ap (λ l. get_or l j 0) turned-are
      ∙ get_or-sel_l marks (map turn numbers) numbers j 0 (omega (arith, below, size))
      (omega (arith, below, wide)) (omega (arith, below, long))
      ∙ ap₂ (λ b x. cond b x (get_or numbers j 0))
      (get_or-map (λ m. not (eqb m 0)) minus j 0 false (omega (arith, below, longer)))
      (get_or-map turn numbers j 0 0 (omega (arith, below, long)))
      ∙ turned-from (get_or minus j 0) (get_or numbers j 0) (small j 0 (omega (arith, below, long)))

turned-below : (m n : ℕ) → n < 100000000 → turned m n < 4294967296
turned-below m n small = by (m == 0) refl
  where
    by : (b : Bool) → (m == 0) ≡ b → turned m n < 4294967296
    by true is = rw is (omega (arith, small))
    by false is = rw is (omega arith)

-- lanes of `turned` numbers are below 2^32
pub turned-small : (minus numbers lanes : List ℕ) → length lanes ≡ 4 → length numbers ≡ 4
    → All (λ n. n < 100000000) numbers
    → ((j : ℕ) → j < 4 → get_or lanes j 0 ≡ turned (get_or minus j 0) (get_or numbers j 0))
    → All (λ n. n < 4294967296) lanes
turned-small minus numbers lanes long size small each =
    All-from_get_or (λ n. n < 4294967296) lanes 0 (λ i l.
    let here : i < 4 = omega (arith, l, long) in
    subst (λ n. n < 4294967296) (sym (each i here))
    (turned-below (get_or minus i 0) (get_or numbers i 0) (small i 0 (omega (arith, here, size)))))

-- ## Values

positive : (n : ℕ) → n < 100000000 → to_z w32 n ≡ pos n
positive n small = grind (arith, nat_tests)

negative : (n : ℕ) → n < 100000000 → to_z w32 ((4294967296 - n) % 4294967296) ≡ neg_ℤ (pos n)
negative zero small = refl
negative (suc n) small =
    let turned : (4294967296 - suc n) % 4294967296 ≡ 4294967295 - n = omega (arith, small) in
    ap (to_z w32) turned ∙ grind (arith, nat_tests, small)

value-from : (m n : ℕ) → n < 100000000 → to_z w32 (turned m n) ≡ signed_by (not (m == 0)) n
value-from m n small = by (m == 0) refl
  where
    by : (b : Bool) → (m == 0) ≡ b → to_z w32 (turned m n) ≡ signed_by (not (m == 0)) n
    by true is = rw is (positive n small)
    by false is = rw is (negative n small)

digits-again : (xs : List ℕ) → Each1 (λ x. x < 4294967296) xs
    → digits_l 4294967296 (length xs) (number_l 4294967296 xs) ≡ xs
digits-again [] small = refl
digits-again (x ∷ xs) small =
    let rest : ℕ = number_l 4294967296 xs in
    let first : (x + 4294967296 * rest) % 4294967296 ≡ x = omega (arith, small.0) in
    let others : (x + 4294967296 * rest) / 4294967296 ≡ rest = omega (arith, small.0) in
    ap₂ (λ a b. a ∷ digits_l 4294967296 (length xs) b) first others
    ∙ ap (λ l. x ∷ l) (digits-again xs small.1)

-- four lanes, by way of their bytes, are themselves
lanes-again : (lanes : List ℕ) → length lanes ≡ 4 → Each1 (λ x. x < 4294967296) lanes
    → digits_l 4294967296 4 (number_l 256 (digits_l 256 16 (number_l 4294967296 lanes))) ≡ lanes
lanes-again lanes long small =
    let within : number_l 4294967296 lanes < 256 ^ 16 =
    subst (λ k. number_l 4294967296 lanes < 4294967296 ^ k) long
    (number-below 4294967296 lanes small) in
    ap (λ x. digits_l 4294967296 4 x) (number-again 16 (number_l 4294967296 lanes) within)
    ∙ ap (λ k. digits_l 4294967296 k (number_l 4294967296 lanes)) (sym long)
    ∙ digits-again lanes small

-- four lanes of `turned` numbers, as they are stored, are the numbers with their signs
pub values-are : (minus numbers lanes : List ℕ) → length minus ≡ 4 → length numbers ≡ 4
    → length lanes ≡ 4 → All (λ n. n < 100000000) numbers → All (λ n. n < 4294967296) lanes
    → ((j : ℕ) → j < 4 → get_or lanes j 0 ≡ turned (get_or minus j 0) (get_or numbers j 0))
    → map (to_z w32)
    (digits_l 4294967296 4 (number_l 256 (digits_l 256 16 (number_l 4294967296 lanes))))
    ≡ zip2 (λ m n. signed_by (not (m == 0)) n) minus numbers
values-are minus numbers lanes longer long size small fits each =
    let f : ℕ → ℕ → ℤ = λ m n. signed_by (not (m == 0)) n in
    let wide : length (zip2 f minus numbers) ≡ 4 =
    length-zip2 f minus numbers (longer ∙ sym long) ∙ longer in
    let high : length (map (to_z w32) lanes) ≡ 4 = length-map lanes (to_z w32) ∙ size in
    let below : Each1 (λ x. x < 4294967296) lanes =
    Each1-from_get_or (λ x. x < 4294967296) lanes 0 (λ i l. fits i 0 l) in
    ap (map (to_z w32)) (lanes-again lanes size below)
    ∙ same_lists (map (to_z w32) lanes) (zip2 f minus numbers) (high ∙ sym wide) (λ k d l.
    let here : k < 4 = omega (arith, l, high) in
    get_or-map (to_z w32) lanes k 0 d (omega (arith, here, size))
    ∙ ap (to_z w32) (each k here)
    ∙ value-from (get_or minus k 0) (get_or numbers k 0) (small k 0 (omega (arith, here, long)))
    ∙ sym (get_or-zip2 f minus numbers k 0 0 d (omega (arith, here, longer))
    (omega (arith, here, long))))

-- ## All lanes of words

digit-place : (n x i : ℕ) → i < n → get_or (digits_l 256 n x) i 0 ≡ x / 256 ^ i % 256
digit-place zero x i below = absurd (omega (arith, below))
digit-place (suc n) x zero below = omega arith
digit-place (suc n) x (suc i) below =
    digit-place n (x / 256) i (omega (arith, below))
    ∙ ap (λ y. y % 256) (div-div-eq-div-mul x 256 (256 ^ i) ∙ ap (λ m. x / m) (sym (pow-succ' 256 i)))

abbrev bytes_in : List ℕ → List ℕ
bytes_in words = digits_l 256 32 (number_l 18446744073709551616 words)

-- byte `r` of word `j` is byte `8 * j + r` of all words
byte-at : (words : List ℕ) (j r : ℕ) → length words ≡ 4
    → Each1 (λ w. w < 18446744073709551616) words → j < 4 → r < 8
    → get_or (bytes_in words) (8 * j + r) 0 ≡ get_or (bytes_of (get_or words j 0)) r 0
unfolding bytes_of
byte-at words j r long fits below few =
    get_or_narrower 18446744073709551616 8 256 32 words j r refl fits few (omega (arith, below, few))
    ∙ sym (digit-place 8 (get_or words j 0) r few)

bytes-eight : (w : ℕ) → length (bytes_of w) ≡ 8
unfolding bytes_of
bytes-eight w = refl

abbrev AreDigits : List ℕ → Type 0
AreDigits words = All (λ w. All (λ b. b - 48 < 10) (bytes_of w)) words

pub digits-small : (words : List ℕ) → length words ≡ 4
    → Each1 (λ w. w < 18446744073709551616) words → AreDigits words
    → All (λ d. d < 10) (map (λ b. b - 48) (bytes_in words))
digits-small words long fits all =
    All-from_get_or (λ d. d < 10) (map (λ b. b - 48) (bytes_in words)) 0 (λ i l.
    let below : i < 32 = omega (arith, l) in
    let j : ℕ = i / 8 in
    let r : ℕ = i % 8 in
    let few : r < 8 = omega arith in
    let here : j < 4 = omega (arith, below) in
    let place : 8 * j + r ≡ i = omega arith in
    let digit : get_or (bytes_of (get_or words j 0)) r 0 - 48 < 10 =
    all j 0 (omega (arith, here, long)) r 0 (omega (arith, few, bytes-eight (get_or words j 0))) in
    subst (λ d. d < 10)
    (sym (get_or-map (λ b. b - 48) (bytes_in words) i 0 0 below
    ∙ ap (λ k. get_or (bytes_in words) k 0 - 48) (sym place)
    ∙ ap (λ b. b - 48) (byte-at words j r long fits here few))) digit)

-- numbers that are made of two lanes below `m` are below `m * m`
pub sums-small : (m : ℕ) (parts : List ℕ) (sums : List ℕ) (n : ℕ) → length parts ≡ 2 * n
    → length sums ≡ n → All (λ d. d < m) parts
    → ((j : ℕ) → j < n → get_or sums j 0 ≡ get_or parts (2 * j) 0 * m + get_or parts (2 * j + 1) 0)
    → All (λ s. s < m * m) sums
sums-small m parts sums n long size small each =
    All-from_get_or (λ s. s < m * m) sums 0 (λ i l.
    let below : i < n = omega (arith, l, size) in
    let a : get_or parts (2 * i) 0 < m = small (2 * i) 0 (omega (arith, below, long)) in
    let b : get_or parts (2 * i + 1) 0 < m = small (2 * i + 1) 0 (omega (arith, below, long)) in
    let top : get_or parts (2 * i) 0 + 1 ≤ m = omega (arith, a) in
    omega (arith, each i below, b, mul-le-mul_right m top))

eight-joined : (a b c d e f g h n : ℕ)
    → n ≡ ((a * 10 + b) * 100 + (c * 10 + d)) * 10000 + ((e * 10 + f) * 100 + (g * 10 + h))
    → n ≡ joined (a ∷ b ∷ c ∷ d ∷ e ∷ f ∷ g ∷ h ∷ [])
unfolding joined
eight-joined a b c d e f g h n is = omega (arith, is)

-- lane `j` of the eights is the number of the digits of word `j`
pub number-lane : (words digits pairs fours eights : List ℕ) (j : ℕ) → length words ≡ 4
    → Each1 (λ w. w < 18446744073709551616) words → digits ≡ map (λ b. b - 48) (bytes_in words)
    → ((k : ℕ) → k < 16 → get_or pairs k 0
    ≡ get_or digits (2 * k) 0 * 10 + get_or digits (2 * k + 1) 0)
    → ((k : ℕ) → k < 8 → get_or fours k 0
    ≡ get_or pairs (2 * k) 0 * 100 + get_or pairs (2 * k + 1) 0)
    → ((k : ℕ) → k < 4 → get_or eights k 0
    ≡ get_or fours (2 * k) 0 * 10000 + get_or fours (2 * k + 1) 0)
    → j < 4 → get_or eights j 0 ≡ eight_of (get_or words j 0)
unfolding eight_of bytes_of
number-lane words digits pairs fours eights j long fits is two four eight below =
    let w : ℕ = get_or words j 0 in
    let digit : (r : ℕ) → r < 8 → get_or digits (8 * j + r) 0 ≡ get_or (bytes_of w) r 0 - 48 =
    λ r few. ap (λ l. get_or l (8 * j + r) 0) is
    ∙ get_or-map (λ b. b - 48) (bytes_in words) (8 * j + r) 0 0 (omega (arith, below, few))
    ∙ ap (λ b. b - 48) (byte-at words j r long fits below few) in
    let p = two (4 * j) (omega (arith, below)) in
    let q = two (4 * j + 1) (omega (arith, below)) in
    let r = two (4 * j + 2) (omega (arith, below)) in
    let s = two (4 * j + 3) (omega (arith, below)) in
    let t = four (2 * j) (omega (arith, below)) in
    let u = four (2 * j + 1) (omega (arith, below)) in
    eight-joined (get_or digits (8 * j + 0) 0) (get_or digits (8 * j + 1) 0)
    (get_or digits (8 * j + 2) 0) (get_or digits (8 * j + 3) 0) (get_or digits (8 * j + 4) 0)
    (get_or digits (8 * j + 5) 0) (get_or digits (8 * j + 6) 0) (get_or digits (8 * j + 7) 0)
    (get_or eights j 0)
    (omega (
      arith,
      eight j below,
      t,
      u,
      at pairs (2 * (2 * j)) (4 * j) (omega arith),
      at pairs (2 * (2 * j) + 1) (4 * j + 1) (omega arith),
      at pairs (2 * (2 * j + 1)) (4 * j + 2) (omega arith),
      at pairs (2 * (2 * j + 1) + 1) (4 * j + 3) (omega arith),
      p,
      q,
      r,
      s,
      at digits (2 * (4 * j)) (8 * j + 0) (omega arith),
      at digits (2 * (4 * j) + 1) (8 * j + 1) (omega arith),
      at digits (2 * (4 * j + 1)) (8 * j + 2) (omega arith),
      at digits (2 * (4 * j + 1) + 1) (8 * j + 3) (omega arith),
      at digits (2 * (4 * j + 2)) (8 * j + 4) (omega arith),
      at digits (2 * (4 * j + 2) + 1) (8 * j + 5) (omega arith),
      at digits (2 * (4 * j + 3)) (8 * j + 6) (omega arith),
      at digits (2 * (4 * j + 3) + 1) (8 * j + 7) (omega arith),
    ))
    ∙ ap joined (λ i. digit 0 (omega arith) i ∷ digit 1 (omega arith) i ∷ digit 2 (omega arith) i
    ∷ digit 3 (omega arith) i ∷ digit 4 (omega arith) i ∷ digit 5 (omega arith) i
    ∷ digit 6 (omega arith) i ∷ digit 7 (omega arith) i ∷ [])
  where
    at : (xs : List ℕ) (i k : ℕ) → i ≡ k → get_or xs i 0 ≡ get_or xs k 0
    at xs i k e = ap (λ m. get_or xs m 0) e

-- the bytes of word `j` are the eight from `8 * j` on of all words
word-bytes : (words : List ℕ) (j : ℕ) → length words ≡ 4
    → Each1 (λ w. w < 18446744073709551616) words → j < 4
    → take 8 (drop (8 * j) (bytes_in words)) ≡ bytes_of (get_or words j 0)
word-bytes words j long fits below =
    let rest : List ℕ = drop (8 * j) (bytes_in words) in
    let left : length rest ≡ 32 - 8 * j = length-drop (8 * j) (bytes_in words) in
    let size : length (take 8 rest) ≡ 8 = length-take-le 8 rest (omega (arith, left, below)) in
    same_lists (take 8 rest) (bytes_of (get_or words j 0)) (size ∙ sym (bytes-eight (get_or words j 0)))
    (λ k d l.
    let few : k < 8 = omega (arith, l, size) in
    let room : k < length rest = omega (arith, few, left, below) in
    get_or-take 8 rest k d few
    ∙ get_or_default rest k d 0 room
    ∙ get_or-drop (8 * j) (bytes_in words) k 0
    ∙ byte-at words j k long fits below few
    ∙ get_or_default (bytes_of (get_or words j 0)) k 0 d
    (omega (arith, few, bytes-eight (get_or words j 0))))

not-not : (a b : Bool) → a ≡ not b → not a ≡ b
not-not a true is = ap not is
not-not a false is = ap not is

-- the eights with their signs are the values of all words
pub all-values : (words digits pairs fours eights minus : List ℕ) → length words ≡ 4
    → Each1 (λ w. w < 18446744073709551616) words → digits ≡ map (λ b. b - 48) (bytes_in words)
    → ((k : ℕ) → k < 16 → get_or pairs k 0
    ≡ get_or digits (2 * k) 0 * 10 + get_or digits (2 * k + 1) 0)
    → ((k : ℕ) → k < 8 → get_or fours k 0
    ≡ get_or pairs (2 * k) 0 * 100 + get_or pairs (2 * k + 1) 0)
    → ((k : ℕ) → k < 4 → get_or eights k 0
    ≡ get_or fours (2 * k) 0 * 10000 + get_or fours (2 * k + 1) 0)
    → length eights ≡ 4 → length minus ≡ 4
    → ((j : ℕ) → j < 4 → (get_or minus j 0 == 0)
    ≡ not (list_any (λ b. b == 45) (take 8 (drop (8 * j) (bytes_in words)))))
    → zip2 (λ m n. signed_by (not (m == 0)) n) minus eights ≡ map value_in words
unfolding has_minus
all-values words digits pairs fours eights minus long fits is two four eight size marks signs =
    let f : ℕ → ℕ → ℤ = λ m n. signed_by (not (m == 0)) n in
    let wide : length (zip2 f minus eights) ≡ 4 =
    length-zip2 f minus eights (marks ∙ sym size) ∙ marks in
    same_lists (zip2 f minus eights) (map value_in words)
    (wide ∙ sym (length-map words value_in ∙ long))
    (λ k d l.
    let below : k < 4 = omega (arith, l, wide) in
    get_or-zip2 f minus eights k 0 0 d (omega (arith, below, marks)) (omega (arith, below, size))
    ∙ ap₂ signed_by
    (not-not (get_or minus k 0 == 0) (list_any (λ b. b == 45) (bytes_of (get_or words k 0)))
    (signs k below
    ∙ ap (λ bs. not (list_any (λ b. b == 45) bs)) (word-bytes words k long fits below)))
    (number-lane words digits pairs fours eights k long fits is two four eight below)
    ∙ sym (get_or-map value_in words k 0 d (omega (arith, below, long))))
