-- Cells that are Booleans, as the bits of a number.
use Rattle.std.proofs.Common.{ℕ, zero, suc, ◌≡◌, ◌+◌, ◌-◌, ◌*◌, ◌/◌, ◌%◌, ◌^◌, ◌<◌, ◌≤◌, Bool, true}
use Rattle.std.proofs.Common.{false, cond, eqb, leb, ◌==◌, ◌||◌, ◌&&◌, List, [], ◌∷◌, length}
use Rattle.std.proofs.Common.{get_or, map, take, drop, replicate, Fits, w8, w16, refl, sym, ap, ap₂}
use Rattle.std.proofs.Common.{◌∙◌, subst, arith, ⊎_elim, length-drop}
use Rattle.std.proofs.Math.Nat.{div-add-mod, mod-lt, mul-le-mul_right, pow-le-pow_right}
use Rattle.std.proofs.Math.Pow.{pow-lt}
use Rattle.std.proofs.lemmas.Bool.{cases_lt}
use Rattle.std.proofs.lemmas.Bool.Decides.{nat_tests}
use Rattle.std.proofs.lemmas.List.{get_or-drop, get_or-map, get_or-take}
use Rattle.std.proofs.lemmas.List.{length-take-le, same_lists}
use Rattle.std.proofs.lemmas.List.FromFn.{get_or-map-range_with_len}
use Rattle.std.proofs.lemmas.Nat.{pow-add, pow_pos}
use Rattle.std.proofs.lemmas.Nat.Bits.{bit_at_cat_high, bit_at_cat_low, bit_at_ones}
use Rattle.std.proofs.lemmas.Simd.{Each1-from_get_or, bit_mask_l, bitmask_splat, get_or_wider}
use Rattle.std.proofs.lemmas.Simd.{zip2_splat}
use Rattle.std.specs.Int.{bit_at}
use Rattle.std.specs.List.{range_with_len}
use lib.Lanes.{digits_l, mask_l, number_l, top, zip2}
use Rattle.lb_trace.specs.TruthBits.{HasBits, is_digit, is_inner, is_one, ones_in, truths_in}

-- ## Pairs of bytes

two-from : (xs : List ℕ) (i : ℕ) → i + 1 < length xs
    → number_l 256 (take 2 (drop i xs)) ≡ get_or xs i 0 + 256 * get_or xs (i + 1) 0
two-from [] i room = absurd (omega (arith, room))
two-from (x ∷ []) zero room = absurd (omega (arith, room))
two-from (x ∷ y ∷ rest) zero room = omega arith
two-from (x ∷ rest) (suc i) room =
    two-from rest i (omega (arith, room))
    ∙ ap (λ j. get_or rest i 0 + 256 * get_or (x ∷ rest) j 0)
    (let next : suc (i + 1) ≡ suc i + 1 = omega arith in next)

abbrev lanes : List ℕ → List ℕ
lanes text = digits_l 65536 16 (number_l 256 (take 32 text))

lane-at : (text : List ℕ) (k : ℕ) → 31 < length text → ((i : ℕ) → Fits w8 (get_or text i 0))
    → k < 16 → get_or (lanes text) k 0 ≡ get_or text (2 * k) 0 + 256 * get_or text (2 * k + 1) 0
lane-at text k long fits below =
    let front : List ℕ = take 32 text in
    let size : length front ≡ 32 = length-take-le 32 text (omega (arith, long)) in
    get_or_wider 256 2 65536 16 front k refl
    (Each1-from_get_or (λ x. x < 256) front 0 (λ i l.
    subst (λ x. x < 256) (sym (get_or-take 32 text i 0 (omega (arith, l, size)))) (fits i).fits))
    below
    ∙ two-from front (2 * k) (omega (arith, below, size))
    ∙ ap₂ (λ a b. a + 256 * b) (get_or-take 32 text (2 * k) 0 (omega (arith, below)))
    (get_or-take 32 text (2 * k + 1) 0 (omega (arith, below)))

abbrev from_zero : ℕ → ℕ
from_zero x = (x + 54224) % 65536

-- the mask of the pairs that pass a test; the number of a pair is taken less that of "0,"
module _ (t : ℕ → ℕ → Bool) (p : List ℕ → ℕ → Bool) where
  abbrev passes : List ℕ → List Bool
  passes text = map (λ k. p text (2 * k)) (range_with_len 0 16)

  pub mask-of : (text z : List ℕ) (mask : ℕ) → 31 < length text
      → ((i : ℕ) → Fits w8 (get_or text i 0))
      → ((i : ℕ) → t (from_zero (get_or text i 0 + 256 * get_or text (i + 1) 0)) 1 ≡ p text i)
      → mask ≡ mask_l (map (top 15) z) % 2 ^ 64
      → z ≡ zip2 (λ a b. cond (t a b) 65535 0)
      (zip2 (λ a b. (a + (65536 - b)) % 65536) (lanes text) (replicate 16 11312)) (replicate 16 1)
      → mask ≡ mask_l (passes text)
  mask-of text z mask long fits same is lanes_are =
      let shifted : List ℕ =
      zip2 (λ a b. (a + (65536 - b)) % 65536) (lanes text) (replicate 16 11312) in
      let moved : shifted ≡ map from_zero (lanes text) =
      zip2_splat (λ a b. (a + (65536 - b)) % 65536) (lanes text) 16 11312 refl in
      is ∙ ap (λ l. mask_l (map (top 15) l) % 2 ^ 64) lanes_are
      ∙ bitmask_splat w16 t shifted 16 1 refl (omega arith)
      ∙ ap mask_l (ap (map (λ x. t x 1)) moved
      ∙ same_lists (map (λ x. t x 1) (map from_zero (lanes text))) (passes text) refl
      (λ k d l.
      let below : k < 16 = omega (arith, l) in
      get_or-map (λ x. t x 1) (map from_zero (lanes text)) k 0 d below
      ∙ ap (λ x. t x 1) (get_or-map from_zero (lanes text) k 0 0 below
      ∙ ap from_zero (lane-at text k long fits below))
      ∙ same (2 * k)
      ∙ sym (get_or-map-range_with_len (λ j. p text (2 * j)) 0 16 k k d below (omega arith))))

both-digit : (a b : ℕ) → a < 256 → b < 256
    → leb (from_zero (a + 256 * b)) 1 ≡ (((a == 48) || (a == 49)) && (b == 44))
both-digit a b la lb = grind (arith, nat_tests)

both-one : (a b : ℕ) → a < 256 → b < 256
    → eqb (from_zero (a + 256 * b)) 1 ≡ ((a == 49) && (b == 44))
both-one a b la lb = grind (arith, nat_tests)

-- ## The bits of a number

bit-low : (m n k : ℕ) → k < n → bit_at m k ≡ bit_at (m % 2 ^ n) k
bit-low m n k below =
    let whole : m ≡ m / 2 ^ n * 2 ^ n + m % 2 ^ n = omega (arith, div-add-mod m (2 ^ n)) in
    ap (λ x. bit_at x k) whole ∙ bit_at_cat_low (m / 2 ^ n) n (m % 2 ^ n) k below

pub power-fits : (n : ℕ) → n < 64 → 1 * 2 ^ n % 2 ^ 64 ≡ 2 ^ n
power-fits n few = let small : 2 ^ n < 2 ^ 64 = pow-lt few in omega (arith, small)

pub truth-passes : (text : List ℕ) → ((i : ℕ) → Fits w8 (get_or text i 0)) → (i : ℕ)
    → leb (from_zero (get_or text i 0 + 256 * get_or text (i + 1) 0)) 1
    ≡ (is_digit text i && is_inner text i)
truth-passes text fits i =
    both-digit (get_or text i 0) (get_or text (i + 1) 0) (fits i).fits (fits (i + 1)).fits

pub one-passes : (text : List ℕ) → ((i : ℕ) → Fits w8 (get_or text i 0)) → (i : ℕ)
    → eqb (from_zero (get_or text i 0 + 256 * get_or text (i + 1) 0)) 1
    ≡ (is_one text i && is_inner text i)
one-passes text fits i =
    both-one (get_or text i 0) (get_or text (i + 1) 0) (fits i).fits (fits (i + 1)).fits

abbrev bit_from : Bool → ℕ
bit_from b = cond b 1 0

truth-from : (b : Bool) → bit_from b ≡ 1 → b ≡ true
truth-from true e = refl
truth-from false e = absurd (omega (arith, e))

same-bit : (b : Bool) → (bit_from b == 1) ≡ b
same-bit true = refl
same-bit false = refl

and-left : (a b : Bool) → (a && b) ≡ true → a ≡ true
and-left true b e = refl
and-left false b e = cc e

and-right : (a b : Bool) → (a && b) ≡ true → b ≡ true
and-right true b e = e
and-right false b e = cc e

and-true : (a : Bool) → (a && true) ≡ a
and-true true = refl
and-true false = refl

-- bit `k` of a mask of the pairs is 1 where pair `k` passes the test
bit-of : (p : List ℕ → ℕ → Bool) (text : List ℕ) (k : ℕ) → k < 16
    → bit_at (mask_l (map (λ j. p text (2 * j)) (range_with_len 0 16))) k
    ≡ cond (p text (2 * k)) 1 0
bit-of p text k below =
    bit_mask_l (map (λ j. p text (2 * j)) (range_with_len 0 16)) k
    ∙ ap (λ b. cond b 1 0)
    (get_or-map-range_with_len (λ j. p text (2 * j)) 0 16 k k false below (omega arith))

bits-in : (text : List ℕ) (count past : ℕ) → count ≤ 16 → 31 < length text
    → past ≡ 1 * 2 ^ count % 2 ^ 64 → truths_in text % past ≡ past - 1
    → HasBits text count (ones_in text % past)
unfolding truths_in ones_in
bits-in text count past few long is full =
    let power : past ≡ 2 ^ count = is ∙ power-fits count (omega (arith, few)) in
    let some : 0 < 2 ^ count = pow_pos count in
    let all : truths_in text % 2 ^ count ≡ 2 ^ count - 1 =
    subst (λ m. truths_in text % m ≡ m - 1) power full in
    let both : (k : ℕ) → k < count → (is_digit text (2 * k) && is_inner text (2 * k)) ≡ true =
    λ k l.
    truth-from (is_digit text (2 * k) && is_inner text (2 * k))
    (sym (bit-of (λ t i. is_digit t i && is_inner t i) text k (omega (arith, l, few)))
    ∙ bit-low (truths_in text) count k l ∙ ap (λ m. bit_at m k) all ∙ bit_at_ones count k l) in
    record {
      within = omega (arith, few, long);
      digits = λ k l. and-left (is_digit text (2 * k)) (is_inner text (2 * k)) (both k l);
      inner = λ k l. and-right (is_digit text (2 * k)) (is_inner text (2 * k)) (both k l);
      bits_are = λ k l.
          let end = and-right (is_digit text (2 * k)) (is_inner text (2 * k)) (both k l) in
          ap (λ m. bit_at (ones_in text % m) k == 1) power
          ∙ ap (λ x. x == 1) (sym (bit-low (ones_in text) count k l)
          ∙ bit-of (λ t i. is_one t i && is_inner t i) text k (omega (arith, l, few)))
          ∙ same-bit (is_one text (2 * k) && is_inner text (2 * k))
          ∙ ap (λ b. is_one text (2 * k) && b) end
          ∙ and-true (is_one text (2 * k));
      small = rw power (omega (arith, some, mod-lt (ones_in text) some));
    }

pub bits-found : (text : List ℕ) (count past truths ones : ℕ) → count ≤ 16 → 31 < length text
    → past ≡ 1 * 2 ^ count % 2 ^ 64 → truths ≡ truths_in text → truths % past ≡ past - 1
    → ones ≡ ones_in text → HasBits text count (ones % past)
bits-found text count past truths ones few long is truths_are full ones_are =
    subst (λ n. HasBits text count (n % past)) (sym ones_are)
    (bits-in text count past few long is (subst (λ n. n % past ≡ past - 1) truths_are full))

pub bits-fit : (bits group done more : ℕ) → bits < 2 ^ done → group < 2 ^ more → done + more ≤ 64
    → (group * 2 ^ done % 2 ^ 64 ≡ group * 2 ^ done)
    × (bits + group * 2 ^ done < 2 ^ (done + more)) × (bits + group * 2 ^ done < 2 ^ 64)
bits-fit bits group done more low high few =
    let whole : 2 ^ (done + more) ≡ 2 ^ done * 2 ^ more = pow-add 2 done more in
    let most : (group + 1) * 2 ^ done ≤ 2 ^ more * 2 ^ done =
    mul-le-mul_right (2 ^ done) (omega (arith, high)) in
    let some : 0 < 2 = omega arith in
    let within : 2 ^ (done + more) ≤ 2 ^ 64 = pow-le-pow_right some few in
    let size : bits + group * 2 ^ done < 2 ^ (done + more) =
    omega (arith, low, most, whole) in (
      omega (arith, size, within),
      size,
      omega (arith, size, within),
    )

abbrev Cell : List ℕ → ℕ → ℕ → Type 0
Cell text bits k =
    (is_digit text (2 * k) ≡ true) × (is_inner text (2 * k) ≡ true)
    × ((bit_at bits k == 1) ≡ is_one text (2 * k))

cell-before : (text : List ℕ) (done bits group k : ℕ) → HasBits text done bits → k < done
    → Cell text (bits + group * 2 ^ done) k
cell-before text done bits group k front l =
    let order : bits + group * 2 ^ done ≡ group * 2 ^ done + bits = omega arith in (
      front.digits k l,
      front.inner k l,
      ap (λ n. bit_at n k == 1) order ∙ ap (λ n. n == 1) (bit_at_cat_low group done bits k l)
          ∙ front.bits_are k l,
    )

cell-after : (text : List ℕ) (done more bits group k : ℕ) → bits < 2 ^ done
    → HasBits (drop (2 * done) text) more group → done ≤ k → k < done + more
    → Cell text (bits + group * 2 ^ done) k
cell-after text done more bits group k low back le l =
    let order : bits + group * 2 ^ done ≡ group * 2 ^ done + bits = omega arith in
    let j : k - done < more = omega (arith, le, l) in
    let there : (i : ℕ) → get_or (drop (2 * done) text) (2 * (k - done) + i) 0
    ≡ get_or text (2 * k + i) 0 =
    λ i.
    get_or-drop (2 * done) text (2 * (k - done) + i) 0
    ∙ ap (λ n. get_or text n 0) (omega (arith, le)) in
    let first : get_or (drop (2 * done) text) (2 * (k - done)) 0 ≡ get_or text (2 * k) 0 =
    get_or-drop (2 * done) text (2 * (k - done)) 0
    ∙ ap (λ n. get_or text n 0) (omega (arith, le)) in (
      ap (λ b. (b == 48) || (b == 49)) (sym first) ∙ back.digits (k - done) j,
      ap (λ b. b == 44) (sym (there 1)) ∙ back.inner (k - done) j,
      ap (λ n. bit_at n k == 1) order ∙ ap (λ n. n == 1) (bit_at_cat_high group done bits k low le)
          ∙ back.bits_are (k - done) j ∙ ap (λ b. b == 49) first,
    )

-- the bits of `done` cells, and of `more` cells after them moved up, are those of all these cells
pub bits-joined : (text : List ℕ) (done more bits group : ℕ) → done + more < 64
    → HasBits text done bits → HasBits (drop (2 * done) text) more group
    → HasBits text (done + more) (bits + group * 2 ^ done % 2 ^ 64)
bits-joined text done more bits group few front back =
    let fit = bits-fit bits group done more front.small back.small (omega (arith, few)) in
    let cell : (k : ℕ) → k < done + more → Cell text (bits + group * 2 ^ done) k =
    λ k l.
    ⊎_elim (λ (lt : k < done). cell-before text done bits group k front lt)
    (λ (le : done ≤ k). cell-after _ _ _ _ _ _ front.small back le l) (cases_lt k done) in
    rw fit.0 (record {
      within = omega (arith, front.within, back.within, length-drop (2 * done) text);
      digits = λ k l. (cell k l).0;
      inner = λ k l. (cell k l).1;
      bits_are = λ k l. (cell k l).2;
      small = fit.1;
    })
