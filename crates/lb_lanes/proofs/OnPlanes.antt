-- One lane of a plane, through each operation on words.
use Rattle.std.proofs.Common.{◌≡◌, ℕ, zero, suc, ◌+◌, ◌-◌, ◌*◌, ◌/◌, ◌%◌, ◌^◌, ◌<◌, ◌≤◌, min, max}
use Rattle.std.proofs.Common.{Bool, true, false, not, ◌&&◌, ◌||◌, ◌==◌, List, get_or, cond, refl}
use Rattle.std.proofs.Common.{sym, ap, ap₂, ◌∙◌, subst, arith, nat_eq, w64}
use Rattle.std.proofs.Common.{le_of_suc-le-suc, not-suc-le-zero, mul_assoc, ◌⊎◌, inl, inr}
use Rattle.std.proofs.Common.{lit<}
use Rattle.std.specs.Int.{bit_at, trailing_zeros}
use Rattle.std.proofs.lemmas.Nat.Bits.{and_pow, bit_at_and, bit_at_or, bit_at_xor, bit_at_not}
use Rattle.std.proofs.lemmas.Nat.Bits.{bit_at-zero, bit_at_above, bit_at-trailing_zeros}
use Rattle.std.proofs.lemmas.Nat.Bits.{bit_at-lt}
use Rattle.std.proofs.lemmas.Nat.{pow_pos}
use Rattle.std.proofs.lemmas.Simd.{bit_mask_l}
use Rattle.std.proofs.lemmas.Bool.{cases_lt}
use lib.Bits.{bit_and, bit_or, bit_xor, shifted_even}
use lib.Lanes.{mask_l, top}
use lib.Pow.{field, mod-mod-pow, shr-shr, shl-shr, pow-add}
use Rattle.lb_lanes.specs.Correct.{IsSelection}
use Rattle.lb_lanes.specs.Planes.{on, differ}

bit_cases : (P : ℕ → Type 0) → P 0 → P 1 → (x : ℕ) → x < 2 → P x
bit_cases P p q zero h = p
bit_cases P p q (suc zero) h = q
bit_cases P p q (suc (suc r)) h = absurd (not-suc-le-zero (le_of_suc-le-suc (le_of_suc-le-suc h)))

two_bits : (P : ℕ → ℕ → Type 0) → P 0 0 → P 0 1 → P 1 0 → P 1 1 → (a b i : ℕ)
    → P (bit_at a i) (bit_at b i)
two_bits P p q r s a b i =
    bit_cases (λ x. P x (bit_at b i))
    (bit_cases (P 0) p q (bit_at b i) (bit_at-lt b i))
    (bit_cases (P 1) r s (bit_at b i) (bit_at-lt b i))
    (bit_at a i) (bit_at-lt a i)

pub on-and : (a b i : ℕ) → on (bit_and a b) i ≡ (on a i && on b i)
unfolding on
on-and a b i =
    ap (λ n. n == 1) (bit_at_and a b i)
    ∙ two_bits (λ x y. (min x y == 1) ≡ ((x == 1) && (y == 1))) refl refl refl refl a b i

pub on-or : (a b i : ℕ) → on (bit_or a b) i ≡ (on a i || on b i)
unfolding on
on-or a b i =
    ap (λ n. n == 1) (bit_at_or a b i)
    ∙ two_bits (λ x y. (max x y == 1) ≡ ((x == 1) || (y == 1))) refl refl refl refl a b i

pub on-xor : (a b i : ℕ) → on (bit_xor a b) i ≡ differ (on a i) (on b i)
unfolding on
on-xor a b i =
    ap (λ n. n == 1) (bit_at_xor a b i)
    ∙ two_bits (λ x y. ((x + y) % 2 == 1) ≡ differ (x == 1) (y == 1)) refl refl refl refl a b i

-- the word with each bit flipped
abbrev pub flip : ℕ → ℕ
flip a = 2 ^ 64 - 1 - a

pub on-flip : (a i : ℕ) → a < 2 ^ 64 → i < 64 → on (flip a) i ≡ not (on a i)
unfolding on
on-flip a i ha hi =
    ap (λ n. n == 1) (bit_at_not w64 a i ha hi)
    ∙ bit_cases (λ x. ((1 - x) == 1) ≡ not (x == 1)) refl refl (bit_at a i) (bit_at-lt a i)

pub on-zero : (i : ℕ) → on 0 i ≡ false
unfolding on
on-zero i = ap (λ n. n == 1) (bit_at-zero i)

-- each lane of the word of all ones is true
pub on-ones : (a i : ℕ) → a ≡ 2 ^ 64 - 1 → i < 64 → on a i ≡ true
on-ones a i e h = ap (λ n. on n i) e ∙ on-flip 0 i (lit< tt) h ∙ ap not (on-zero i)

pub on-above : (x k i : ℕ) → x < 2 ^ k → k ≤ i → on x i ≡ false
unfolding on
on-above x k i h le = ap (λ n. n == 1) (bit_at_above x k i h le)

pub on-mod_at : (w n i : ℕ) → i < w → on (n % 2 ^ w) i ≡ on n i
unfolding on
on-mod_at w n i h =
    let m = w - 1 - i in
    let e : m + 1 + i ≡ w = omega (arith, h) in
    ap (λ x. x == 1)
    (subst (λ w. bit_at (n % 2 ^ w) i ≡ bit_at n i) e (ap (λ x. x % 2) (field n (m + 1) i)
    ∙ mod-mod-pow (n / 2 ^ i) m 1))

pub on-mod : (n i : ℕ) → i < 64 → on (n % 2 ^ 64) i ≡ on n i
on-mod n i h = on-mod_at 64 n i h

pub on-shr : (x k j : ℕ) → on (x / 2 ^ k) j ≡ on x (k + j)
unfolding on
on-shr x k j = ap (λ n. n % 2 == 1) (shr-shr x k j)

-- the word shifted to the left
abbrev pub shl : ℕ → ℕ → ℕ
shl k y = y * 2 ^ k % 2 ^ 64

pub on-shl_high : (k j y : ℕ) → k + j < 64 → on (shl k y) (k + j) ≡ on y j
unfolding on
on-shl_high k j y h =
    on-mod (y * 2 ^ k) (k + j) h
    ∙ ap (λ x. x % 2 == 1) (sym (shr-shr (y * 2 ^ k) k j) ∙ ap (λ x. x / 2 ^ j) (shl-shr y k))

pub on-shl_low : (k i y : ℕ) → i < k → i < 64 → on (shl k y) i ≡ false
unfolding on
on-shl_low k i y lt h =
    let m = k - i - 1 in
    let e : suc m + i ≡ k = omega arith in
    let moved : y * 2 ^ (suc m + i) / 2 ^ i ≡ y * 2 ^ suc m
    = ap (λ x. x / 2 ^ i) (ap (λ x. y * x) (pow-add 2 (suc m) i)
    ∙ sym (mul_assoc y (2 ^ suc m) (2 ^ i)))
    ∙ shl-shr (y * 2 ^ suc m) i in
    on-mod (y * 2 ^ k) i h
    ∙ ap (λ x. x == 1) (subst (λ w. bit_at (y * 2 ^ w) i ≡ 0) e (ap (λ x. x % 2) moved
    ∙ shifted_even y m))

-- lane `i` of a mask made of Booleans is the Boolean at `i`
pub on-mask_l : (ms : List Bool) (i : ℕ) → on (mask_l ms) i ≡ get_or ms i false
unfolding on
on-mask_l ms i = ap (λ x. x == 1) (bit_mask_l ms i) ∙ back (get_or ms i false)
  where
    back : (b : Bool) → (cond b 1 0 == 1) ≡ b
    back true = refl
    back false = refl

-- a lane mask made of the eight lowest bits
abbrev pub lane_mask : ℕ → ℕ → Bool
lane_mask keep k = top 63 (cond (nat_eq (bit_and keep (2 ^ k)) (2 ^ k)) 18446744073709551615 0)

lane_mask_by : (p : ℕ) → 0 < p → (b : ℕ) → b < 2
    → top 63 (cond (nat_eq (b * p) p) 18446744073709551615 0) ≡ (b == 1)
lane_mask_by p h b l =
    bit_cases (λ n. top 63 (cond (nat_eq (n * p) p) 18446744073709551615 0) ≡ (n == 1))
    (ap (λ t. top 63 (cond t 18446744073709551615 0)) (not_same (0 * p) p (omega (arith, h))))
    (ap (λ t. top 63 (cond t 18446744073709551615 0)) (same_one p))
    b l
  where
    not_same : (a c : ℕ) → a < c → nat_eq a c ≡ false
    not_same a c h = grind arith

    same_one : (c : ℕ) → nat_eq (1 * c) c ≡ true
    same_one c = grind arith

pub lane_mask-on : (keep k : ℕ) → lane_mask keep k ≡ on keep k
unfolding on
lane_mask-on keep k =
    ap (λ n. top 63 (cond (nat_eq n (2 ^ k)) 18446744073709551615 0)) (and_pow keep k)
    ∙ lane_mask_by (2 ^ k) (pow_pos k) (bit_at keep k) (bit_at-lt keep k)

by_mask : (m x y : Bool) → ((m && x) || (not m && y)) ≡ cond m x y
by_mask true true y = refl
by_mask true false y = refl
by_mask false x y = refl

-- the word that the code forms is the selection
pub selection_on : (m a b : ℕ) → m < 2 ^ 64
    → IsSelection m a b (bit_or (bit_and m a) (bit_and (flip m) b))
selection_on m a b h i l =
    on-or (bit_and m a) (bit_and (flip m) b) i
    ∙ ap₂ (λ x y. x || y) (on-and m a i) (on-and (flip m) b i
    ∙ ap (λ x. x && on b i) (on-flip m i h l))
    ∙ by_mask (on m i) (on a i) (on b i)

-- a bit that is set, below k
pub record SetBit (n k : ℕ) : Type 0 where
  pub place : ℕ
  pub within : place < k
  pub is_set : on n place ≡ true

-- a word below 2 ^ `k` that is not 0 has a set bit below `k`
pub some_on : (n k : ℕ) → n < 2 ^ 64 → n < 2 ^ k → 0 < n → SetBit n k
unfolding on
some_on n k h l p = record {
  place = trailing_zeros w64 n;
  within = below (cases_lt (trailing_zeros w64 n) k) ((bit_at-trailing_zeros w64 n p h).1);
  is_set = ap (λ x. x == 1) ((bit_at-trailing_zeros w64 n p h).1);
}
  where
    below : (trailing_zeros w64 n < k) ⊎ (k ≤ trailing_zeros w64 n)
        → bit_at n (trailing_zeros w64 n) ≡ 1 → trailing_zeros w64 n < k
    below (inl lt) e = lt
    below (inr le) e = absurd (omega (arith, bit_at_above n k (trailing_zeros w64 n) l le, e))
