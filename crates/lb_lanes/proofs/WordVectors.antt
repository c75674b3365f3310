-- One lane of a vector of words.
use Rattle.std.proofs.Common.{◌≡◌, ℕ, ◌+◌, ◌/◌, ◌%◌, ◌<◌, ◌^◌, ◌==◌, Bool, true, false, List}
use Rattle.std.proofs.Common.{length, get_or}
use Rattle.std.proofs.Common.{cond, map, subst, replicate, refl, ap, ◌∙◌, sym, arith, w32, Fits}
use Rattle.std.proofs.Common.{leb}
use Rattle.std.proofs.Common.{nat_eq, zero-add}
use Rattle.std.specs.List.{range_with_len}
use Rattle.std.proofs.lemmas.List.FromFn.{get_or-map-range_with_len}
use Rattle.std.proofs.lemmas.Simd.{get_or-zip2, get_or-replicate, length-replicate, length-zip2}
use Rattle.std.proofs.lemmas.Simd.{get_or-sel_l}
use Rattle.std.proofs.lemmas.Simd.{Each1-get_or, tops_compared, mask_l-lt, mask_l-mod}
use lib.Bits.{bit_and}
use lib.Lanes.{zip2, Each1, mask_l, sel_l, top}
use Rattle.lb_lanes.specs.Planes.{on}
use Rattle.lb_lanes.proofs.OnPlanes.{on-mod, on-mod_at, on-mask_l, lane_mask-on}

-- a vector of sixteen words of 32 bits
abbrev pub Words16 : List ℕ → Type 0
Words16 xs = (length xs ≡ 16) × Each1 (Fits w32) xs

pub word_fits : (xs : List ℕ) (i : ℕ) → Words16 xs → i < 16 → get_or xs i 0 < 2 ^ 32
word_fits xs i w h = (Each1-get_or (Fits w32) xs i 0 (omega (arith, w.0)) w.1).fits

-- a vector with one word in each lane
pub splat_long : {n : ℕ} (k : ℕ) → length (replicate n k) ≡ n
splat_long {n} k = length-replicate {A = ℕ} n k

pub splat_at : {n : ℕ} (k i : ℕ) → i < n → get_or (replicate n k) i 0 ≡ k
splat_at {n} k i h = get_or-replicate n i k 0 h

-- an operation on two vectors is the operation in each lane
pub op_at : {n : ℕ} (f : ℕ → ℕ → ℕ) (xs ys : List ℕ) (i : ℕ) → length xs ≡ n → length ys ≡ n
    → i < n → get_or (zip2 f xs ys) i 0 ≡ f (get_or xs i 0) (get_or ys i 0)
op_at f xs ys i p q h = get_or-zip2 f xs ys i 0 0 0 (omega (arith, p, h)) (omega (arith, q, h))

pub op_long : {n : ℕ} (f : ℕ → ℕ → ℕ) (xs ys : List ℕ) → length xs ≡ n → length ys ≡ n
    → length (zip2 f xs ys) ≡ n
op_long f xs ys p q = length-zip2 f xs ys (omega (arith, p, q)) ∙ p

-- the bits of a test of two vectors
abbrev pub word_bitmask : (ℕ → ℕ → Bool) → List ℕ → List ℕ → ℕ
word_bitmask t xs ys =
    mask_l (map (top 31) (zip2 (λ a b. cond (t a b) 4294967295 0) xs ys)) % 18446744073709551616

pub on-word_bitmask : (t : ℕ → ℕ → Bool) (xs ys : List ℕ) (i : ℕ) → length xs ≡ 16
    → length ys ≡ 16 → i < 16
    → on (word_bitmask t xs ys) i ≡ t (get_or xs i 0) (get_or ys i 0)
on-word_bitmask t xs ys i p q h =
    on-mod _ i (omega arith) ∙ on-mask_l _ i
    ∙ ap (λ l. get_or l i false) (tops_compared w32 t xs ys)
    ∙ get_or-zip2 t xs ys i 0 0 false (omega (arith, p)) (omega (arith, q))

mask_bound : (ms : List Bool) → length ms ≡ 16 → mask_l ms % 18446744073709551616 < 65536
mask_bound ms e =
    subst (λ n. n < 65536) (sym (mask_l-mod ms 64 (omega (arith, e))))
    (subst (λ k. mask_l ms < 2 ^ k) e (mask_l-lt ms))

pub word_bitmask_bound : (t : ℕ → ℕ → Bool) (xs ys : List ℕ) → length xs ≡ 16 → length ys ≡ 16
    → word_bitmask t xs ys < 65536
word_bitmask_bound t xs ys p q =
    subst (λ l. mask_l l % 18446744073709551616 < 65536) (sym (tops_compared w32 t xs ys))
    (mask_bound (zip2 t xs ys) (length-zip2 t xs ys (omega (arith, p, q)) ∙ p))

-- a choice by a test of two vectors is the choice in each lane
pub word_chosen :
    (t : ℕ → ℕ → Bool) (xs ys us vs : List ℕ) (i : ℕ) → length xs ≡ 16 → length ys ≡ 16
    → length us ≡ 16 → length vs ≡ 16 → i < 16
    → get_or
    (sel_l (map (top 31) (zip2 (λ a b. cond (t a b) 4294967295 0) xs ys)) us vs) i 0
    ≡ cond (on (word_bitmask t xs ys) i) (get_or us i 0) (get_or vs i 0)
word_chosen t xs ys us vs i p q r u h =
    let ms : List Bool = map (top 31) (zip2 (λ a b. cond (t a b) 4294967295 0) xs ys) in
    let same : ms ≡ zip2 t xs ys = tops_compared w32 t xs ys in
    let long : length ms ≡ 16 =
    ap length same ∙ length-zip2 t xs ys (omega (arith, p, q)) ∙ p in
    get_or-sel_l ms us vs i 0 (omega (arith, long, h)) (omega (arith, r, h)) (omega (arith, u, h))
    ∙ ap (λ b. cond b (get_or us i 0) (get_or vs i 0))
    (ap (λ l. get_or l i false) same
    ∙ get_or-zip2 t xs ys i 0 0 false (omega (arith, p, h)) (omega (arith, q, h))
    ∙ sym (on-word_bitmask t xs ys i p q h))

-- words with 2 ^ 31 added
abbrev pub raised_word : ℕ → ℕ
raised_word n = (n + 2147483648) % 4294967296

abbrev pub raised16 : List ℕ → List ℕ
raised16 xs = zip2 (λ n k. (n + k) % 4294967296) xs (replicate 16 2147483648)

pub raised16_long : (xs : List ℕ) → length xs ≡ 16 → length (raised16 xs) ≡ 16
raised16_long xs p = op_long (λ n k. (n + k) % 4294967296) xs (replicate 16 2147483648) p
    (splat_long 2147483648)

pub raised16_at : (xs : List ℕ) (i : ℕ) → length xs ≡ 16 → i < 16
    → get_or (raised16 xs) i 0 ≡ raised_word (get_or xs i 0)
raised16_at xs i p h =
    op_at (λ n k. (n + k) % 4294967296) xs (replicate 16 2147483648) i p
    (splat_long 2147483648) h
    ∙ ap (λ k. (get_or xs i 0 + k) % 4294967296) (splat_at 2147483648 i h)

-- a lane mask made of the sixteen lowest bits
abbrev pub word_mask : ℕ → ℕ → Bool
word_mask keep k = top 31 (cond (nat_eq (bit_and keep (2 ^ k)) (2 ^ k)) 4294967295 0)

top_word : (t : Bool) → top 31 (cond t 4294967295 0) ≡ top 63 (cond t 18446744073709551615 0)
top_word true = refl
top_word false = refl

word_mask-on : (keep k : ℕ) → word_mask keep k ≡ on keep k
word_mask-on keep k = top_word (nat_eq (bit_and keep (2 ^ k)) (2 ^ k)) ∙ lane_mask-on keep k

pub word_masks-on : (m i : ℕ) → i < 16
    → get_or (map (word_mask (m % 4294967296)) (range_with_len 0 16)) i false ≡ on m i
word_masks-on m i h =
    get_or-map-range_with_len (word_mask (m % 4294967296)) 0 16 i i false h (zero-add i)
    ∙ word_mask-on (m % 4294967296) i ∙ on-mod_at 32 m i (omega (arith, h))

-- the top bit of a word is set just where the word is not below 2 ^ 31
top_low : (x : ℕ) → leb 2147483648 x ≡ false → (x / 2147483648 % 2 == 1) ≡ false
top_low x e = grind arith

top_high : (x : ℕ) → x < 4294967296 → leb 2147483648 x ≡ true → (x / 2147483648 % 2 == 1) ≡ true
top_high x h e = grind arith

pub top_on : (x : ℕ) → x < 2 ^ 32 → leb 2147483648 x ≡ on x 31
unfolding on
top_on x h = by (leb 2147483648 x) refl
  where
    by : (b : Bool) → leb 2147483648 x ≡ b → b ≡ (x / 2 ^ 31 % 2 == 1)
    by true e = sym (top_high x h e)
    by false e = sym (top_low x e)
