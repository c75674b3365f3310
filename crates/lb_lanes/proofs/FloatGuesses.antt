-- Guesses at quotients by floats: the operands fit floats, and no guess is NaN.
use Rattle.std.proofs.Common.{◌≡◌, ℕ, zero, suc, ◌+◌, ◌-◌, ◌*◌, ◌^◌, ◌<◌, ◌≤◌, ℤ, pos, negsuc}
use Rattle.std.proofs.Common.{Bool, true, false, not, ◌&&◌, List, [], ◌∷◌, mul-one}
use Rattle.std.proofs.Common.{cond, map, replicate, refl, sym, subst, arith, lit<, lit≤}
use Rattle.std.specs.Prelude.{T}
use mathlib.Core.Bool.{beq}
use native.Mathlib.Nat.{le_trans, lt_of_lt_of_le}
use native.Mathlib.Nat as nat
use lib.Bits.{bit_and, mask_lt}
use lib.Dec.{eqb, ltb, le→leb, eqb→eq}
use lib.Ieee.{Float, nan, inf, fin, Format, binary32, in_float, is_nan, of_bits, of_int, prec, emax}
use lib.Ieee.{low, up, down, unlike, odd, units, round, add, sub, div, sum, neg}
use lib.Ieee.Exact.{HasValue, round_exact}
use lib.Ieee.Fits.{down_pos}
use lib.Ieee.Order.{round_mono}
use lib.Ieee.Positive.{positive, positive_of_value, above, above_of_le}
use lib.Ieee.Scale.{finite}
use lib.Lanes.{Each1, zip2}
use lib.Pow.{pow_mono, shl_lt}

masked : (k x : ℕ) → k ≤ 24 → T (in_float binary32 (pos (bit_and x (2 ^ k - 1))))
unfolding in_float
masked k x h =
    le→leb (bit_and x (2 ^ k - 1)) (2 ^ prec binary32)
    (le_trans (nat.le_of_lt (mask_lt x k)) (pow_mono h))

-- integers below 2 ^ `k` fit floats, for `k` up to 24
pub masked_in : (k n : ℕ) (xs : List ℕ) → k ≤ 24
    → Each1 (λ a. T (in_float binary32 (pos a)))
    (zip2 (λ a b. bit_and a b) xs (replicate n (2 ^ k - 1)))
masked_in k n [] h = tt
masked_in k zero (x ∷ xs) h = tt
masked_in k (suc n) (x ∷ xs) h = (masked k x h, masked_in k n xs h)

-- ## No guess is NaN

abbrev pub Number : Float → Type 0
Number x = T (not (is_nan x))

-- a float with sign `s`, which is not NaN
abbrev Signed : Bool → Float → Type 0
Signed s nan = ⊥
Signed s (inf t) = t ≡ s
Signed s (fin t m e) = t ≡ s

odd_signed : (d : ℕ) (s : Bool) (q k l : ℕ) → Signed s (odd d s q k l)
unfolding odd
odd_signed d s zero k l = refl
odd_signed d s (suc q) k l = refl

units_signed : (f : Format) (s : Bool) (q k : ℕ) → Signed s (units f s q k)
unfolding units
units_signed f s q k = by (ltb (q * 2 ^ k) (2 ^ (low f + suc (emax f))))
  where
    by : (b : Bool) → Signed s (cond b (odd (suc (prec f)) s q k (low f)) (inf s))
    by true = odd_signed (suc (prec f)) s q k (low f)
    by false = refl

round_signed : (f : Format) (s : Bool) (n d : ℕ) → Signed s (round f s n d)
unfolding round
round_signed f s n d = units_signed f s _ _

signed_number : (s : Bool) (x : Float) → Signed s x → Number x
unfolding is_nan
signed_number s nan h = absurd h
signed_number s (inf t) h = tt
signed_number s (fin t m e) h = tt

round_number : (f : Format) (s : Bool) (n d : ℕ) → Number (round f s n d)
round_number f s n d = signed_number s (round f s n d) (round_signed f s n d)

sum_number : (f : Format) (s : Bool) (a : ℕ) (t : Bool) (b c : ℕ) → Number (sum f s a t b c)
unfolding sum
sum_number f s a t b c = by (beq s t) (ltb a b)
  where
    by : (same less : Bool) → Number (cond same (round f s (a + b) c)
        (cond less (round f t (b - a) c) (round f (s && ltb b a) (a - b) c)))
    by true less = round_number f s (a + b) c
    by false true = round_number f t (b - a) c
    by false false = round_number f (s && ltb b a) (a - b) c

-- a sum, and a difference, with a finite value is not NaN
add_number : (f : Format) (x : Float) (s : Bool) (m : ℕ) (e : ℤ) → Number x
    → Number (add f x (fin s m e))
unfolding add is_nan
add_number f nan s m e h = absurd h
add_number f (inf t) s m e h = tt
add_number f (fin t n d) s m e h = sum_number f t _ s _ _

sub_number : (f : Format) (x : Float) (s : Bool) (m : ℕ) (e : ℤ) → Number x
    → Number (sub f x (fin s m e))
unfolding sub neg
sub_number f x s m e h = add_number f x (not s) m e h

other : (z s : Bool) → (T z → ⊥) → Number (cond z nan (inf s))
unfolding is_nan
other true s h = absurd (h tt)
other false s h = tt

-- the quotient of a value above zero and a finite one is not NaN
div_number : (f : Format) (x y : Float) → T (above x) → T (finite y) → Number (div f x y)
unfolding div is_nan
div_number f nan y p q = absurd p
div_number f (inf s) nan p q = absurd q
div_number f (inf s) (inf t) p q = absurd q
div_number f (inf s) (fin t n d) p q = tt
div_number f (fin true m e) y p q = absurd p
div_number f (fin false zero e) y p q = absurd p
div_number f (fin false (suc m) e) nan p q = absurd q
div_number f (fin false (suc m) e) (inf t) p q = absurd q
div_number f (fin false (suc m) e) (fin t n d) p q = by (eqb n 0)
  where
    by : (none : Bool) → Number (cond none (cond (eqb (suc m) 0) nan (inf (unlike false t)))
        (round f (unlike false t) (suc m * up e * down d) (n * up d * down e)))
    by true = other (eqb (suc m) 0) (unlike false t) (λ e.
        let same : suc m ≡ 0 = eqb→eq (suc m) 0 e in
        omega (arith, same))
    by false = round_number f _ _ _

-- 1 / 2, rounded, is above zero
half_positive : T (positive (round binary32 false 1 2))
half_positive =
    positive_of_value (round binary32 false 1 2) 1 2
    (round_exact binary32 false 1 2 1 148 (lit< tt) (lit< tt) (lit< tt) refl) (lit< tt)

-- the sum of a value that is not below zero and a half is above zero
raised : (x : Float) → Signed false x → T (above (add binary32 x (fin false 1 (negsuc 0))))
unfolding add sum
raised nan h = absurd h
raised (inf t) h = subst (λ s. T (not s)) (sym h) tt
raised (fin t m e) h =
    subst (λ s. T (above (add binary32 (fin s m e) (fin false 1 (negsuc 0))))) (sym h)
    (above_of_le (round binary32 false 1 2)
    (round binary32 false (m * up e * 2 + 1 * 1 * down e) (down e * 2)) half_positive
    (round_mono binary32 1 2 (m * up e * 2 + 1 * 1 * down e) (down e * 2) (lit< tt)
    (omega (arith, down_pos e)) (omega arith)))

value_finite : (x : Float) (s : Bool) (a c : ℕ) → HasValue x s a c → T (finite x)
value_finite nan s a c h = absurd h
value_finite (inf t) s a c h = absurd h
value_finite (fin t m e) s a c h = tt

whole_finite : (n : ℕ) → n < 2 ^ 24 → T (finite (of_int binary32 (pos n)))
unfolding of_int
whole_finite n h =
    value_finite (round binary32 false n 1) false n 1
    (round_exact binary32 false n 1 n 149 (lit< tt) h
    (lt_of_lt_of_le (shl_lt 24 149 h) (pow_mono {i = 173} {j = 277} (lit≤ tt)))
    (sym (mul-one (n * 2 ^ 149))))

abbrev pub half_float : Float
half_float = of_bits binary32 1056964608

abbrev pub whole_float : Float
whole_float = of_bits binary32 1262485504

half_is : half_float ≡ fin false 1 (negsuc 0)
unfolding of_bits
half_is = refl

whole_is : whole_float ≡ fin false 3 (pos 22)
unfolding of_bits
whole_is = refl

-- a guess at a quotient
abbrev pub guess : ℕ → ℕ → Float
guess n d =
    add binary32
    (sub binary32
    (div binary32 (add binary32 (of_int binary32 (pos n)) half_float)
    (of_int binary32 (pos d))) half_float) whole_float

guess_number : (n d : ℕ) → d < 2 ^ 24 → Number (guess n d)
unfolding of_int
guess_number n d h =
    let x = add binary32 (of_int binary32 (pos n)) (fin false 1 (negsuc 0)) in
    let y = of_int binary32 (pos d) in
    subst (λ v. Number (add binary32 (sub binary32 (div binary32
    (add binary32 (of_int binary32 (pos n)) v) y) v) whole_float)) (sym half_is)
    (subst (λ w. Number (add binary32 (sub binary32 (div binary32 x y) (fin false 1 (negsuc 0))) w))
    (sym whole_is)
    (add_number binary32 _ false 3 (pos 22)
    (sub_number binary32 _ false 1 (negsuc 0)
    (div_number binary32 x y (raised (round binary32 false n 1) (round_signed binary32 false n 1))
    (whole_finite d h)))))

-- no guess is NaN, for lists of dividends and divisors
pub guess_numbers : (k a b : ℕ) (xs ys : List ℕ) → b ≤ 24
    → Each1 (λ v. Number v)
    (zip2 (λ u v. add binary32 u v)
    (zip2 (λ u v. sub binary32 u v)
    (zip2 (λ u v. div binary32 u v)
    (zip2 (λ u v. add binary32 u v)
    (map (λ n. of_int binary32 (pos n)) (zip2 (λ m n. bit_and m n) xs (replicate k (2 ^ a - 1))))
    (replicate k half_float))
    (map (λ n. of_int binary32 (pos n)) (zip2 (λ m n. bit_and m n) ys (replicate k (2 ^ b - 1)))))
    (replicate k half_float))
    (replicate k whole_float))
guess_numbers k a b [] ys h = tt
guess_numbers zero a b (x ∷ xs) ys h = tt
guess_numbers (suc k) a b (x ∷ xs) [] h = tt
guess_numbers (suc k) a b (x ∷ xs) (y ∷ ys) h = (
  guess_number (bit_and x (2 ^ a - 1)) (bit_and y (2 ^ b - 1))
      (lt_of_lt_of_le (mask_lt y b) (pow_mono h)),
  guess_numbers k a b xs ys h,
)
