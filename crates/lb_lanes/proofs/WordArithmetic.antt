-- Words of 32 bits as the integers of their bits: tests, sums and differences.
use Rattle.std.proofs.Common.{◌≡◌, ℕ, suc, ◌<◌, ◌≤◌, ◌+◌, ◌-◌, ◌%◌, ◌^◌, Bool, true, false, not}
use Rattle.std.proofs.Common.{◌&&◌}
use Rattle.std.proofs.Common.{ℤ, pos, negsuc, ◌+ℤ◌, ◌-ℤ◌, ◌*ℤ◌, nat_eq, refl, sym, ap, ap₂, ◌∙◌}
use Rattle.std.proofs.Common.{arith}
use Rattle.std.proofs.Common.{w32, leb, ltb, to_z, get_or, replicate}
use Rattle.std.specs.Int.RustNames.{int_lt, int_le}
use Rattle.std.specs.Ordering.{int_eq}
use mir.Val.{sel}
use Rattle.std.proofs.lemmas.Int.{ints, wrapping_add-bits, wrapping_sub-bits, int_wrap_fits}
use Rattle.std.proofs.lemmas.Simd.{get_or-replicate}
use lib.Bits.{bit_and, bit_xor}
use Rattle.lb_lanes.specs.Operators.{is_int}
use Rattle.lb_lanes.specs.Planes.{on, differ}
use Rattle.lb_lanes.proofs.OnPlanes.{on-and, on-xor}
use Rattle.lb_lanes.proofs.Words.{fits_int, int_fits}
use Rattle.lb_lanes.proofs.WordVectors.{raised_word, top_on}

-- the integer of word `n`, where `b` is whether the word is below 2 ^ 31
abbrev half_of : Bool → ℕ → ℤ
half_of b n = sel b (pos n) (negsuc (4294967296 - suc n))

lt_by : (m n : ℕ) → m < 4294967296 → n < 4294967296 → (a b : Bool) → ltb m 2147483648 ≡ a
    → ltb n 2147483648 ≡ b
    → ltb (raised_word m) (raised_word n) ≡ int_lt (half_of a m) (half_of b n)
lt_by m n p q true true e f = grind arith
lt_by m n p q true false e f = grind arith
lt_by m n p q false true e f = grind arith
lt_by m n p q false false e f = grind arith

pub word_below_is : (m n : ℕ) → m < 2 ^ 32 → n < 2 ^ 32
    → ltb (raised_word m) (raised_word n) ≡ int_lt (to_z w32 m) (to_z w32 n)
word_below_is m n p q = lt_by m n p q (ltb m 2147483648) (ltb n 2147483648) refl refl

le_by : (m n : ℕ) → m < 4294967296 → n < 4294967296 → (a b : Bool) → ltb m 2147483648 ≡ a
    → ltb n 2147483648 ≡ b
    → leb (raised_word m) (raised_word n) ≡ int_le (half_of a m) (half_of b n)
le_by m n p q true true e f = grind arith
le_by m n p q true false e f = grind arith
le_by m n p q false true e f = grind arith
le_by m n p q false false e f = grind arith

pub word_at_most_is : (m n : ℕ) → m < 2 ^ 32 → n < 2 ^ 32
    → leb (raised_word m) (raised_word n) ≡ int_le (to_z w32 m) (to_z w32 n)
word_at_most_is m n p q = le_by m n p q (ltb m 2147483648) (ltb n 2147483648) refl refl

eq_by : (m n : ℕ) → m < 4294967296 → n < 4294967296 → (a b : Bool) → ltb m 2147483648 ≡ a
    → ltb n 2147483648 ≡ b → nat_eq m n ≡ int_eq (half_of a m) (half_of b n)
eq_by m n p q true true e f = grind arith
eq_by m n p q true false e f = grind arith
eq_by m n p q false true e f = grind arith
eq_by m n p q false false e f = grind arith

pub word_equal_is : (m n : ℕ) → m < 2 ^ 32 → n < 2 ^ 32
    → nat_eq m n ≡ int_eq (to_z w32 m) (to_z w32 n)
word_equal_is m n p q = eq_by m n p q (ltb m 2147483648) (ltb n 2147483648) refl refl

-- the top bit of a word is set just where the word is not below 2 ^ 31
high_is : (n : ℕ) → leb 2147483648 n ≡ not (ltb n 2147483648)
high_is n = by (leb 2147483648 n) refl
  where
    by : (b : Bool) → leb 2147483648 n ≡ b → b ≡ not (ltb n 2147483648)
    by true e = grind arith
    by false e = grind arith

top_is : (n : ℕ) → n < 2 ^ 32 → on n 31 ≡ not (ltb n 2147483648)
top_is n h = sym (top_on n h) ∙ high_is n

low_of : (n : ℕ) → ltb n 2147483648 ≡ true → n < 2147483648
low_of n e = grind arith

high_of : (n : ℕ) → ltb n 2147483648 ≡ false → 2147483648 ≤ n
high_of n e = grind arith

-- the word of a sum; the sum is in the range of `int` where its sign is one of the operands'
abbrev sum_word : ℕ → ℕ → ℕ
sum_word m n = (m + n) % 4294967296

-- whether `c` is the sign of neither operand
abbrev neither : Bool → Bool → Bool → Bool
neither a b c = differ (not a) (not c) && differ (not b) (not c)

mixed_sum : (m k : ℕ) → m < 2147483648 → k < 2147483648
    → is_int (pos m +ℤ negsuc k) ≡ true
mixed_sum m k p q = int_fits (pos m +ℤ negsuc k) (search (arith, ints))

low_sum : (m n : ℕ) (c : Bool) → m < 2147483648 → n < 2147483648
    → ltb (sum_word m n) 2147483648 ≡ c → not c ≡ not (is_int (pos (m + n)))
unfolding is_int
low_sum m n true p q e = grind arith
low_sum m n false p q e = grind arith

high_sum : (m n : ℕ) (c : Bool) → 2147483648 ≤ m → m < 4294967296 → 2147483648 ≤ n
    → n < 4294967296 → ltb (sum_word m n) 2147483648 ≡ c
    → c ≡ not (is_int (negsuc (suc ((4294967296 - suc m) + (4294967296 - suc n)))))
unfolding is_int
high_sum m n true p p' q q' e = grind arith
high_sum m n false p p' q q' e = grind arith

twice : (b : Bool) → (b && b) ≡ b
twice true = refl
twice false = refl

never : (b : Bool) → (b && not b) ≡ false
never true = refl
never false = refl

never' : (b : Bool) → (not b && b) ≡ false
never' true = refl
never' false = refl

sum_look : (m n : ℕ) → m < 4294967296 → n < 4294967296 → (a b c : Bool)
    → ltb m 2147483648 ≡ a → ltb n 2147483648 ≡ b → ltb (sum_word m n) 2147483648 ≡ c
    → neither a b c ≡ not (is_int (half_of a m +ℤ half_of b n))
sum_look m n p q true true c e f g = twice (not c) ∙ low_sum m n c (low_of m e) (low_of n f) g
sum_look m n p q true false c e f g =
    never (not c)
    ∙ ap not (sym (mixed_sum m (4294967296 - suc n) (low_of m e)
    (omega (arith, high_of n f, q))))
sum_look m n p q false true c e f g =
    never' (not c)
    ∙ ap not (sym (mixed_sum n (4294967296 - suc m) (low_of n f)
    (omega (arith, high_of m e, p))))
sum_look m n p q false false c e f g =
    twice (not (not c)) ∙ not_not c ∙ high_sum m n c (high_of m e) p (high_of n f) q g
  where
    not_not : (b : Bool) → not (not b) ≡ b
    not_not true = refl
    not_not false = refl

pub sum_look_is : (m n : ℕ) → m < 2 ^ 32 → n < 2 ^ 32
    → on (bit_and (bit_xor m (sum_word m n)) (bit_xor n (sum_word m n))) 31
    ≡ not (is_int (to_z w32 m +ℤ to_z w32 n))
sum_look_is m n p q =
    let s = sum_word m n in
    let small : s < 2 ^ 32 = omega arith in
    on-and (bit_xor m s) (bit_xor n s) 31
    ∙ ap₂ (λ u v. u && v)
    (on-xor m s 31 ∙ ap₂ differ (top_is m p) (top_is s small))
    (on-xor n s 31 ∙ ap₂ differ (top_is n q) (top_is s small))
    ∙ sum_look m n p q (ltb m 2147483648) (ltb n 2147483648) (ltb s 2147483648) refl refl refl

pub sum_value_is : (m n : ℕ) → m < 2 ^ 32 → n < 2 ^ 32 → is_int (to_z w32 m +ℤ to_z w32 n) ≡ true
    → to_z w32 (sum_word m n) ≡ to_z w32 m +ℤ to_z w32 n
sum_value_is m n p q e =
    wrapping_add-bits w32 m n p q ∙ int_wrap_fits w32 (to_z w32 m +ℤ to_z w32 n) (fits_int _ e)

-- the word of a difference; the difference is in the range of `int` where the operands have one
-- sign, or where it has the sign of the first one
abbrev difference_word : ℕ → ℕ → ℕ
difference_word m n = (m + (4294967296 - n)) % 4294967296

abbrev unlike_both : Bool → Bool → Bool → Bool
unlike_both a b c = differ (not a) (not b) && differ (not a) (not c)

low_difference : (m n : ℕ) → m < 2147483648 → n < 2147483648 → is_int (pos m -ℤ pos n) ≡ true
low_difference m n p q = int_fits (pos m -ℤ pos n) (search (arith, ints))

high_difference : (k l : ℕ) → k < 2147483648 → l < 2147483648
    → is_int (negsuc k -ℤ negsuc l) ≡ true
high_difference k l p q = int_fits (negsuc k -ℤ negsuc l) (search (arith, ints))

up_difference : (m n : ℕ) (c : Bool) → m < 2147483648 → 2147483648 ≤ n → n < 4294967296
    → ltb (difference_word m n) 2147483648 ≡ c
    → not c ≡ not (is_int (pos (m + suc (4294967296 - suc n))))
unfolding is_int
up_difference m n true p q q' e = grind arith
up_difference m n false p q q' e = grind arith

neg_minus : (k n : ℕ) → negsuc k -ℤ pos n ≡ negsuc (k + n)
neg_minus k n = omega (arith, ints)

down_difference : (m n : ℕ) (c : Bool) → 2147483648 ≤ m → m < 4294967296 → n < 2147483648
    → ltb (difference_word m n) 2147483648 ≡ c
    → c ≡ not (is_int (negsuc ((4294967296 - suc m) + n)))
unfolding is_int
down_difference m n true p p' q e = grind arith
down_difference m n false p p' q e = grind arith

difference_look : (m n : ℕ) → m < 4294967296 → n < 4294967296 → (a b c : Bool)
    → ltb m 2147483648 ≡ a → ltb n 2147483648 ≡ b → ltb (difference_word m n) 2147483648 ≡ c
    → unlike_both a b c ≡ not (is_int (half_of a m -ℤ half_of b n))
difference_look m n p q true true c e f g =
    ap not (sym (low_difference m n (low_of m e) (low_of n f)))
difference_look m n p q true false c e f g =
    up_difference m n c (low_of m e) (high_of n f) q g
difference_look m n p q false true c e f g =
    not_not c ∙ down_difference m n c (high_of m e) p (low_of n f) g
    ∙ ap (λ v. not (is_int v)) (sym (neg_minus (4294967296 - suc m) n))
  where
    not_not : (b : Bool) → not (not b) ≡ b
    not_not true = refl
    not_not false = refl
difference_look m n p q false false c e f g =
    ap not (sym (high_difference (4294967296 - suc m) (4294967296 - suc n)
    (omega (arith, high_of m e, p)) (omega (arith, high_of n f, q))))

pub difference_look_is : (m n : ℕ) → m < 2 ^ 32 → n < 2 ^ 32
    → on (bit_and (bit_xor m n) (bit_xor m (difference_word m n))) 31
    ≡ not (is_int (to_z w32 m -ℤ to_z w32 n))
difference_look_is m n p q =
    let s = difference_word m n in
    let small : s < 2 ^ 32 = omega arith in
    on-and (bit_xor m n) (bit_xor m s) 31
    ∙ ap₂ (λ u v. u && v)
    (on-xor m n 31 ∙ ap₂ differ (top_is m p) (top_is n q))
    (on-xor m s 31 ∙ ap₂ differ (top_is m p) (top_is s small))
    ∙ difference_look m n p q (ltb m 2147483648) (ltb n 2147483648) (ltb s 2147483648) refl refl
    refl

pub difference_value_is : (m n : ℕ) → m < 2 ^ 32 → n < 2 ^ 32
    → is_int (to_z w32 m -ℤ to_z w32 n) ≡ true
    → to_z w32 (difference_word m n) ≡ to_z w32 m -ℤ to_z w32 n
difference_value_is m n p q e =
    wrapping_sub-bits w32 m n p q ∙ int_wrap_fits w32 (to_z w32 m -ℤ to_z w32 n) (fits_int _ e)

-- a word is 0 just where its integer is 0
zero_by : (m : ℕ) (b : Bool) → ltb m 2147483648 ≡ b → int_eq (half_of b m) (pos 0) ≡ nat_eq m 0
zero_by m true e = grind arith
zero_by m false e = grind arith

pub word_zero_is : (m : ℕ) → int_eq (to_z w32 m) (pos 0) ≡ nat_eq m 0
word_zero_is m = zero_by m (ltb m 2147483648) refl

-- a row of zeros has 0 in each lane, and a product with 0 is 0
pub zero_word_at : (i : ℕ) → i < 64 → to_z w32 (get_or (replicate 64 0) i 0) ≡ pos 0
zero_word_at i h = ap (to_z w32) (get_or-replicate 64 i 0 0 h)

pub zero_times : (b : ℤ) → pos 0 *ℤ b ≡ pos 0
zero_times b = omega (arith, ints)
