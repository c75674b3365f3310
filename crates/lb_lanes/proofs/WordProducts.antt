-- The low 32 bits of a word of 64 bits, as integers.
use Rattle.std.proofs.Common.{◌≡◌, ℕ, ◌==◌, suc, ◌<◌, ◌≤◌, ◌+◌, ◌-◌, ◌*◌, ◌/◌, ◌%◌, ◌^◌}
use Rattle.std.proofs.Common.{Bool, true, false}
use Rattle.std.proofs.Common.{not, ℤ, pos}
use Rattle.std.proofs.Common.{negsuc, ◌*ℤ◌, refl, sym, ap, ap₂, ◌∙◌, arith, w32, w64, ltb, lit<}
use Rattle.std.proofs.Common.{to_z, of_z, SFits}
use mir.Val.{sel}
use Rattle.lb_lanes.specs.Operators.{is_int}
use Rattle.std.proofs.lemmas.Int.{to_z-of_z, fits_signed_mul, wrapping_mul-bits, int_wrap_fits}
use Rattle.std.specs.Int.RustNames.{unsigned_abs}
use Rattle.lb_lanes.proofs.Words.{outside_is, fits_int, abs_int}
use Rattle.lb_lanes.proofs.WordViews.{word_is_int}

-- the code's test of a word of 64 bits is the test for the range of `int`
look_is : (n : ℕ) → n < 2 ^ 64
    → ((n + 2147483648) % 18446744073709551616 / 4294967296 == 0) ≡ is_int (to_z w64 n)
look_is n h = sym (not_not _) ∙ ap not (outside_is n h) ∙ not_not _
  where
    not_not : (b : Bool) → not (not b) ≡ b
    not_not true = refl
    not_not false = refl

-- the low half of a word near 0 or near the top is the same integer
low_half : (n : ℕ) → n < 2147483648 → ltb (n % 4294967296) 2147483648 ≡ true
low_half n h = grind arith

low_same : (n : ℕ) → n < 2147483648 → n % 4294967296 ≡ n
low_same n h = omega arith

high_half : (n : ℕ) → 18446744071562067968 < suc n → n < 18446744073709551616
    → ltb (n % 4294967296) 2147483648 ≡ false
high_half n h l = grind arith

high_same : (n : ℕ) → 18446744071562067968 < suc n → n < 18446744073709551616
    → 4294967296 - suc (n % 4294967296) ≡ 18446744073709551616 - suc n
high_same n h l = omega arith

is_low : (n : ℕ) → ltb n 9223372036854775808 ≡ true → is_int (pos n) ≡ true → n < 2147483648
unfolding is_int
is_low n e f = grind arith

is_high : (n : ℕ) → n < 18446744073709551616 → ltb n 9223372036854775808 ≡ false
    → is_int (negsuc (18446744073709551616 - suc n)) ≡ true → 18446744071562067968 < suc n
unfolding is_int
is_high n h e f = grind arith

low_of_word : (n : ℕ) → n < 2 ^ 64 → is_int (to_z w64 n) ≡ true
    → to_z w32 (n % 4294967296) ≡ to_z w64 n
low_of_word n h within = by (ltb n 9223372036854775808) refl within
  where
    by : (b : Bool) → ltb n 9223372036854775808 ≡ b
        → is_int (sel b (pos n) (negsuc (18446744073709551616 - suc n))) ≡ true
        → to_z w32 (n % 4294967296) ≡ sel b (pos n) (negsuc (18446744073709551616 - suc n))
    by true e f =
        let l = is_low n e f in
        ap (λ t. sel t (pos (n % 4294967296)) (negsuc (4294967296 - suc (n % 4294967296))))
        (low_half n l)
        ∙ ap pos (low_same n l)
    by false e f =
        let l = is_high n h e f in
        ap (λ t. sel t (pos (n % 4294967296)) (negsuc (4294967296 - suc (n % 4294967296))))
        (high_half n l h)
        ∙ ap negsuc (high_same n l h)

fits_product : (x y : ℕ) → SFits w64 (to_z w32 x *ℤ to_z w32 y)
fits_product x y =
    fits_signed_mul w64 (to_z w32 x) (to_z w32 y) 2147483648 2147483648
    (abs_int _ (fits_int _ (word_is_int x))) (abs_int _ (fits_int _ (word_is_int y))) (lit< tt)

-- the product that the code forms, after its casts
abbrev WordOfProduct : ℕ → ℤ → ℤ → Type 0
WordOfProduct n p q = n ≡ of_z w64 (to_z w64 (of_z w64 (p *ℤ q)))

exact_is : (n x y : ℕ) (p q : ℤ) → p ≡ to_z w32 x → q ≡ to_z w32 y → WordOfProduct n p q
    → to_z w64 n ≡ to_z w32 x *ℤ to_z w32 y
exact_is n x y p q e f is =
    let same = to_z-of_z w64 (to_z w32 x *ℤ to_z w32 y) (fits_product x y) in
    ap (to_z w64) (is ∙ ap (λ v. of_z w64 (to_z w64 (of_z w64 v))) (ap₂ (λ u v. u *ℤ v) e f))
    ∙ ap (λ v. to_z w64 (of_z w64 v)) same ∙ same

pub product_of_low : (n x y : ℕ) (p q : ℤ) → p ≡ to_z w32 x → q ≡ to_z w32 y → n < 2 ^ 64
    → n ≡ of_z w64 (to_z w64 (of_z w64 (p *ℤ q)))
    → is_int (to_z w32 x *ℤ to_z w32 y) ≡ true
    → to_z w32 (n % 4294967296) ≡ to_z w32 x *ℤ to_z w32 y
product_of_low n x y p q e f h is within =
    let exact = exact_is n x y p q e f is in
    low_of_word n h (ap is_int exact ∙ within) ∙ exact

pub product_look : (n x y : ℕ) (p q : ℤ) → p ≡ to_z w32 x → q ≡ to_z w32 y → n < 2 ^ 64
    → n ≡ of_z w64 (to_z w64 (of_z w64 (p *ℤ q)))
    → ((n + 2147483648) % 18446744073709551616 / 4294967296 == 0)
    ≡ is_int (to_z w32 x *ℤ to_z w32 y)
product_look n x y p q e f h is = look_is n h ∙ ap is_int (exact_is n x y p q e f is)

-- an upper half that is 0 passes the test for 0
pub is_zero : (n : ℕ) → n ≡ 0 → (n == 0) ≡ true
is_zero n h = grind arith

-- a word that passes the test for small operands has a size of 32768 at most
small_by : (x : ℕ) (t : Bool) → x < 2 ^ 32 → ltb x 2147483648 ≡ t
    → (x + 32768) % 4294967296 < 65536
    → unsigned_abs (sel t (pos x) (negsuc (4294967296 - suc x))) ≤ 32768
small_by x true h e s = grind arith
small_by x false h e s = grind arith

small_size : (x : ℕ) → x < 2 ^ 32 → (x + 32768) % 4294967296 < 65536
    → unsigned_abs (to_z w32 x) ≤ 32768
small_size x h s = small_by x (ltb x 2147483648) h refl s

pub product_of_small : (x y : ℕ) → x < 2 ^ 32 → y < 2 ^ 32
    → (x + 32768) % 4294967296 < 65536 → (y + 32768) % 4294967296 < 65536
    → to_z w32 ((x * y) % 4294967296) ≡ to_z w32 x *ℤ to_z w32 y
product_of_small x y h k s t =
    wrapping_mul-bits w32 x y h k
    ∙ int_wrap_fits w32 (to_z w32 x *ℤ to_z w32 y)
    (fits_signed_mul w32 (to_z w32 x) (to_z w32 y) 32768 32768 (small_size x h s) (small_size y k t)
    (lit< tt))
