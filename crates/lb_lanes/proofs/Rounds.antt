-- One round of the transposition.
use Rattle.std.proofs.Common.{◌≡◌, ℕ, zero, suc, ◌+◌, ◌-◌, ◌*◌, ◌/◌, ◌%◌, ◌^◌, ◌<◌, ◌≤◌, Bool, true}
use Rattle.std.proofs.Common.{false, not, ◌&&◌, ◌||◌, List, get_or, cond, refl, sym, ap, ap₂, ◌∙◌}
use Rattle.std.proofs.Common.{subst, arith, nat_eq, ltb, leb, leb→le, T, mod-lt, zero-lt-suc}
use Rattle.std.proofs.lemmas.Bool.{and_parts, not-true}
use lib.Bits.{bit_and, bit_xor}
use Rattle.lb_lanes.specs.Planes.{on, differ}
use Rattle.lb_lanes.specs.Transposes.{IsRound, IsMask, is_masked, row_from, column_from}
use Rattle.lb_lanes.proofs.OnPlanes.{on-xor, on-and, on-shr, shl, on-shl_high, on-shl_low}

-- the bits that a round exchanges between words `a` and `b`, and the two words that it makes
abbrev pub moved : ℕ → ℕ → ℕ → ℕ → ℕ
moved s m a b = bit_and (bit_xor (a / 2 ^ s) b) m

abbrev pub even_word : ℕ → ℕ → ℕ → ℕ → ℕ
even_word s m a b = bit_xor a (shl s (moved s m a b))

abbrev pub odd_word : ℕ → ℕ → ℕ → ℕ → ℕ
odd_word s m a b = bit_xor b (moved s m a b)

on-moved : (s m a b j : ℕ) → on (moved s m a b) j ≡ (differ (on a (s + j)) (on b j) && on m j)
on-moved s m a b j =
    on-and (bit_xor (a / 2 ^ s) b) m j
    ∙ ap (λ x. x && on m j) (on-xor (a / 2 ^ s) b j ∙ ap (λ x. differ x (on b j)) (on-shr a s j))

by_odd : (x y m : Bool) → differ y (differ x y && m) ≡ cond m x y
by_odd true true true = refl
by_odd true true false = refl
by_odd true false true = refl
by_odd true false false = refl
by_odd false true true = refl
by_odd false true false = refl
by_odd false false true = refl
by_odd false false false = refl

by_even : (x y m : Bool) → differ x (differ x y && m) ≡ cond m y x
by_even true true true = refl
by_even true true false = refl
by_even true false true = refl
by_even true false false = refl
by_even false true true = refl
by_even false true false = refl
by_even false false true = refl
by_even false false false = refl

differ_false : (x : Bool) → differ x false ≡ x
differ_false true = refl
differ_false false = refl

on-odd : (s m a b j : ℕ) → on (odd_word s m a b) j ≡ cond (on m j) (on a (s + j)) (on b j)
on-odd s m a b j =
    on-xor b (moved s m a b) j ∙ ap (differ (on b j)) (on-moved s m a b j)
    ∙ by_odd (on a (s + j)) (on b j) (on m j)

on-even_high : (s m a b j : ℕ) → s + j < 64
    → on (even_word s m a b) (s + j) ≡ cond (on m j) (on b j) (on a (s + j))
on-even_high s m a b j h =
    on-xor a (shl s (moved s m a b)) (s + j)
    ∙ ap (differ (on a (s + j))) (on-shl_high s j (moved s m a b) h ∙ on-moved s m a b j)
    ∙ by_even (on a (s + j)) (on b j) (on m j)

on-even_low : (s m a b c : ℕ) → c < s → c < 64 → on (even_word s m a b) c ≡ on a c
on-even_low s m a b c l h =
    on-xor a (shl s (moved s m a b)) c ∙ ap (differ (on a c)) (on-shl_low s c (moved s m a b) l h)
    ∙ differ_false (on a c)

-- the bit at an even row, and at an odd one, where the column's bit is clear, and where it is set
even_clear : (s m a b c : ℕ) → c < 64 → (ltb c s || not (on m (c - s))) ≡ true
    → on (even_word s m a b) c ≡ on a c
even_clear s m a b c h e = by (ltb c s) refl e
  where
    by : (t : Bool) → ltb c s ≡ t → (t || not (on m (c - s))) ≡ true
        → on (even_word s m a b) c ≡ on a c
    by true l f = on-even_low s m a b c (grind arith) h
    by false l f =
        let j = c - s in
        let same : s + j ≡ c = grind arith in
        subst (λ n. on (even_word s m a b) n ≡ on a n) same
        (on-even_high s m a b j (subst (λ n. n < 64) (sym same) h)
        ∙ ap (λ t. cond t (on b j) (on a (s + j))) (not-true (on m j) f))

even_set : (s m a b c : ℕ) → c < 64 → s ≤ c → on m (c - s) ≡ true
    → on (even_word s m a b) c ≡ on b (c - s)
even_set s m a b c h le e =
    let j = c - s in
    let same : s + j ≡ c = omega arith in
    subst (λ n. on (even_word s m a b) n ≡ on b j) same
    (on-even_high s m a b j (subst (λ n. n < 64) (sym same) h)
    ∙ ap (λ t. cond t (on b j) (on a (s + j))) e)

odd_clear : (s m a b c : ℕ) → on m c ≡ true → on (odd_word s m a b) c ≡ on a (s + c)
odd_clear s m a b c e = on-odd s m a b c ∙ ap (λ t. cond t (on a (s + c)) (on b c)) e

odd_set : (s m a b c : ℕ) → on m c ≡ false → on (odd_word s m a b) c ≡ on b c
odd_set s m a b c e = on-odd s m a b c ∙ ap (λ t. cond t (on a (s + c)) (on b c)) e

-- the first `k` pairs of words that a round made
pub record Paired (s m : ℕ) (old new : List ℕ) (k : ℕ) : Type 0 where
  pub even : (j : ℕ) → j < k
      → get_or new (2 * j) 0 ≡ even_word s m (get_or old j 0) (get_or old (j + 32) 0)
  pub odd : (j : ℕ) → j < k
      → get_or new (2 * j + 1) 0 ≡ odd_word s m (get_or old j 0) (get_or old (j + 32) 0)

-- the mask's test of column `c`, where the column's bit is `x`
mask_parts : (s m c x : ℕ) → c / s % 2 ≡ x → is_masked s m c ≡ true
    → cond (nat_eq x 0) (on m c && (ltb c s || not (on m (c - s))))
    ((leb s c && on m (c - s)) && not (on m c)) ≡ true
mask_parts s m c x e t =
    subst (λ y. cond (nat_eq y 0) (on m c && (ltb c s || not (on m (c - s))))
    ((leb s c && on m (c - s)) && not (on m c)) ≡ true) e t

even_row : (s m : ℕ) (old new : List ℕ) → Paired s m old new 32 → (j c : ℕ) → j < 32 → c < 64
    → is_masked s m c ≡ true
    → (x : ℕ) → x < 2 → c / s % 2 ≡ x
    → on (get_or new (2 * j) 0) c ≡ on (get_or old (j + 32 * x) 0) (c + s * 0 - s * x)
even_row s m old new p j c hj hc t zero hx e =
    let a = get_or old j 0 in
    let b = get_or old (j + 32) 0 in
    let row : j ≡ j + 32 * 0 = omega arith in
    let column : c ≡ c + s * 0 - s * 0 = omega arith in
    ap (λ w. on w c) (p.even j hj)
    ∙ even_clear s m a b c hc
    ((and_parts (on m c) (ltb c s || not (on m (c - s))) (mask_parts s m c 0 e t)).1)
    ∙ ap₂ (λ i k. on (get_or old i 0) k) row column
even_row s m old new p j c hj hc t (suc zero) hx e =
    let a = get_or old j 0 in
    let b = get_or old (j + 32) 0 in
    let column : c - s ≡ c + s * 0 - s * 1 = omega arith in
    let test = and_parts (leb s c) (on m (c - s))
    ((and_parts (leb s c && on m (c - s)) (not (on m c)) (mask_parts s m c 1 e t)).0) in
    ap (λ w. on w c) (p.even j hj)
    ∙ even_set s m a b c hc (leb→le s c (subst T (sym test.0) tt)) test.1
    ∙ ap (on b) column
even_row s m old new p j c hj hc t (suc (suc x)) hx e = absurd (omega (arith, hx))

odd_row : (s m : ℕ) (old new : List ℕ) → Paired s m old new 32 → (j c : ℕ) → j < 32
    → is_masked s m c ≡ true
    → (x : ℕ) → x < 2 → c / s % 2 ≡ x
    → on (get_or new (2 * j + 1) 0) c ≡ on (get_or old (j + 32 * x) 0) (c + s * 1 - s * x)
odd_row s m old new p j c hj t zero hx e =
    let a = get_or old j 0 in
    let b = get_or old (j + 32) 0 in
    let row : j ≡ j + 32 * 0 = omega arith in
    let column : s + c ≡ c + s * 1 - s * 0 = omega arith in
    ap (λ w. on w c) (p.odd j hj)
    ∙ odd_clear s m a b c ((and_parts (on m c) (ltb c s || not (on m (c - s)))
    (mask_parts s m c 0 e t)).0)
    ∙ ap₂ (λ i k. on (get_or old i 0) k) row column
odd_row s m old new p j c hj t (suc zero) hx e =
    let a = get_or old j 0 in
    let b = get_or old (j + 32) 0 in
    let column : c ≡ c + s * 1 - s * 1 = omega arith in
    ap (λ w. on w c) (p.odd j hj)
    ∙ odd_set s m a b c (not-true (on m c)
    ((and_parts (leb s c && on m (c - s)) (not (on m c)) (mask_parts s m c 1 e t)).1))
    ∙ ap (on b) column
odd_row s m old new p j c hj t (suc (suc x)) hx e = absurd (omega (arith, hx))

pub round_made : (s m : ℕ) (old new : List ℕ) → IsMask s m → Paired s m old new 32
    → IsRound s old new
round_made s m old new im p r c hr hc = by (r % 2) (mod-lt r (zero-lt-suc 1)) refl
  where
    by : (y : ℕ) → y < 2 → r % 2 ≡ y
        → on (get_or new r 0) c ≡ on (get_or old (row_from s r c) 0) (column_from s r c)
    by zero h e =
        let same : 2 * (r / 2) ≡ r = omega arith in
        subst (λ y. on (get_or new r 0) c
        ≡ on (get_or old (row_from s r c) 0) (c + s * y - s * (c / s % 2))) (sym e)
        (subst (λ n. on (get_or new n 0) c
        ≡ on (get_or old (row_from s r c) 0) (c + s * 0 - s * (c / s % 2))) same
        (even_row s m old new p (r / 2) c (omega arith) hc (im c hc) (c / s % 2)
        (mod-lt (c / s) (zero-lt-suc 1)) refl))
    by (suc zero) h e =
        let same : 2 * (r / 2) + 1 ≡ r = omega arith in
        subst (λ y. on (get_or new r 0) c
        ≡ on (get_or old (row_from s r c) 0) (c + s * y - s * (c / s % 2))) (sym e)
        (subst (λ n. on (get_or new n 0) c
        ≡ on (get_or old (row_from s r c) 0) (c + s * 1 - s * (c / s % 2))) same
        (odd_row s m old new p (r / 2) c (omega arith) (im c hc) (c / s % 2)
        (mod-lt (c / s) (zero-lt-suc 1)) refl))
    by (suc (suc y)) h e = absurd (omega (arith, h))
