-- The bytes and the ends of numbers.
use Rattle.std.proofs.Common.{ℕ, zero, suc, ◌≡◌, ◌+◌, ◌-◌, ◌*◌, ◌/◌, ◌%◌, ◌^◌, ◌<◌, ◌≤◌, ◌==◌, ◌≢◌}
use Rattle.std.proofs.Common.{◌⊎◌, inl, inr, ⊎_elim, Bool, true, false, cond, not, min, List}
use Rattle.std.proofs.Common.{length, get_or, map, take, refl, sym, ap, ◌∙◌, subst, arith}
use Rattle.std.proofs.lemmas.Bool.{cases_lt}
use Rattle.std.proofs.lemmas.List.{get_or-map, get_or-take, length-map, length-take-le}
use Rattle.std.proofs.lemmas.Nat.Bits.{bit_at-suc, bit_at_and, bit_at_not}
use Rattle.std.proofs.lemmas.Nat.Bits.{bit_at-lt, bit_at_xor}
use Rattle.std.proofs.lemmas.Simd.{bit_mask_l, mask_l-lt}
use Rattle.std.specs.Char.{is_ascii_digit}
use Rattle.std.specs.Int.{bit_at, bit_not, w64}
use lib.Bits.{bit_and, bit_xor}
use lib.Lanes.{mask_l}
use Rattle.lb_trace.specs.Fronts.{others}
use Rattle.lb_trace.specs.Numbers.{IsInside, IsNumberIn}
use Rattle.lb_trace.proofs.SmallNumbers.{equal-from}

-- ## The bits of masks

abbrev bit_from : Bool → ℕ
bit_from b = cond b 1 0

-- bit `i` of the mask of a test is 1 where byte `i` passes it
mask-bit : (p : ℕ → Bool) (text : List ℕ) (n i : ℕ) → n ≤ length text → i < n
    → bit_at (mask_l (map p (take n text))) i ≡ cond (p (get_or text i 0)) 1 0
mask-bit p text n i long below =
    let within : i < length (take n text) =
    omega (arith, length-take-le n text long, below) in
    bit_mask_l (map p (take n text)) i
    ∙ ap (λ b. cond b 1 0) (get_or-map p (take n text) i 0 false within
    ∙ ap p (get_or-take n text i 0 below))

is-set : (b : Bool) → bit_from b ≡ 1 → b ≡ true
is-set true h = refl
is-set false h = absurd (omega (arith, h))

is-clear : (b : Bool) → bit_from b ≡ 0 → b ≡ false
is-clear true h = absurd (omega (arith, h))
is-clear false h = refl

not-false : (b : Bool) → not b ≡ false → b ≡ true
not-false true h = refl
not-false false h = cc h

not-true : (b : Bool) → not b ≡ true → b ≡ false
not-true true h = cc h
not-true false h = refl

-- the bit `a`, changed where `m`, `p` and `q` are 1, is 0 only if it was 0 or those three are 1
cleared : (a m p q : ℕ) → a < 2 → m < 2 → p < 2 → q < 2 → (a + min (min m p) q) % 2 ≡ 0
    → (a ≡ 0) ⊎ ((m ≡ 1) × (p ≡ 1) × (q ≡ 1))
cleared zero m p q la lm lp lq h = inl refl
cleared (suc zero) zero p q la lm lp lq h = absurd (omega (arith, h))
cleared (suc zero) (suc zero) zero q la lm lp lq h = absurd (omega (arith, h))
cleared (suc zero) (suc zero) (suc zero) zero la lm lp lq h = absurd (omega (arith, h))
cleared (suc zero) (suc zero) (suc zero) (suc zero) la lm lp lq h = inr (refl, refl, refl)
cleared (suc zero) (suc zero) (suc zero) (suc (suc q)) la lm lp lq h = absurd (omega (arith, lq))
cleared (suc zero) (suc zero) (suc (suc p)) q la lm lp lq h = absurd (omega (arith, lp))
cleared (suc zero) (suc (suc m)) p q la lm lp lq h = absurd (omega (arith, lm))
cleared (suc (suc a)) m p q la lm lp lq h = absurd (omega (arith, la))

abbrev other : ℕ → Bool
other b = not (is_ascii_digit b)

-- the bits of the ends of numbers, by the mask `o` of no digits and the mask `m` of minus signs
abbrev pub ends_of : ℕ → ℕ → ℕ
ends_of o m = bit_xor o (bit_and (bit_and m (2 * o + 1)) (bit_not w64 (o / 2)))

-- the mask of 32 bytes is below 2^32
pub others-below : (text : List ℕ) (o : ℕ) → 31 < length text → o ≡ others (take 32 text)
    → o < 4294967296
others-below text o long is =
    subst (λ n. n < 4294967296) (sym is)
    (subst (λ n. mask_l (map other (take 32 text)) < 2 ^ n)
    (length-map (take 32 text) other ∙ length-take-le 32 text (omega (arith, long)))
    (mask_l-lt (map other (take 32 text))))

-- a byte whose bit among the ends is 0 stands inside a number
pub inside-from : (text : List ℕ) (o m i : ℕ) → 31 < length text → o ≡ others (take 32 text)
    → m ≡ mask_l (map (λ b. b == 45) (take 32 text)) → i < 31 → bit_at (ends_of o m) i ≡ 0
    → IsInside text i
inside-from text o m i long is minus below none =
    ⊎_elim
    (λ (clear : bit_at o i ≡ 0).
    inl (not-false (is_ascii_digit (get_or text i 0)) (is-clear (other (get_or text i 0))
    (sym here ∙ clear))))
    (λ (all : (bit_at m i ≡ 1) × (bit_at (2 * o + 1) i ≡ 1) × (bit_at (bit_not w64 (o / 2)) i ≡ 1)).
    inr (
      equal-from (get_or text i 0) 45 (is-set (get_or text i 0 == 45) (sym sign ∙ all.0)),
      before i below all.1,
      not-false (is_ascii_digit (get_or text (i + 1) 0)) (is-clear (other (get_or text (i + 1) 0))
          (sym next ∙ omega (arith, turned, all.2))),
    ))
    (cleared _ _ _ _
    (bit_at-lt o i) (bit_at-lt m i) (bit_at-lt (2 * o + 1) i) (bit_at-lt (bit_not w64 (o / 2)) i)
    (sym both ∙ none))
  where
    other-bit : (k : ℕ) → k < 32 → bit_at o k ≡ cond (other (get_or text k 0)) 1 0
    other-bit k few = ap (λ n. bit_at n k) is ∙ mask-bit other text 32 k (omega (arith, long)) few

    here : bit_at o i ≡ cond (other (get_or text i 0)) 1 0
    here = other-bit i (omega (arith, below))

    sign : bit_at m i ≡ cond (get_or text i 0 == 45) 1 0
    sign =
        ap (λ n. bit_at n i) minus
        ∙ mask-bit (λ b. b == 45) text 32 i (omega (arith, long)) (omega (arith, below))

    next : bit_at o (i + 1) ≡ cond (other (get_or text (i + 1) 0)) 1 0
    next = other-bit (i + 1) (omega (arith, below))

    small : o < 4294967296
    small = others-below text o long is

    turned : bit_at (bit_not w64 (o / 2)) i ≡ 1 - bit_at o (i + 1)
    turned =
        let step : suc i ≡ i + 1 = omega arith in
        bit_at_not w64 (o / 2) i (omega (arith, small)) (omega (arith, below))
        ∙ ap (λ n. 1 - n) (sym (bit_at-suc o i) ∙ ap (bit_at o) step)

    both : bit_at (ends_of o m) i
        ≡ (bit_at o i + min (min (bit_at m i) (bit_at (2 * o + 1) i)) (bit_at (bit_not w64 (o / 2)) i))
        % 2
    both =
        bit_at_xor o (bit_and (bit_and m (2 * o + 1)) (bit_not w64 (o / 2))) i
        ∙ ap (λ n. (bit_at o i + n) % 2)
        (bit_at_and (bit_and m (2 * o + 1)) (bit_not w64 (o / 2)) i
        ∙ ap (λ n. min n (bit_at (bit_not w64 (o / 2)) i)) (bit_at_and m (2 * o + 1) i))

    before : (k : ℕ) → k < 31 → bit_at (2 * o + 1) k ≡ 1 → 0 < k
        → is_ascii_digit (get_or text (k - 1) 0) ≡ false
    before zero few set some = absurd (omega (arith, some))
    before (suc k) few set some =
        let half : (2 * o + 1) / 2 ≡ o = omega arith in
        let one : bit_at o k ≡ 1 = ap (λ n. bit_at n k) (sym half) ∙ sym (bit_at-suc (2 * o + 1) k) ∙ set
        in
        let back : suc k - 1 ≡ k = omega arith in
        ap (λ j. is_ascii_digit (get_or text j 0)) back
        ∙ not-true (is_ascii_digit (get_or text k 0)) (is-set (other (get_or text k 0))
        (sym (other-bit k (omega (arith, few))) ∙ one))

-- ## Numbers

pub differ : (b : Bool) → b ≡ true → b ≡ false → ⊥
differ b is isnt = cc (is, isnt)

pub no-digit : (b : ℕ) → b ≡ 45 → is_ascii_digit b ≡ false
no-digit b is = ap is_ascii_digit is

-- bytes that stand inside a number, at most eight before a byte that is no digit, are a number
pub number-in : (text : List ℕ) (start end : ℕ)
    → ((i : ℕ) → start ≤ i → i < end → IsInside text i)
    → start < end → end ≤ start + 8 → is_ascii_digit (get_or text end 0) ≡ false
    → IsNumberIn text start end
number-in text start end inside some short stop = at (inside start (omega arith) some)
  where
    digit : (i : ℕ) → start < i → i < end → is_ascii_digit (get_or text i 0) ≡ true
    digit zero above below = absurd (omega (arith, above))
    digit (suc k) above below =
        ⊎_elim (λ (is : is_ascii_digit (get_or text (suc k) 0) ≡ true). is)
        (λ (minus : (get_or text (suc k) 0 ≡ 45)
        × (0 < suc k → is_ascii_digit (get_or text (suc k - 1) 0) ≡ false)
        × (is_ascii_digit (get_or text (suc k + 1) 0) ≡ true)).
        ⊎_elim
        (λ (is : is_ascii_digit (get_or text k 0) ≡ true).
        let back : suc k - 1 ≡ k = omega arith in
        absurd (differ (is_ascii_digit (get_or text k 0)) is
        (ap (λ j. is_ascii_digit (get_or text j 0)) (sym back) ∙ minus.1 (omega arith))))
        (λ (first : (get_or text k 0 ≡ 45)
        × (0 < k → is_ascii_digit (get_or text (k - 1) 0) ≡ false)
        × (is_ascii_digit (get_or text (k + 1) 0) ≡ true)).
        let step : k + 1 ≡ suc k = omega arith in
        absurd (differ (is_ascii_digit (get_or text (suc k) 0))
        (ap (λ j. is_ascii_digit (get_or text j 0)) (sym step) ∙ first.2)
        (no-digit (get_or text (suc k) 0) minus.0)))
        (inside k (omega (arith, above)) (omega (arith, below))))
        (inside (suc k) (omega (arith, above)) below)

    by : (b : Bool) → (get_or text start 0 == 45) ≡ b
        → (b ≡ true → is_ascii_digit (get_or text (start + 1) 0) ≡ true)
        → (b ≡ false → is_ascii_digit (get_or text start 0) ≡ true) → IsNumberIn text start end
    by true is after here =
        let next : end ≢ start + 1 =
        λ (e : end ≡ start + 1). absurd (differ (is_ascii_digit (get_or text (start + 1) 0))
        (after refl) (ap (λ j. is_ascii_digit (get_or text j 0)) (sym e) ∙ stop)) in
        record {
          short = short;
          some = rw is (omega (arith, next, some));
          digits = rw is (λ i from below. digit i (omega (arith, from)) below);
        }
    by false is after here = record {
      short = short;
      some = rw is some;
      digits = rw is (λ i from below.
          ⊎_elim (λ (less : start < i). digit i less below)
          (λ (same : i ≤ start).
          let e : start ≡ i = omega (arith, same, from) in
          ap (λ j. is_ascii_digit (get_or text j 0)) (sym e) ∙ here refl)
          (cases_lt start i));
    }

    at : IsInside text start → IsNumberIn text start end
    at (inl is) =
        by (get_or text start 0 == 45) refl
        (λ minus. let e : get_or text start 0 ≡ 45 = equal-from (get_or text start 0) 45 minus in
        absurd (differ (is_ascii_digit (get_or text start 0)) is (no-digit (get_or text start 0) e)))
        (λ plain. is)
    at (inr minus) =
        by (get_or text start 0 == 45) refl (λ is. minus.2)
        (λ plain. absurd (differ (get_or text start 0 == 45)
        (ap (λ b. b == 45) minus.0) plain))
