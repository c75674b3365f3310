-- The digits at the front of a text, counted at once and added up one after the other.
use Rattle.std.proofs.Common.{ℕ, zero, suc, ◌≡◌, ◌+◌, ◌-◌, ◌*◌, ◌/◌, ◌%◌, ◌<◌, ◌≤◌, ◌^◌}
use Rattle.std.proofs.Common.{Bool, true, false, not, cond, if◌then◌else◌, List, []}
use Rattle.std.proofs.Common.{◌∷◌, length, get_or, map, take, drop, replicate, Fits, w8}
use Rattle.std.proofs.Common.{refl, sym, ap, ap₂, ◌∙◌, subst, arith}
use Rattle.std.proofs.lemmas.Bool.{agree_below, agree_below_at}
use Rattle.std.proofs.lemmas.Bool.Decides.{nat_tests}
use Rattle.std.proofs.lemmas.List.{length-map, length-take-le, take-take, take_rest}
use Rattle.std.proofs.lemmas.Simd.{map-map, mask_l-mod, trailing_mask_l}
use Rattle.std.specs.Char.{is_ascii_digit}
use Rattle.std.specs.List.{list_all, prefix_len}
use lib.Count.{count_trailing_zeros}
use lib.Lanes.{mask_l, top, zip2}
use Rattle.lb_trace.specs.Fronts.{CountsDigits, others, past_sign, sign_len}
use Rattle.lb_trace.proofs.SmallNumbers.{and-parts}

abbrev other : ℕ → Bool
other b = not (is_ascii_digit b)

zip2-map : (h : ℕ → ℕ → ℕ) (f g : ℕ → ℕ) (xs : List ℕ)
    → zip2 h (map f xs) (map g xs) ≡ map (λ x. h (f x) (g x)) xs
zip2-map h f g [] = refl
zip2-map h f g (x ∷ xs) = ap (λ r. h (f x) (g x) ∷ r) (zip2-map h f g xs)

-- an operation on two vectors, each computed lane by lane from `v`, is one operation on `v`
pub joined : (h : ℕ → ℕ → ℕ) (f g : ℕ → ℕ) (v : List ℕ) {a b : List ℕ}
    → a ≡ map f v → b ≡ map g v → zip2 h a b ≡ map (λ x. h (f x) (g x)) v
joined h f g v p q = ap₂ (zip2 h) p q ∙ zip2-map h f g v

-- a vector of one value is computed lane by lane from any vector of its length
pub splat_is : (v : List ℕ) (n y : ℕ) → length v ≡ n → replicate n y ≡ map (λ _. y) v
splat_is [] n y e = ap (λ k. replicate k y) (sym e)
splat_is (x ∷ xs) n y e =
    ap (λ k. replicate k y) (sym e) ∙ ap (λ r. y ∷ r) (splat_is xs (length xs) y refl)

same_front : (p q : ℕ → Bool) (n : ℕ) (text : List ℕ)
    → agree_below p q 256 ≡ true → ((k : ℕ) → Fits w8 (get_or text k 0))
    → map p (take n text) ≡ map q (take n text)
same_front p q zero text all fits = refl
same_front p q (suc n) [] all fits = refl
same_front p q (suc n) (b ∷ rest) all fits =
    ap₂ (λ (x : Bool) (xs : List Bool). x ∷ xs) (agree_below_at p q 256 b all (fits 0).fits)
    (same_front p q n rest all (λ k. fits (suc k)))

-- the mask of lanes computed from the first `n` bytes of a text is `others` of these bytes
pub others-of : (text : List ℕ) (n mask : ℕ) (z : List ℕ) (f : ℕ → ℕ)
    → n ≤ length text → n ≤ 64 → ((k : ℕ) → Fits w8 (get_or text k 0))
    → mask ≡ mask_l (map (top 7) z) % 2 ^ 64 → z ≡ map f (take n text)
    → agree_below (λ x. top 7 (f x)) other 256 ≡ true
    → mask ≡ others (take n text)
others-of text n mask z f room few fits is lanes all =
    let stops : ℕ → Bool = λ x. top 7 (f x) in
    let v : List ℕ = take n text in
    is ∙ ap (λ l. mask_l l % 2 ^ 64) (ap (map (top 7)) lanes ∙ map-map (top 7) f v)
    ∙ mask_l-mod (map stops v) 64
    (omega (arith, length-map v stops, length-take-le n text room))
    ∙ ap mask_l (same_front stops other n text all fits)

stops-within : (xs : List ℕ) → 0 < others xs → prefix_len (λ x. not (other x)) xs < length xs
stops-within [] some = absurd (omega (arith, some))
stops-within (x ∷ xs) some = by (other x) refl (λ left. stops-within xs left)
  where
    by : (b : Bool) → other x ≡ b
        → (0 < others xs → prefix_len (λ y. not (other y)) xs < length xs)
        → prefix_len (λ y. not (other y)) (x ∷ xs) < length (x ∷ xs)
    by true e more = rw e (omega arith)
    by false e more =
        let left : 0 < others xs = omega (arith, rw e at some) in
        rw e (omega (arith, more left))

digits-before : (xs : List ℕ)
    → list_all is_ascii_digit (take (prefix_len (λ x. not (other x)) xs) xs) ≡ true
digits-before [] = refl
digits-before (x ∷ xs) = by (is_ascii_digit x) refl (digits-before xs)
  where
    by : (b : Bool) → is_ascii_digit x ≡ b
        → list_all is_ascii_digit (take (prefix_len (λ y. not (other y)) xs) xs) ≡ true
        → list_all is_ascii_digit (take (prefix_len (λ y. not (other y)) (x ∷ xs)) (x ∷ xs))
        ≡ true
    by true e more =
        let next : 1 + prefix_len (λ y. not (other y)) xs
        ≡ suc (prefix_len (λ y. not (other y)) xs) = omega arith in
        rw e (ap (λ m. list_all is_ascii_digit (take m (x ∷ xs))) next ∙ rw e more)
    by false e more = rw e refl

-- the zeros at the low end of `others` count the digits at the front, where a byte is no digit
pub front-counted : (xs : List ℕ) (count : ℕ) → length xs ≤ 64 → 0 < others xs
    → count ≡ count_trailing_zeros 64 (others xs)
    → (count < length xs) × (list_all is_ascii_digit (take count xs) ≡ true)
front-counted xs count few some is =
    let same : count ≡ prefix_len (λ x. not (other x)) xs =
    is ∙ trailing_mask_l other 64 xs few some in (
      omega (arith, same, stops-within xs some),
      ap (λ n. list_all is_ascii_digit (take n xs)) same ∙ digits-before xs,
    )

half : (m : Bool) (r : ℕ) → (cond m 1 0 + 2 * r) / 2 ≡ r
half true r = omega arith
half false r = omega arith

-- the count 8 claims nothing
pub counts-none : (negative : Bool) (text : List ℕ) → CountsDigits negative text 8
counts-none negative text = λ few. absurd (omega (arith, few))

-- the zeros at the low end of the mask behind the sign count the digits, where it is not 0
pub counts : (negative : Bool) (text : List ℕ) (mask after count : ℕ) → 7 < length text
    → mask ≡ others (take 8 text) → after ≡ (if negative then mask / 2 else mask) → 0 < after
    → count ≡ count_trailing_zeros 64 after → CountsDigits negative text count
counts false text mask after count room is same some found =
    let at : after ≡ others (take 8 text) = same ∙ is in
    let long : length (take 8 text) ≡ 8 = length-take-le 8 text (omega arith) in
    let both = front-counted (take 8 text) count (omega (arith, long))
    (subst (λ m. 0 < m) at some) (found ∙ ap (count_trailing_zeros 64) at) in
    λ few. (
      omega (arith, both.0, long),
      ap (list_all is_ascii_digit) (sym (take-take count 8 text (omega arith))) ∙ both.1,
    )
counts true [] mask after count room is same some found = absurd (omega arith)
counts true (b ∷ rest) mask after count room is same some found =
    let at : after ≡ others (take 7 rest) =
    same ∙ ap (λ m. m / 2) is ∙ half (other b) (others (take 7 rest)) in
    let long : length (take 7 rest) ≡ 7 = length-take-le 7 rest (omega arith) in
    let both = front-counted (take 7 rest) count (omega (arith, long))
    (subst (λ m. 0 < m) at some) (found ∙ ap (count_trailing_zeros 64) at) in
    λ few. (
      omega (arith, both.0, long),
      ap (list_all is_ascii_digit) (sym (take-take count 7 rest (omega arith))) ∙ both.1,
    )

-- the text after an optional sign, as a slice gives it
pub sign-past : (negative : Bool) (text digits : List ℕ)
    → digits ≡ (if negative then take (length text - 1) (drop 1 text) else text)
    → digits ≡ past_sign negative text
sign-past true text digits is = is ∙ take_rest text 1
sign-past false text digits is = is

past-long : (negative : Bool) (text : List ℕ) → 0 < length text
    → length (past_sign negative text) + sign_len negative ≡ length text
past-long true [] some = absurd (omega (arith, some))
past-long true (b ∷ rest) some = omega arith
past-long false text some = omega arith

-- the text after an optional sign is shorter than the text by that sign
pub digits-long : (negative : Bool) (text digits : List ℕ) → 7 < length text
    → digits ≡ past_sign negative text → length digits + sign_len negative ≡ length text
digits-long negative text digits some is =
    ap (λ (d : List ℕ). length d + sign_len negative) is
    ∙ past-long negative text (omega arith)

pub digit-least : (b : ℕ) → is_ascii_digit b ≡ true → (48 ≤ b) × (b - 48 < 10)
digit-least b e = (grind (arith, nat_tests), grind (arith, nat_tests))

-- each of the first `count` bytes is a digit where all of them are
pub digit-at : (text : List ℕ) (at count : ℕ) → at < length text
    → list_all is_ascii_digit (take count text) ≡ true → at < count
    → is_ascii_digit (get_or text at 0) ≡ true
digit-at text at zero room all few = absurd (omega (arith, few))
digit-at [] at (suc count) room all few = absurd (omega (arith, room))
digit-at (b ∷ rest) zero (suc count) room all few =
    (and-parts (is_ascii_digit b) (list_all is_ascii_digit (take count rest)) all).0
digit-at (b ∷ rest) (suc at) (suc count) room all few =
    digit-at rest at count (omega (arith, room))
    (and-parts (is_ascii_digit b) (list_all is_ascii_digit (take count rest)) all).1
    (omega (arith, few))
