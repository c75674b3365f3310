-- Eight digits as the bytes of a number, and the number that they spell.
use Rattle.std.proofs.Common.{ℕ, zero, suc, ◌≡◌, ◌+◌, ◌-◌, ◌*◌, ◌/◌, ◌%◌, ◌<◌, ◌≤◌, ◌^◌, true}
use Rattle.std.proofs.Common.{List, [], ◌∷◌, ◌++◌, length, get_or, map, take, replicate, All, Fits}
use Rattle.std.proofs.Common.{drop, pow-suc, w8, w64, refl, sym, ap, ap₂, ◌∙◌, subst, arith}
use Rattle.std.proofs.lemmas.Nat.{and_block, and_mask}
use Rattle.std.proofs.Math.Nat.{mul-le-mul_right}
use Rattle.std.proofs.lemmas.List.{length-take-le, get_or-take}
use Rattle.std.proofs.lemmas.List.Elements.{All-append, All-from_get_or, All-map, All-replicate}
use Rattle.std.proofs.lemmas.List.Folds.{fold-map}
use Rattle.std.specs.Int.{from_le_bytes}
use Rattle.std.specs.Char.{is_ascii_digit}
use Rattle.std.specs.List.{fold, list_all}
use lib.Bits.{bit_and}
use lib.Lanes.{number_l}
use Rattle.lb_trace.specs.Cells.{decimal}
use Rattle.lb_trace.specs.Fronts.{bytes_of, joined, lone, number_of}
use Rattle.lb_trace.proofs.Fronts.{digit-at, digit-least}
use Rattle.lb_trace.proofs.SmallNumbers.{and-parts}

-- the eight bytes of a number, which is given as their sum
pub bytes-eight : (a b c d e f g h x : ℕ)
    → x ≡ a + 256 * (b + 256 * (c + 256 * (d + 256 * (e + 256 * (f + 256 * (g + 256 * h))))))
    → a < 256 → b < 256 → c < 256 → d < 256 → e < 256 → f < 256 → g < 256 → h < 256
    → bytes_of x ≡ a ∷ b ∷ c ∷ d ∷ e ∷ f ∷ g ∷ h ∷ []
unfolding bytes_of
bytes-eight a b c d e f g h x is la lb lc ld le lf lg lh =
    let pa : x % 256 ≡ a = omega arith in
    let pb : x / 256 % 256 ≡ b = omega arith in
    let pc : x / 256 / 256 % 256 ≡ c = omega arith in
    let pd : x / 256 / 256 / 256 % 256 ≡ d = omega arith in
    let pe : x / 256 / 256 / 256 / 256 % 256 ≡ e = omega arith in
    let pf : x / 256 / 256 / 256 / 256 / 256 % 256 ≡ f = omega arith in
    let pg : x / 256 / 256 / 256 / 256 / 256 / 256 % 256 ≡ g = omega arith in
    let ph : x / 256 / 256 / 256 / 256 / 256 / 256 / 256 % 256 ≡ h = omega arith in
    λ i. pa i ∷ pb i ∷ pc i ∷ pd i ∷ pe i ∷ pf i ∷ pg i ∷ ph i ∷ []

-- `bit_and` with 0xFF000000FF keeps the bytes 0 and 4 of a number
pair-bytes : (y : ℕ) → bit_and y 1095216660735 ≡ y % 256 + y / 4294967296 % 256 * 4294967296
pair-bytes y =
    let upper : ℕ = y / 4294967296 in
    let lower : ℕ = y % 4294967296 in
    let whole : y ≡ upper * 2 ^ 32 + lower = omega arith in
    ap (λ n. bit_and n 1095216660735) whole
    ∙ and_block 32 upper 255 lower 255 (omega arith) (omega arith)
    ∙ ap₂ (λ a b. a * 2 ^ 32 + b) (and_mask upper 8) (and_mask lower 8)
    ∙ omega arith

-- two products add up four pairs of digits; their sum stands from bit 32 on
pair-sums : (y p q r s : ℕ) → y % 256 ≡ p → y / 65536 % 256 ≡ q → y / 4294967296 % 256 ≡ r
    → y / 281474976710656 % 256 ≡ s → p < 100 → q < 100 → r < 100 → s < 100
    → (bit_and y 1095216660735 * 4294967296000100 % 2 ^ 64
    + bit_and (y / 65536) 1095216660735 * 42949672960001 % 2 ^ 64 < 2 ^ 64)
    × ((bit_and y 1095216660735 * 4294967296000100 % 2 ^ 64
    + bit_and (y / 65536) 1095216660735 * 42949672960001 % 2 ^ 64) / 4294967296
    ≡ p * 1000000 + q * 10000 + r * 100 + s)
pair-sums y p q r s ep eq er es lp lq lr ls =
    let outer : bit_and y 1095216660735 ≡ p + r * 4294967296 =
    omega (arith, pair-bytes y, ep, er) in
    let inner : bit_and (y / 65536) 1095216660735 ≡ q + s * 4294967296 =
    omega (arith, pair-bytes (y / 65536), eq, es) in
    let one : bit_and y 1095216660735 * 4294967296000100 % 18446744073709551616
    ≡ p * 100 + (p * 1000000 + r * 100) * 4294967296 = omega (arith, outer, lp, lr) in
    let two : bit_and (y / 65536) 1095216660735 * 42949672960001 % 18446744073709551616
    ≡ q + (q * 10000 + s) * 4294967296 = omega (arith, inner, lq, ls) in (
      omega (arith, one, two, lp, lq, lr, ls),
      omega (arith, one, two, lp, lq, lr, ls),
    )

-- the two products of the pairs `y`
abbrev pub outer_of : ℕ → ℕ
outer_of y = bit_and y 1095216660735 * 4294967296000100 % 2 ^ 64

abbrev pub inner_of : ℕ → ℕ
inner_of y = bit_and (y / 65536) 1095216660735 * 42949672960001 % 2 ^ 64

-- the two products of the pairs of eight digits make the number of the digits
eight-joined : (x a b c d e f g h y : ℕ)
    → x ≡ a + 256 * (b + 256 * (c + 256 * (d + 256 * (e + 256 * (f + 256 * (g + 256 * h))))))
    → a < 10 → b < 10 → c < 10 → d < 10 → e < 10 → f < 10 → g < 10 → h < 10
    → y ≡ x * 10 + x / 256
    → (outer_of y + inner_of y < 2 ^ 64)
    × ((outer_of y + inner_of y) / 4294967296 ≡ joined (a ∷ b ∷ c ∷ d ∷ e ∷ f ∷ g ∷ h ∷ []))
unfolding joined
eight-joined x a b c d e f g h y is la lb lc ld le lf lg lh sum =
    let p : y % 256 ≡ a * 10 + b = omega arith in
    let q : y / 65536 % 256 ≡ c * 10 + d = omega arith in
    let r : y / 4294967296 % 256 ≡ e * 10 + f = omega arith in
    let s : y / 281474976710656 % 256 ≡ g * 10 + h = omega arith in
    let both = pair-sums y (a * 10 + b) (c * 10 + d) (e * 10 + f) (g * 10 + h) p q r s
    (omega arith) (omega arith) (omega arith) (omega arith) in
    (both.0, both.1 ∙ omega arith)

-- the two products make the number of the bytes of `x`, where these are digits
pub pairs-joined : (x : ℕ) → x < 2 ^ 64 → All (λ digit. digit < 10) (bytes_of x)
    → (x * 10 + x / 256 < 2 ^ 64)
    × (outer_of (x * 10 + x / 256) + inner_of (x * 10 + x / 256) < 2 ^ 64)
    × ((outer_of (x * 10 + x / 256) + inner_of (x * 10 + x / 256)) / 4294967296
    ≡ joined (bytes_of x))
unfolding bytes_of
pairs-joined x fits small =
    let a : ℕ = x % 256 in
    let b : ℕ = x / 256 % 256 in
    let c : ℕ = x / 256 / 256 % 256 in
    let d : ℕ = x / 256 / 256 / 256 % 256 in
    let e : ℕ = x / 256 / 256 / 256 / 256 % 256 in
    let f : ℕ = x / 256 / 256 / 256 / 256 / 256 % 256 in
    let g : ℕ = x / 256 / 256 / 256 / 256 / 256 / 256 % 256 in
    let h : ℕ = x / 256 / 256 / 256 / 256 / 256 / 256 / 256 % 256 in
    let la : a < 10 = small 0 0 (omega arith) in
    let lb : b < 10 = small 1 0 (omega arith) in
    let lc : c < 10 = small 2 0 (omega arith) in
    let ld : d < 10 = small 3 0 (omega arith) in
    let le : e < 10 = small 4 0 (omega arith) in
    let lf : f < 10 = small 5 0 (omega arith) in
    let lg : g < 10 = small 6 0 (omega arith) in
    let lh : h < 10 = small 7 0 (omega arith) in
    let is : x ≡ a
    + 256 * (b + 256 * (c + 256 * (d + 256 * (e + 256 * (f + 256 * (g + 256 * h)))))) =
    omega (arith, fits) in
    let both = eight-joined x a b c d e f g h (x * 10 + x / 256) is la lb lc ld le lf lg lh refl
    in (omega (arith, is, la, lb, lc, ld, le, lf, lg, lh), both.0, both.1)

abbrev zeros : ℕ
zeros = 3472328296227680304

-- the first `count` bytes of `x`, moved up to be the highest, less 48 each, are `lone` of the text
abbrev pub IsLone : ℕ → List ℕ → ℕ → Type 0
IsLone count text x =
    (zeros * 2 ^ (64 - 8 * count) % 2 ^ 64 ≤ x * 2 ^ (64 - 8 * count) % 2 ^ 64)
    × (bytes_of (x * 2 ^ (64 - 8 * count) % 2 ^ 64 - zeros * 2 ^ (64 - 8 * count) % 2 ^ 64)
    ≡ lone count text)

module _ (a b c d e f g h x : ℕ) (rest : List ℕ)
    (is : x ≡ a + 256 * (b + 256 * (c + 256 * (d + 256 * (e + 256 * (f + 256 * (g + 256 * h)))))))
    (la : a < 256) (lb : b < 256) (lc : c < 256) (ld : d < 256) (le : e < 256) (lf : f < 256)
    (lg : g < 256) (lh : h < 256) where
  abbrev text : List ℕ
  text = a ∷ b ∷ c ∷ d ∷ e ∷ f ∷ g ∷ h ∷ rest

  one-alone : ((i : ℕ) → i < 1 → (48 ≤ get_or text i 0) × (get_or text i 0 - 48 < 10))
      → IsLone 1 text x
  unfolding lone
  one-alone digit =
      let da = digit 0 (omega arith) in
      let moved : x * 72057594037927936 % 18446744073709551616
      ≡ 72057594037927936 * a = omega arith in (
        omega (arith, moved, da.0),
        bytes-eight 0 0 0 0 0 0 0 (a - 48) _
            (omega (arith, moved, da.0))
            (omega arith) (omega arith) (omega arith) (omega arith) (omega arith) (omega arith)
            (omega arith) (omega (arith, da.1)),
      )

  two-alone : ((i : ℕ) → i < 2 → (48 ≤ get_or text i 0) × (get_or text i 0 - 48 < 10))
      → IsLone 2 text x
  unfolding lone
  two-alone digit =
      let da = digit 0 (omega arith) in
      let db = digit 1 (omega arith) in
      let moved : x * 281474976710656 % 18446744073709551616
      ≡ 281474976710656 * (a + 256 * b) = omega arith in (
        omega (arith, moved, da.0, db.0),
        bytes-eight 0 0 0 0 0 0 (a - 48) (b - 48) _
            (omega (arith, moved, da.0, db.0))
            (omega arith) (omega arith) (omega arith) (omega arith) (omega arith) (omega arith)
            (omega (arith, da.1)) (omega (arith, db.1)),
      )

  three-alone : ((i : ℕ) → i < 3 → (48 ≤ get_or text i 0) × (get_or text i 0 - 48 < 10))
      → IsLone 3 text x
  unfolding lone
  three-alone digit =
      let da = digit 0 (omega arith) in
      let db = digit 1 (omega arith) in
      let dc = digit 2 (omega arith) in
      let moved : x * 1099511627776 % 18446744073709551616
      ≡ 1099511627776 * (a + 256 * (b + 256 * c)) = omega arith in (
        omega (arith, moved, da.0, db.0, dc.0),
        bytes-eight 0 0 0 0 0 (a - 48) (b - 48) (c - 48) _
            (omega (arith, moved, da.0, db.0, dc.0))
            (omega arith) (omega arith) (omega arith) (omega arith) (omega arith) (omega (
              arith,
              da.1,
            )) (omega (arith, db.1)) (omega (arith, dc.1)),
      )

  four-alone : ((i : ℕ) → i < 4 → (48 ≤ get_or text i 0) × (get_or text i 0 - 48 < 10))
      → IsLone 4 text x
  unfolding lone
  four-alone digit =
      let da = digit 0 (omega arith) in
      let db = digit 1 (omega arith) in
      let dc = digit 2 (omega arith) in
      let dd = digit 3 (omega arith) in
      let moved : x * 4294967296 % 18446744073709551616
      ≡ 4294967296 * (a + 256 * (b + 256 * (c + 256 * d))) = omega arith in (
        omega (arith, moved, da.0, db.0, dc.0, dd.0),
        bytes-eight 0 0 0 0 (a - 48) (b - 48) (c - 48) (d - 48) _
            (omega (arith, moved, da.0, db.0, dc.0, dd.0))
            (omega arith) (omega arith) (omega arith) (omega arith) (omega (arith, da.1)) (omega
            (arith, db.1)) (omega (arith, dc.1)) (omega (arith, dd.1)),
      )

  five-alone : ((i : ℕ) → i < 5 → (48 ≤ get_or text i 0) × (get_or text i 0 - 48 < 10))
      → IsLone 5 text x
  unfolding lone
  five-alone digit =
      let da = digit 0 (omega arith) in
      let db = digit 1 (omega arith) in
      let dc = digit 2 (omega arith) in
      let dd = digit 3 (omega arith) in
      let de = digit 4 (omega arith) in
      let moved : x * 16777216 % 18446744073709551616
      ≡ 16777216 * (a + 256 * (b + 256 * (c + 256 * (d + 256 * e)))) = omega arith in (
        omega (arith, moved, da.0, db.0, dc.0, dd.0, de.0),
        bytes-eight 0 0 0 (a - 48) (b - 48) (c - 48) (d - 48) (e - 48) _
            (omega (arith, moved, da.0, db.0, dc.0, dd.0, de.0))
            (omega arith) (omega arith) (omega arith) (omega (arith, da.1)) (omega (arith, db.1))
            (omega (arith, dc.1)) (omega (arith, dd.1)) (omega (arith, de.1)),
      )

  six-alone : ((i : ℕ) → i < 6 → (48 ≤ get_or text i 0) × (get_or text i 0 - 48 < 10))
      → IsLone 6 text x
  unfolding lone
  six-alone digit =
      let da = digit 0 (omega arith) in
      let db = digit 1 (omega arith) in
      let dc = digit 2 (omega arith) in
      let dd = digit 3 (omega arith) in
      let de = digit 4 (omega arith) in
      let df = digit 5 (omega arith) in
      let moved : x * 65536 % 18446744073709551616
      ≡ 65536 * (a + 256 * (b + 256 * (c + 256 * (d + 256 * (e + 256 * f))))) = omega arith in (
        omega (arith, moved, da.0, db.0, dc.0, dd.0, de.0, df.0),
        bytes-eight 0 0 (a - 48) (b - 48) (c - 48) (d - 48) (e - 48) (f - 48) _
            (omega (arith, moved, da.0, db.0, dc.0, dd.0, de.0, df.0))
            (omega arith) (omega arith) (omega (arith, da.1)) (omega (arith, db.1)) (omega (
              arith,
              dc.1,
            )) (omega (arith, dd.1)) (omega (arith, de.1)) (omega (arith, df.1)),
      )

  seven-alone : ((i : ℕ) → i < 7 → (48 ≤ get_or text i 0) × (get_or text i 0 - 48 < 10))
      → IsLone 7 text x
  unfolding lone
  seven-alone digit =
      let da = digit 0 (omega arith) in
      let db = digit 1 (omega arith) in
      let dc = digit 2 (omega arith) in
      let dd = digit 3 (omega arith) in
      let de = digit 4 (omega arith) in
      let df = digit 5 (omega arith) in
      let dg = digit 6 (omega arith) in
      let moved : x * 256 % 18446744073709551616
      ≡ 256 * (a + 256 * (b + 256 * (c + 256 * (d + 256 * (e + 256 * (f + 256 * g)))))) = omega
      arith in (
        omega (arith, moved, da.0, db.0, dc.0, dd.0, de.0, df.0, dg.0),
        bytes-eight 0 (a - 48) (b - 48) (c - 48) (d - 48) (e - 48) (f - 48) (g - 48) _
            (omega (arith, moved, da.0, db.0, dc.0, dd.0, de.0, df.0, dg.0))
            (omega arith) (omega (arith, da.1)) (omega (arith, db.1)) (omega (arith, dc.1)) (omega
            (arith, dd.1)) (omega (arith, de.1)) (omega (arith, df.1)) (omega (arith, dg.1)),
      )

-- a text of at least eight bytes is these bytes and then the rest
pub eight-front : (text : List ℕ) → 7 < length text
    → text ≡ get_or text 0 0 ∷ get_or text 1 0 ∷ get_or text 2 0 ∷ get_or text 3 0
    ∷ get_or text 4 0 ∷ get_or text 5 0 ∷ get_or text 6 0 ∷ get_or text 7 0 ∷ drop 8 text
eight-front [] long = absurd (omega (arith, long))
eight-front (a ∷ []) long = absurd (omega (arith, long))
eight-front (a ∷ b ∷ []) long = absurd (omega (arith, long))
eight-front (a ∷ b ∷ c ∷ []) long = absurd (omega (arith, long))
eight-front (a ∷ b ∷ c ∷ d ∷ []) long = absurd (omega (arith, long))
eight-front (a ∷ b ∷ c ∷ d ∷ e ∷ []) long = absurd (omega (arith, long))
eight-front (a ∷ b ∷ c ∷ d ∷ e ∷ f ∷ []) long = absurd (omega (arith, long))
eight-front (a ∷ b ∷ c ∷ d ∷ e ∷ f ∷ g ∷ []) long = absurd (omega (arith, long))
eight-front (a ∷ b ∷ c ∷ d ∷ e ∷ f ∷ g ∷ h ∷ rest) long = refl

-- the number that is made of the first eight bytes of a text is `number_of` of them
pub eight-number : (text : List ℕ) (n : ℕ) → 7 < length text
    → n ≡ from_le_bytes w64 (get_or text 0 0 ∷ get_or text 1 0 ∷ get_or text 2 0
    ∷ get_or text 3 0 ∷ get_or text 4 0 ∷ get_or text 5 0 ∷ get_or text 6 0 ∷ get_or text 7 0 ∷ [])
    → n ≡ number_of (take 8 text)
unfolding number_of
eight-number text n long is =
    (let e : n ≡ get_or text 0 0 + 256 * (get_or text 1 0 + 256 * (get_or text 2 0
    + 256 * (get_or text 3 0 + 256 * (get_or text 4 0 + 256 * (get_or text 5 0
    + 256 * (get_or text 6 0 + 256 * (get_or text 7 0 + 256 * 0))))))) = omega (arith, is) in e)
    ∙ ap (λ t. number_l 256 (take 8 t)) (sym (eight-front text long))

-- the number of the first eight bytes of a text gives its first `count` digits
alone : (a b c d e f g h x count : ℕ) (rest : List ℕ) → 0 < count → count ≤ 7
    → x ≡ a + 256 * (b + 256 * (c + 256 * (d + 256 * (e + 256 * (f + 256 * (g + 256 * h))))))
    → a < 256 → b < 256 → c < 256 → d < 256 → e < 256 → f < 256 → g < 256 → h < 256
    → ((i : ℕ) → i < count → (48 ≤ get_or (a ∷ b ∷ c ∷ d ∷ e ∷ f ∷ g ∷ h ∷ rest) i 0)
    × (get_or (a ∷ b ∷ c ∷ d ∷ e ∷ f ∷ g ∷ h ∷ rest) i 0 - 48 < 10))
    → IsLone count (a ∷ b ∷ c ∷ d ∷ e ∷ f ∷ g ∷ h ∷ rest) x
alone a b c d e f g h x zero rest some few is la lb lc ld le lf lg lh digit =
    absurd (omega (arith, some))
alone a b c d e f g h x (suc zero) rest some few is la lb lc ld le lf lg lh digit =
    one-alone a b c d e f g h x rest is la lb lc ld le lf lg lh digit
alone a b c d e f g h x (suc (suc zero)) rest some few is la lb lc ld le lf lg lh digit =
    two-alone a b c d e f g h x rest is la lb lc ld le lf lg lh digit
alone a b c d e f g h x (suc (suc (suc zero))) rest some few is la lb lc ld le lf lg lh digit =
    three-alone a b c d e f g h x rest is la lb lc ld le lf lg lh digit
alone a b c d e f g h x (suc (suc (suc (suc zero)))) rest some few is la lb lc ld le lf lg lh
    digit =
    four-alone a b c d e f g h x rest is la lb lc ld le lf lg lh digit
alone a b c d e f g h x (suc (suc (suc (suc (suc zero))))) rest some few is la lb lc ld le lf lg
    lh digit =
    five-alone a b c d e f g h x rest is la lb lc ld le lf lg lh digit
alone a b c d e f g h x (suc (suc (suc (suc (suc (suc zero)))))) rest some few is la lb lc ld le
    lf lg lh digit =
    six-alone a b c d e f g h x rest is la lb lc ld le lf lg lh digit
alone a b c d e f g h x (suc (suc (suc (suc (suc (suc (suc zero))))))) rest some few is la lb lc
    ld le lf lg lh digit =
    seven-alone a b c d e f g h x rest is la lb lc ld le lf lg lh digit
alone a b c d e f g h x (suc (suc (suc (suc (suc (suc (suc (suc n)))))))) rest some few is la lb
    lc ld le lf lg lh digit =
    absurd (omega (arith, few))

pub lone-read : (text : List ℕ) (count x : ℕ) → 7 < length text → 0 < count → count ≤ 7
    → list_all is_ascii_digit (take count text) ≡ true → ((k : ℕ) → Fits w8 (get_or text k 0))
    → x ≡ number_of (take 8 text) → IsLone count text x
unfolding number_of
lone-read text count x long some few all fits is =
    let front = eight-front text long in
    subst (λ t. IsLone count t x) (sym front)
    (alone (get_or text 0 0) (get_or text 1 0) (get_or text 2 0) (get_or text 3 0)
    (get_or text 4 0) (get_or text 5 0) (get_or text 6 0) (get_or text 7 0) x count (drop 8 text)
    some few
    (let e : x ≡ number_l 256 (take 8 (get_or text 0 0 ∷ get_or text 1 0 ∷ get_or text 2 0
    ∷ get_or text 3 0 ∷ get_or text 4 0 ∷ get_or text 5 0 ∷ get_or text 6 0 ∷ get_or text 7 0
    ∷ drop 8 text)) = is ∙ ap (λ t. number_l 256 (take 8 t)) front in omega (arith, e))
    (fits 0).fits (fits 1).fits (fits 2).fits (fits 3).fits (fits 4).fits (fits 5).fits
    (fits 6).fits (fits 7).fits
    (λ i l. subst (λ t. (48 ≤ get_or t i 0) × (get_or t i 0 - 48 < 10)) front
    (digit-least (get_or text i 0) (digit-at text i count (omega (arith, l, few, long)) all l))))

-- ## The number of the digits

joined-zeros : (n : ℕ) (digits : List ℕ) → joined (replicate n 0 ++ digits) ≡ joined digits
unfolding joined
joined-zeros zero digits = refl
joined-zeros (suc n) digits = joined-zeros n digits

pub lone-value : (count : ℕ) (text : List ℕ) → joined (lone count text) ≡ decimal (take count text)
unfolding joined lone
lone-value count text =
    joined-zeros (8 - count) (map (λ b. b - 48) (take count text))
    ∙ fold-map (λ n digit. n * 10 + digit) (λ b. b - 48) 0 (take count text)

pub lone-digits : (count : ℕ) (text : List ℕ) → count ≤ length text
    → list_all is_ascii_digit (take count text) ≡ true → All (λ digit. digit < 10) (lone count text)
unfolding lone
lone-digits count text room all =
    All-append (λ digit. digit < 10) (replicate (8 - count) 0) (map (λ b. b - 48) (take count text))
    (All-replicate (λ digit. digit < 10) (8 - count) 0 (omega arith))
    (All-map (λ digit. digit < 10) (λ b. b - 48) (take count text)
    (All-from_get_or (λ b. b - 48 < 10) (take count text) 0 (λ i l.
    let long = length-take-le count text room in
    let few : i < count = omega (arith, l, long) in
    subst (λ b. b - 48 < 10) (sym (get_or-take count text i 0 few))
    (digit-least (get_or text i 0) (digit-at text i count (omega (arith, few, room)) all few)).1)))

regroup : (m p : ℕ) → (m * 10) * p ≡ m * (p * 10)
regroup m p = omega arith

-- digits behind the number `n` spell a number below `(n + 1) * 10 ^ length digits`
digits-below : (digits : List ℕ) (n : ℕ) → list_all is_ascii_digit digits ≡ true
    → fold (λ n digit. n * 10 + (digit - 48)) n digits < (n + 1) * 10 ^ length digits
digits-below [] n all = omega arith
digits-below (b ∷ rest) n all =
    let parts = and-parts (is_ascii_digit b) (list_all is_ascii_digit rest) all in
    let next : ℕ = n * 10 + (b - 48) in
    let least : next + 1 ≤ (n + 1) * 10 = omega (arith, (digit-least b parts.0).1) in
    let p : ℕ = 10 ^ length rest in
    let grown : (next + 1) * p ≤ ((n + 1) * 10) * p = mul-le-mul_right p least in
    let more : ((n + 1) * 10) * p ≡ (n + 1) * 10 ^ suc (length rest) =
    regroup (n + 1) p ∙ ap (λ q. (n + 1) * q) (sym (pow-suc 10 (length rest))) in
    omega (arith, digits-below rest next parts.1, grown, more)

pub digits-small : (count : ℕ) (text : List ℕ) → count ≤ length text
    → list_all is_ascii_digit (take count text) ≡ true → decimal (take count text) < 10 ^ count
digits-small count text room all =
    let below = digits-below (take count text) 0 all in
    let long = length-take-le count text room in
    omega (arith, rw long at below)
