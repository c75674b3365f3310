-- Integers of 64 bits, by their halves.
use Rattle.std.proofs.Common.{◌≡◌, ℕ, ◌<◌, ◌==◌, Bool, true, false, ◌&&◌, ◌||◌, List, ℤ, pos}
use Rattle.std.proofs.Common.{negsuc, ◌+ℤ◌, ◌*ℤ◌, refl, sym, ap, ap₂, ◌∙◌, arith, cond, ltb, w32}
use Rattle.std.proofs.Common.{w64, SFits, of_z, to_z, zero-add}
use Rattle.std.specs.Int.RustNames.{int_lt}
use Rattle.std.specs.Cmp.{signed_Decides}
use Rattle.std.specs.Ordering.{int_eq}
use Rattle.std.specs.Prelude.{Option}
use Rattle.std.proofs.Math.Facts.{Fits-of_z}
use Rattle.std.proofs.lemmas.Bool.{and_from, and_parts}
use Rattle.std.proofs.lemmas.Int.{ints, to_z-of_z}
use Rattle.std.proofs.lemmas.List.FromFn.{get_or-map-range_with_len}
use Rattle.lb_lanes.specs.Correct.{IsBlend, IsKernel}
use Rattle.lb_lanes.specs.Halves.{whole_of, whole_lanes, sign_of, is_below_unsigned}
use Rattle.lb_lanes.specs.Kernels.{AreInts, faulty, kept, lane_of}
use Rattle.lb_lanes.specs.Operators.{is_int}
use Rattle.lb_lanes.specs.Planes.{on}
use Rattle.lb_lanes.proofs.Checks.{int_same}
use Rattle.lb_lanes.proofs.Words.{fits_int, int_fits}

-- ## One integer

-- two tests are equal if each implies the other
iff_same : (b c : Bool) → (b ≡ true → c ≡ true) → (c ≡ true → b ≡ true) → b ≡ c
iff_same true true f g = refl
iff_same true false f g = sym (f refl)
iff_same false true f g = g refl
iff_same false false f g = refl

int_equal : (x y : ℤ) → x ≡ y → int_eq x y ≡ true
int_equal x y e = (signed_Decides x y).1 e

-- equal integers have equal upper halves, and equal lower ones
same_high : (h k : ℤ) (u v : ℕ) → u < 4294967296 → v < 4294967296
    → h *ℤ pos 4294967296 +ℤ pos u ≡ k *ℤ pos 4294967296 +ℤ pos v → h ≡ k
same_high h k u v p q e = omega (arith, ints)

same_low : (h k : ℤ) (u v : ℕ) → u < 4294967296 → v < 4294967296
    → h *ℤ pos 4294967296 +ℤ pos u ≡ k *ℤ pos 4294967296 +ℤ pos v → u ≡ v
same_low h k u v p q e = omega (arith, ints)

below_parts : (h k : ℤ) (u v : ℕ) → u < 4294967296 → v < 4294967296
    → (int_lt h k || (int_eq h k && ltb u v))
    ≡ int_lt (h *ℤ pos 4294967296 +ℤ pos u) (k *ℤ pos 4294967296 +ℤ pos v)
below_parts h k u v p q = grind (arith, ints)

bits_below : (l : ℤ) → SFits w32 l → of_z w32 l < 4294967296
bits_below l f = (Fits-of_z f).fits

pub equal_by : (h k l m : ℤ) → SFits w32 l → SFits w32 m
    → (int_eq h k && int_eq l m) ≡ int_eq (whole_of h l) (whole_of k m)
equal_by h k l m f g =
    iff_same (int_eq h k && int_eq l m) (int_eq (whole_of h l) (whole_of k m))
    (λ e.
    let parts = and_parts (int_eq h k) (int_eq l m) e in
    int_equal (whole_of h l) (whole_of k m)
    (ap₂ whole_of (int_same h k parts.0) (int_same l m parts.1)))
    (λ e.
    let same = int_same (whole_of h l) (whole_of k m) e in
    let p = bits_below l f in
    let q = bits_below m g in
    let low = same_low h k (of_z w32 l) (of_z w32 m) p q same in
    and_from (int_eq h k) (int_eq l m)
    (int_equal h k (same_high h k (of_z w32 l) (of_z w32 m) p q same))
    (int_equal l m
    (sym (to_z-of_z w32 l f) ∙ ap (to_z w32) low ∙ to_z-of_z w32 m g)))

pub below_by : (h k l m : ℤ) → SFits w32 l → SFits w32 m
    → (int_lt h k || (int_eq h k && is_below_unsigned l m))
    ≡ int_lt (whole_of h l) (whole_of k m)
below_by h k l m f g =
    below_parts h k (of_z w32 l) (of_z w32 m) (bits_below l f) (bits_below m g)

-- where the upper half is the sign, the lower one is the integer
whole_of_sign : (l : ℤ) → SFits w32 l → whole_of (sign_of l) l ≡ l
whole_of_sign (pos n) f = omega (arith, ints, f.sfits)
whole_of_sign (negsuc n) f = omega (arith, ints, f.sfits)

-- the upper half of an integer in the range of `int` is the sign of the lower one
signed_high : (h l : ℤ) → SFits w32 l → SFits w32 (whole_of h l) → h ≡ sign_of l
signed_high h (pos n) f g = omega (arith, ints, f.sfits, g)
signed_high h (negsuc n) f g = omega (arith, ints, f.sfits, g)

pub int_by : (h l : ℤ) → SFits w32 l → int_eq h (sign_of l) ≡ is_int (whole_of h l)
int_by h l f =
    iff_same (int_eq h (sign_of l)) (is_int (whole_of h l))
    (λ e.
    let same = ap (λ s. whole_of s l) (int_same h (sign_of l) e) ∙ whole_of_sign l f in
    ap is_int same ∙ int_fits l f)
    (λ e. int_equal h (sign_of l) (signed_high h l f (fits_int (whole_of h l) e)))

pub sign_by : (v : ℤ) → cond (int_lt v (pos 0)) (negsuc 0) (pos 0) ≡ sign_of v
sign_by (pos n) = grind arith
sign_by (negsuc n) = refl

cond_whole : (b : Bool) (h k l m : ℤ)
    → whole_of (cond b h k) (cond b l m) ≡ cond b (whole_of h l) (whole_of k m)
cond_whole true h k l m = refl
cond_whole false h k l m = refl

-- halves that went through casts are halves of the same integer
pub passed_whole : (h l v : ℤ) → SFits w32 h → SFits w32 l → SFits w64 v
    → whole_of h l ≡ to_z w64 (of_z w64 v)
    → whole_of (to_z w32 (of_z w32 h)) (to_z w32 (of_z w32 l)) ≡ v
passed_whole h l v f g k e =
    ap₂ whole_of (to_z-of_z w32 h f) (to_z-of_z w32 l g) ∙ e ∙ to_z-of_z w64 v k

-- ## 64 integers

pub whole_lane : (high low : List ℤ) (i : ℕ) → i < 64
    → lane_of (whole_lanes high low) i ≡ whole_of (lane_of high i) (lane_of low i)
whole_lane high low i h =
    get_or-map-range_with_len (λ k. whole_of (lane_of high k) (lane_of low k)) 0 64 i i (pos 0) h
    (zero-add i)

-- a lane of `now` is the integer of its halves, where `now` is equal to the integers of halves
pub lane_is : (high low now : List ℤ) → whole_lanes high low ≡ now → (i : ℕ) → i < 64
    → whole_of (lane_of high i) (lane_of low i) ≡ lane_of now i
lane_is high low now is i h = sym (whole_lane high low i h) ∙ ap (λ l. lane_of l i) is

pub set_whole : (high low high' low' now : List ℤ) (k : ℕ) (h l v : ℤ)
    → whole_lanes high low ≡ now → whole_of h l ≡ v
    → ((i : ℕ) → i < 64 → lane_of high' i ≡ cond (i == k) h (lane_of high i))
    → ((i : ℕ) → i < 64 → lane_of low' i ≡ cond (i == k) l (lane_of low i))
    → (i : ℕ) → i < 64 → lane_of (whole_lanes high' low') i ≡ cond (i == k) v (lane_of now i)
set_whole high low high' low' now k h l v is e p q i lt =
    whole_lane high' low' i lt ∙ ap₂ whole_of (p i lt) (q i lt)
    ∙ cond_whole (i == k) h (lane_of high i) l (lane_of low i)
    ∙ ap₂ (cond (i == k)) e (lane_is high low now is i lt)

pub blend_whole : (mask : ℕ) (high low ha la a hb lb b : List ℤ) → IsBlend mask ha hb high
    → IsBlend mask la lb low → whole_lanes ha la ≡ a → whole_lanes hb lb ≡ b
    → IsBlend mask a b (whole_lanes high low)
blend_whole mask high low ha la a hb lb b p q is_a is_b i h =
    whole_lane high low i h ∙ ap₂ whole_of (p i h) (q i h)
    ∙ cond_whole (on mask i) (lane_of ha i) (lane_of hb i) (lane_of la i) (lane_of lb i)
    ∙ ap₂ (cond (on mask i)) (lane_is ha la a is_a i h) (lane_is hb lb b is_b i h)

-- integers in the range of `int` are their lower halves
low_lane : (high low now : List ℤ) → whole_lanes high low ≡ now → AreInts now → AreInts low
    → (i : ℕ) → i < 64 → lane_of low i ≡ lane_of now i
low_lane high low now is ints_now ints_low i h =
    let same = lane_is high low now is i h in
    let fits = fits_int (lane_of low i) (ints_low i h) in
    let whole_fits = fits_int (whole_of (lane_of high i) (lane_of low i))
    (ap is_int same ∙ ints_now i h) in
    sym (whole_of_sign (lane_of low i) fits)
    ∙ ap (λ s. whole_of s (lane_of low i))
    (sym (signed_high (lane_of high i) (lane_of low i) fits whole_fits))
    ∙ same

pub signed_lane : (high low : List ℤ) → AreInts low
    → ((i : ℕ) → i < 64 → lane_of high i ≡ sign_of (lane_of low i))
    → (i : ℕ) → i < 64 → lane_of (whole_lanes high low) i ≡ lane_of low i
signed_lane high low ints_low signs i h =
    whole_lane high low i h ∙ ap (λ s. whole_of s (lane_of low i)) (signs i h)
    ∙ whole_of_sign (lane_of low i) (fits_int (lane_of low i) (ints_low i h))

pub kernel_whole : (op : ℤ → ℤ → Option ℤ) (active faults : ℕ) (high low ha la a hb lb b : List ℤ)
    → AreInts low → ((i : ℕ) → i < 64 → lane_of high i ≡ sign_of (lane_of low i))
    → whole_lanes ha la ≡ a → AreInts a → AreInts la
    → whole_lanes hb lb ≡ b → AreInts b → AreInts lb
    → IsKernel op la lb active low faults → IsKernel op a b active (whole_lanes high low) faults
kernel_whole op active faults high low ha la a hb lb b ints_low signs is_a ints_a ints_la is_b
    ints_b ints_lb k = record {
      values = λ i h.
          signed_lane high low ints_low signs i h ∙ k.values i h
          ∙ ap₂ (λ u v. kept (on active i) (op u v)) (low_lane ha la a is_a ints_a ints_la i h)
          (low_lane hb lb b is_b ints_b ints_lb i h);
      fault_bits = λ i h.
          k.fault_bits i h
          ∙ ap₂ (λ u v. faulty (on active i) (op u v)) (low_lane ha la a is_a ints_a ints_la i h)
          (low_lane hb lb b is_b ints_b ints_lb i h);
    }
