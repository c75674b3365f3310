use Rattle.std.proofs.Common.{◌≡◌, ℕ, Bool, true, false, not, ◌&&◌, nat_eq, refl, ap}
use Rattle.std.proofs.Common.{◌∙◌, sym, get_or, replicate, lit<, w32, to_z}
use Rattle.std.proofs.lemmas.Simd.{get_or-replicate}
use Rattle.std.proofs.Common.{◌%◌, eqb-true}
use lib.Count.{count_trailing_zeros}
use Rattle.lb_lanes.specs.Kernels.{bits_lane}
use Rattle.lb_lanes.specs.Planes.{on}
use Rattle.lb_lanes.proofs.Checks.{can_divide_by, int_same}
use Rattle.lb_lanes.proofs.OnPlanes.{on-and, on-flip, on-zero, flip}
use Rattle.lb_lanes.proofs.WordArithmetic.{word_equal_is}
use Rattle.lb_lanes.proofs.Widths.{inside}
use Rattle.lb_lanes.proofs.word_divisions.common_divisor.Goals as goal

-- a live lane is the same, where no live lane is not the same
alike : (live same : Bool) → live ≡ true → (live && not same) ≡ false → same ≡ true
alike true true e f = refl
alike true false e f = sym f
alike false same e f = cc

unequal : (m n : ℕ) → (m ≡ n → ⊥) → nat_eq m n ≡ false
unequal m n h = by (nat_eq m n) refl
  where
    by : (b : Bool) → nat_eq m n ≡ b → b ≡ false
    by true e = absurd (h (eqb-true m n e))
    by false e = refl

pub returns-then-others-eq0 : goal.returns-then-others-eq0
returns-then-others-eq0 c =
    let active = c.args.active in
    let b = c.args.b.now in
    let place = count_trailing_zeros 64 active % 64 in
    let d = get_or b place 0 in
    let same = c.tested.result in (
      λ i h live.
          let none : (on active i && not (on same i)) ≡ false
          = ap (λ s. on active i && s)
          (sym (on-flip same i c.tested.type_inv (inside c.args.width i h)))
          ∙ sym (on-and active (flip same) i) ∙ ap (λ n. on n i) c.if-others-eq0.true
          ∙ on-zero i in
          int_same (bits_lane b i) (to_z w32 (get_or (replicate 64 d) i 0))
          (sym (c.tested.ensures i h) ∙ alike (on active i) (on same i) live none)
          ∙ ap (to_z w32) (get_or-replicate 64 i d 0 (inside c.args.width i h)),
      λ v.
          can_divide_by v (to_z w32 d)
          (sym (word_equal_is d 0 (c.fits-b place) (lit< tt)) ∙ unequal d 0 c.if-divisor-eq0.false)
          (sym (word_equal_is d 4294967295 (c.fits-b place) (lit< tt))
          ∙ unequal d 4294967295 c.if-divisor.false),
    )
