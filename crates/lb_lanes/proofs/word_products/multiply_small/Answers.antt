use Rattle.std.proofs.Common.{◌≡◌, ◌≢◌, ◌<◌, ◌*ℤ◌, ap, ◌∙◌, arith, not-suc-le-zero}
use Rattle.std.proofs.Common.{below_more, set, w32, to_z}
use Rattle.std.proofs.lemmas.List.{get_or-set_same, get_or-set_other}
use Rattle.lb_lanes.specs.Kernels.{bits_lane}
use Rattle.lb_lanes.proofs.word_products.multiply_small.Goals as goal

pub loop-i-init : goal.loop-i-init
loop-i-init c small i h = absurd (not-suc-le-zero h)

pub loop-i-preserved : goal.loop-i-preserved
loop-i-preserved c small =
    let i = c.loop-i.i in
    let v = c.small_product-value.result.0 in
    let a = c.args.a.now in
    let b = c.args.b.now in
    let out = c.loop-i.out in
    let before : c.loop-i.largest < 65536 = omega (arith, small) in
    let here : c.small_product-value.result.1 < 65536 = omega (arith, small) in
    below_more (λ k. bits_lane (set out i v) k ≡ bits_lane a k *ℤ bits_lane b k) i
    (λ k l. let ne : k ≢ i = omega arith in
    ap (to_z w32) (get_or-set_other out i k v 0 ne) ∙ c.loop-i.invariant before k l)
    (ap (to_z w32) (get_or-set_same out i v 0 (omega arith))
    ∙ c.small_product-value.ensures here)
