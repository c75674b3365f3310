use Rattle.std.proofs.Common.{◌≡◌, ◌≢◌, ◌*ℤ◌, ap, sym, ◌∙◌, arith, not-suc-le-zero}
use Rattle.std.proofs.Common.{below_more, set, w32, to_z, eqb-true}
use Rattle.std.proofs.lemmas.List.{get_or-set_same, get_or-set_other}
use Rattle.std.proofs.lemmas.Nat.{le_or_l, le_or_r}
use Rattle.lb_lanes.specs.Kernels.{bits_lane}
use Rattle.lb_lanes.proofs.WordProducts.{is_zero}
use Rattle.lb_lanes.proofs.word_products.multiply_wide.Goals as goal

pub loop-i-init : goal.loop-i-init
loop-i-init c none i h = absurd (not-suc-le-zero h)

pub loop-i-preserved : goal.loop-i-preserved
loop-i-preserved c none =
    let i = c.loop-i.i in
    let v = c.product-low.result.0 in
    let a = c.args.a.now in
    let b = c.args.b.now in
    let out = c.loop-i.out in
    let before : c.loop-i.look ≡ 0
    = omega (arith, none, le_or_l c.loop-i.look c.product-low.result.1) in
    let seen : c.product-low.result.1 ≡ 0
    = omega (arith, none, le_or_r c.loop-i.look c.product-low.result.1) in
    below_more (λ k. bits_lane (set out i v) k ≡ bits_lane a k *ℤ bits_lane b k) i
    (λ k l. let ne : k ≢ i = omega arith in
    ap (to_z w32) (get_or-set_other out i k v 0 ne) ∙ c.loop-i.invariant before k l)
    (ap (to_z w32) (get_or-set_same out i v 0 (omega arith))
    ∙ c.product-low.ensures.value
    (sym c.product-low.ensures.look ∙ is_zero c.product-low.result.1 seen))

pub returns : goal.returns
returns c e i h = c.loop-i.invariant (eqb-true _ _ e) i (omega arith)
