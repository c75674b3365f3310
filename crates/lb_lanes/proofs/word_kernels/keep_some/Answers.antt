use Rattle.std.proofs.Common.{◌≡◌, ◌<◌, Bool, true, false, not, ℤ, pos, ◌∙◌, ap₂, cond, refl}
use Rattle.std.proofs.Common.{arith}
use Rattle.lb_lanes.specs.Kernels.{bits_lane}
use Rattle.lb_lanes.specs.Planes.{on}
use Rattle.lb_lanes.proofs.OnPlanes.{on-flip}
use Rattle.lb_lanes.proofs.WordArithmetic.{zero_word_at}
use Rattle.lb_lanes.proofs.word_kernels.keep_some.Goals as goal

turned : (b : Bool) (x y : ℤ) → cond (not b) x y ≡ cond b y x
turned true x y = refl
turned false x y = refl

pub returns : goal.returns
returns c i h =
    let old = bits_lane c.args.lanes.now i in
    let w : i < 64 = omega (arith, h, c.args.width.few) in
    c.commit.ensures i h
    ∙ ap₂ (λ t z. cond t z old) (on-flip c.args.mask i c.ranges.mask.fits w) (zero_word_at i w)
    ∙ turned (on c.args.mask i) (pos 0) old
